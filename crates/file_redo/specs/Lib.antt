pub mod Redoing
pub mod RedoLaws
