pub mod Files
pub mod Pages
pub mod Keeping
pub mod CallLaws
pub mod FileLaws
pub mod RedoLaws
