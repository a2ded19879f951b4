pub mod Turning
pub mod Altering
pub mod Single
