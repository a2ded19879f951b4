pub mod Refusing
pub mod Calling
pub mod Following
pub mod Telling
