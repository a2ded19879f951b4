pub mod Files
pub mod Steps
pub mod FileLaws
pub mod Open
