pub mod Points
pub mod Answers
pub mod Goings
pub mod Carried
pub mod Causes
