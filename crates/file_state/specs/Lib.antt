pub mod Journals
pub mod Memories
pub mod Publishings
pub mod Openings
pub mod Claims
pub mod Roots
pub mod Unused
