pub mod Searching
pub mod Meeting
pub mod Filling
pub mod Ranges
pub mod Querying
pub mod Keyed
