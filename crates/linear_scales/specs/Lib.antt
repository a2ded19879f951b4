pub mod Limited
pub mod Searches
pub mod Refusals
pub mod Sides
pub mod Queries
pub mod Roots
