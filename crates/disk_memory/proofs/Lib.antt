pub mod Ranges
pub mod Changes
pub mod Places
pub mod Walks
pub mod Syncs
pub mod Changing
pub mod CallsAhead
