pub mod Points
pub mod Told
pub mod Runs
pub mod Laws
