pub mod Batches
pub mod Reading
pub mod Laws
pub mod Gates
pub mod Committing
pub mod Scans
