pub mod Changed
pub mod Pinning
pub mod Answering
pub mod Staying
pub mod Counting
pub mod Law
