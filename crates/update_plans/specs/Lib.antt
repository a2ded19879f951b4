pub mod Plans
pub mod Putting
