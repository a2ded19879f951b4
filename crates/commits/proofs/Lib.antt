pub mod OneBatch
pub mod Outcomes
