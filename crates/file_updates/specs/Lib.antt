pub mod Rooms
pub mod Ready
pub mod Plans
pub mod Writing
pub mod Outcomes
