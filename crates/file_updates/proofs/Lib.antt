pub mod Places
pub mod Refusing
pub mod Counting
pub mod Numbers
pub mod Planned
pub mod Chosen
pub mod Committed
pub mod UpdateCauses
