pub mod Joining
pub mod Placing
pub mod Speaking
pub mod Stepping
pub mod Making
pub mod Explaining
