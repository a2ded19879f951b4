pub mod Heads
pub mod Scales
pub mod Removals
pub mod Merges
mod Cuts
mod Puts
mod InMemory
