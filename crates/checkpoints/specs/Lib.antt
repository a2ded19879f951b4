pub mod Disks
pub mod Checkpoints
