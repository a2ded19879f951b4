pub mod Words
pub mod Standing
pub mod Joining
pub mod Setting
pub mod Patches
pub mod CellBoxPatches
