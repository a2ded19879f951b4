pub mod Spelling
pub mod Reading
pub mod Patching
pub mod Laws
pub mod CellBoxes
