pub mod Dims
pub mod CellBoxes
pub mod Walks
pub mod Laws
