pub mod Products
pub mod Cells
pub mod Walks
pub mod Literals
pub mod Images
pub mod Names
