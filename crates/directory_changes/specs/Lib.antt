pub mod Changes
pub mod Fresh
pub mod Indices
pub mod Parts
pub mod Laws
