pub mod Placing
pub mod Plans
pub mod Cutting
