pub mod Decimals
pub mod Finding
pub mod Splitting
pub mod Written
