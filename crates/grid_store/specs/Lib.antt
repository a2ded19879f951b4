pub mod Stores
pub mod Answered
pub mod Changing
pub mod Opening
pub mod Laws
