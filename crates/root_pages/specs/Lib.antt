pub mod Fields
pub mod Headers
pub mod Areas
pub mod Reading
pub mod Lawful
pub mod Laws
