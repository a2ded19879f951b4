pub mod Books
pub mod Effects
