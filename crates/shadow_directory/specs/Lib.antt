pub mod Pages
pub mod Directories
pub mod Calls
pub mod NewPages
pub mod Images
pub mod Reads
pub mod WrittenParts
