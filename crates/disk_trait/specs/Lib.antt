pub mod Causes
pub mod Disk
pub mod Calls
pub mod Moments
pub mod Bay
pub mod Streams
