pub mod Composed
pub mod Finding
pub mod FrameThere
pub mod Framed
pub mod Growing
pub mod Judged
pub mod Matches
pub mod OnPage
pub mod Parts
pub mod Places
pub mod Pointwise
pub mod Searches
pub mod Standing
pub mod Tables
mod Divided
mod Shortened
mod Without
