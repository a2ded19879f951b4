pub mod Each
pub mod Numbers
pub mod Places
pub mod PageNumbers
mod Vectors
pub mod HalvesLemmas
pub mod Zipped
pub mod Meeting
pub mod Parted
mod Adjoining
