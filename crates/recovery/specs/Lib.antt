pub mod Beginnings
pub mod Faults
pub mod Refusals
pub mod Joins
pub mod Surveys
pub mod Reads
pub mod Laws
