pub mod Sides
pub mod Beside
pub mod Losing
pub mod Partners
pub mod Found
