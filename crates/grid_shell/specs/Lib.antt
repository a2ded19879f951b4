pub mod Statuses
pub mod Endings
pub mod Printing
pub mod Inputs
pub mod Runs
pub mod Files
pub mod Headline
pub mod Commands
