pub mod Meeting
mod DataPages
mod Committing
pub mod RootSteps
mod Closing
mod Finishing
