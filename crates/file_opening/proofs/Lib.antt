pub mod FoundRoot
pub mod Refusals
pub mod Redone
pub mod RedoSteps
pub mod RedoChanges
pub mod Redoes
pub mod Renewed
pub mod Reopening
