pub mod Rules
pub mod Reads
pub mod Covers
pub mod Marks
pub mod Verdicts
pub mod Dumps
