pub mod Drawing
pub mod Rounds
pub mod Places
pub mod Worked
