pub mod Refusals
pub mod UnderWay
pub mod Begun
pub mod Redoing
pub mod Slots
pub mod Opening
