pub mod NewPages
pub mod Contents
pub mod Making
