pub mod Buckets
pub mod OnPage
pub mod Judging
pub mod Putting
pub mod Changing
pub mod Search
pub mod Laws
