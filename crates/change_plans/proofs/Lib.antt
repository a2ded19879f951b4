pub mod Inside
pub mod Buckets
pub mod Noted
pub mod Pages
pub mod InMemory
pub mod Overfull
pub mod CutPages
pub mod JoinPages
