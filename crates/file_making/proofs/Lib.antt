pub mod Entries
pub mod FieldByField
pub mod Numbered
pub mod Growing
