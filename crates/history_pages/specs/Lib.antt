pub mod OwnerPages
pub mod PageLaws
pub mod SpellingLaws
pub mod HistoryLaws
pub mod HoldingLaws
pub mod NewPages
pub mod KnownPages
