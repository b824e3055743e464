pub mod InOrder
pub mod MoreEntries
pub mod Stored
