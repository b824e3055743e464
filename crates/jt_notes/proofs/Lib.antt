pub mod BlocksUp
pub mod EntryNames
