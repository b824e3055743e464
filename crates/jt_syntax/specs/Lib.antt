pub mod Prefixes
pub mod internal
