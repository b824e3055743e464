pub mod Turns
pub mod WorldCode
pub mod internal
