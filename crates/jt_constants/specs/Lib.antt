pub mod Merged
pub mod Laws
pub mod Refusals
pub mod internal
