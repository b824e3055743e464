pub mod Escaping
pub mod Joining
pub mod internal
pub mod Shown
