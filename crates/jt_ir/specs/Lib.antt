pub mod Locals
pub mod Pool
pub mod Size
pub mod Slots
pub mod Takes
pub mod View
