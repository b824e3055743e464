pub mod Collecting
pub mod Elements
pub mod Gives
pub mod Moves
pub mod Pending
pub mod Reading
pub mod Unwinding
