pub mod Kinds
pub mod Moves
pub mod States
