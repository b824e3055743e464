pub mod Limited
pub mod Pieces
