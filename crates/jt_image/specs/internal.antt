pub mod HeaderView
pub mod TrailerView
pub mod Layout
