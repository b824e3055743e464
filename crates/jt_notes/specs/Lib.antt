pub mod Notes
pub mod Views
pub mod internal
