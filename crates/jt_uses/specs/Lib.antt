pub mod Uses
pub mod UseView
pub mod internal
