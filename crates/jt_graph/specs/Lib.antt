pub mod Graph
pub mod View
pub mod internal
