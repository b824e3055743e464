pub mod Grammar
pub mod Front
pub mod Cursor
pub mod Sizes
pub mod Named
pub mod Promises
pub mod internal
