pub mod Quoted
pub mod Words
pub mod Instructions
pub mod Shapes
pub mod Marks
pub mod Listing
pub mod Listed
pub mod internal
