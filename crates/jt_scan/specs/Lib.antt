pub mod Words
pub mod Literals
pub mod Cut
pub mod LineEnds
pub mod SourceView
pub mod Refused
pub mod View
pub mod internal
