pub mod Gives
pub mod HeadView
pub mod PositionView
pub mod Readers
pub mod Reading
pub mod SideView
