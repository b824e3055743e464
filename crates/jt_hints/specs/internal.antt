pub mod Apart
pub mod Cuts
pub mod PlaceView
