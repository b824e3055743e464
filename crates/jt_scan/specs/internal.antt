pub mod PartView
pub mod Scanning
