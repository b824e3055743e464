pub mod Disk
pub mod Images
