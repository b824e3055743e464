pub mod Asm
pub mod SourceLocs
pub mod Lower
pub mod Fits
pub mod Lawful
pub mod Emission
pub mod Compiles
