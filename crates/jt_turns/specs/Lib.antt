pub mod Lines
pub mod Numbering
pub mod Openings
pub mod Outcomes
pub mod Shown
pub mod SessionStates
pub mod Worlds
