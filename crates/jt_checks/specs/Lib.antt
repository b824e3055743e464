pub mod Findings
pub mod FindingView
pub mod internal
