pub mod Chains
pub mod Findings
pub mod Laws
pub mod Lines
pub mod Linked
pub mod Refusals
pub mod Small
pub mod internal
