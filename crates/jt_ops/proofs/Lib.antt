pub mod RefusalsPropagate
pub mod AppendSteps
pub mod MembershipTests
pub mod Numbers
pub mod Pieces
pub mod Places
