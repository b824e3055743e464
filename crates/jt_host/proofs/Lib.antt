pub mod FirstItems
pub mod HintsHold
pub mod MeantHolds
mod MeteredRuns
pub mod NotesTold
mod RefusedCode
pub mod SourceInsertion
pub mod TemplateNear
