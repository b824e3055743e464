pub mod HandlesAgree
pub mod TemplateTables
mod HandleKinds
mod HandleWalks
pub mod CallErrors
pub mod EachAddsUp
pub mod SlicesAgree
