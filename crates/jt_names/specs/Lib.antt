pub mod Names
pub mod FactsOfTemplates
pub mod FactsOfChains
pub mod TreeCode
pub mod FactsAreProps
pub mod internal
