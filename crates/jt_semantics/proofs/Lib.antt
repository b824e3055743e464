pub mod Among
pub mod EachElement
pub mod TestTemplates
mod MeaningExamples
mod RefusalExamples
pub mod SameEval
pub mod EnvLookup
pub mod EnvMemoryAgreement
pub mod CallInvariant
pub mod ExpressionCorrect
pub mod ScopesToSlots
pub mod StatementCorrect
pub mod RoutineLookup
pub mod ChainOrder
pub mod ResolutionCorrect
pub mod PoolCorrect
pub mod ProgramCorrect
pub mod MeaningIsMonotone
pub mod KeptUses
pub mod ArityOfParts
pub mod ArityFromRules
pub mod ArityCorrect
pub mod PooledArity
pub mod TreesHaveParts
pub mod InstructionBounds
pub mod EntryBounds
pub mod ProgramSize
mod BlockHeightExample
pub mod ValueBounds
pub mod LocalBounds
pub mod Scopes
pub mod FreeNameWeights
pub mod DefinedNames
pub mod NameCounts
pub mod NameLengths
pub mod WithoutSuper
pub mod ChainRules
