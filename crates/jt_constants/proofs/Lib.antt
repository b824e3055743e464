pub mod MovedWires
pub mod LoopPrefix
pub mod UniqueConstants
pub mod MergeKeepsRuns
pub mod MergeKeepsTyping
pub mod MergeIsNoLarger
pub mod MergedLawsHold
pub mod TableGrowth
