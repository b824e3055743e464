pub mod StepRefinement
pub mod StepLemmas
pub mod PoppedValues
pub mod MapUnlessKeyFault
pub mod ReturnCorrect
pub mod OutputPrefix
pub mod DrainedOutput
pub mod EscapedLength
pub mod SlicesAddUp
pub mod UseAddsUp
pub mod MeteredSlices
pub mod ContextsAlike
pub mod SinkWrites
pub mod FastPathCorrect
pub mod TopEntries
pub mod FastInstructionsCorrect
pub mod NumberOperators
pub mod MapEntries
pub mod StackOperations
pub mod UnpackCorrect
pub mod TopValues
pub mod MapSize
pub mod AllocationPoints
mod CacheCorrect
pub mod CheckCorrect
mod LoadedMember
mod MemberCorrect
mod MemberFound
pub mod LimitsRaised
pub mod PushedMeasured
pub mod PeaksAddUp
pub mod LeastBudget
pub mod Vocabulary
