pub mod IncludeCollection
pub mod TemplatesByIndex
mod Vocabulary
use TemplatesByIndex.*
use Vocabulary.*
