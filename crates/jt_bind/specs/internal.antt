pub mod Names
pub mod Resolving
pub mod Selected
pub use Names.*
pub use Resolving.*
pub use Selected.*
