pub mod NamespaceLayout
pub mod Sums
pub mod internal
