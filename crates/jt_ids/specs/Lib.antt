pub mod FilterTable
pub mod LoopTable
pub mod OpTable
pub mod TestTable
