pub mod RuleTests
pub mod ScopeView
