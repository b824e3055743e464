pub mod Expressions
pub mod ExpressionView
pub mod Statements
pub mod StatementView
pub mod Texts
pub mod Sizes
pub mod Written
