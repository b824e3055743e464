pub mod ExpressionViews
pub mod StatementViews
