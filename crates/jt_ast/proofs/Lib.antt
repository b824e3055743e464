pub mod OnlyArgument
pub mod ExpressionViews
pub mod CollectedLists
pub mod RemainingParts
pub mod StatementViews
