pub mod Filters
pub mod Eval
pub mod Inside
pub mod Loops
pub mod Tests
pub mod Values
pub mod TheFilters
