pub mod UsedNames
