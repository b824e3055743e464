pub mod SubstringSearch
