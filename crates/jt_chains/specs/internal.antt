pub mod AreFrom
