pub mod SessionIsolation
pub mod SessionLookup
