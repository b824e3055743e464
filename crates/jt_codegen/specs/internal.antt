pub mod Asked
pub mod ErrorsAlone
pub mod Naming
pub mod Statements
pub mod UnknownNames
