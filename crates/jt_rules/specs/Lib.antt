pub mod CompileEnv
pub mod Arguments
pub mod Rules
pub mod Known
