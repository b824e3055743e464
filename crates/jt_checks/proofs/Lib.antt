pub mod FindingsHold
pub use FindingsHold.*
