pub mod Facts
pub mod Missing
