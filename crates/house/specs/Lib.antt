pub mod House
pub mod Writing
