pub mod Promises
pub mod Starred
