pub mod Model
pub mod Selection
pub mod Rules
pub mod Judge
pub mod Meets
