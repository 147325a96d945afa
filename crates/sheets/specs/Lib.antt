pub mod Limits
pub mod Answers
pub mod Groups
pub mod Columns
pub mod JobRecord
pub mod JobSheet
pub mod PlanSheet
