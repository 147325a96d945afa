pub mod SearchMeets
pub mod SearchSays
pub mod WalkLaws
pub mod SearchSteps
