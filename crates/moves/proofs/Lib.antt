pub mod SumLaws
pub mod LentLaws
pub mod SlideLaws
pub mod SlideSays
pub mod TidyLaws
pub mod TidySays
pub mod DistanceLaws
pub mod MoveSteps
