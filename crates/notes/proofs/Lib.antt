pub mod ClaimLaws
pub mod AskLaws
pub mod TreeLaws
pub mod ReadLaws
pub mod CheckLaws
pub mod NoteLaws
