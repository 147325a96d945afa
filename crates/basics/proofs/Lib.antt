pub mod AnswerLaws
pub mod CountLaws
pub mod TableLaws
pub mod FaultLaws
pub mod ChainLaws
