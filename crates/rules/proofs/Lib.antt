pub mod ModelLaws
pub mod RuleLaws
pub mod HeldLaws
pub mod ChainLaws
pub mod ChainRule
pub mod JudgeLaws
pub mod JudgeMeets
