use borrow.Author.Rules.{rules}
use Rattle.basics.proofs.ChainLaws.{any_to-ran}
use Rattle.moves.proofs.tidying.taken.Goals as goal

pub returns : goal.returns
returns c = any_to-ran _ _ c.any.ensures.ran (λ x b q k. search rules)
