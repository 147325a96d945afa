use Rattle.basics.proofs.ChainLaws.{any_to-ran}
use Rattle.placing.specs.Placing.{needed_in}
use borrow.Author.Rules.{rules}
use Rattle.placing.proofs.costing.needed.Goals as goal

pub returns : goal.returns
unfolding needed_in
returns c = any_to-ran _ _ c.any.ensures.ran (λ x b q k. search rules)
