use borrow.Author.Rules.{rules}
use Rattle.basics.proofs.ChainLaws.{all_to-ran}
use Rattle.rules.specs.Rules.{resource_ok}
use Rattle.rules.proofs.resource.resource_ok.Goals as goal

pub returns : goal.returns
unfolding resource_ok
returns c = all_to-ran _ _ c.all.ensures.ran (λ x b q k. search rules)
