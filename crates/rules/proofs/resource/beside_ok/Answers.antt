use borrow.Author.Rules.{rules}
use Rattle.basics.proofs.ChainLaws.{all_to-ran}
use Rattle.rules.specs.Rules.{beside_ok}
use Rattle.rules.proofs.resource.beside_ok.Goals as goal

pub returns : goal.returns
unfolding beside_ok
returns c = all_to-ran _ _ c.all.ensures.ran (λ x b q k. search rules)
