use borrow.Author.Rules.{rules}
use Rattle.basics.proofs.ChainLaws.{all_to-ran}
use Rattle.rules.specs.Selection.{order_ok}
use Rattle.rules.proofs.selection.order_ok.Goals as goal

pub returns : goal.returns
unfolding order_ok
returns c = all_to-ran _ _ c.all.ensures.ran (λ x b q k. search rules)
