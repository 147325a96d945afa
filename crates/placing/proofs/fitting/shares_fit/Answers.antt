use Rattle.basics.proofs.ChainLaws.{all_to-ran}
use Rattle.placing.specs.Fitting.{shares_fit}
use borrow.Author.Rules.{rules}
use Rattle.placing.proofs.fitting.shares_fit.Goals as goal

pub returns : goal.returns
unfolding shares_fit
returns c = all_to-ran _ _ c.all.ensures.ran (λ x b q k. search rules)
