use Rattle.basics.proofs.ChainLaws.{cells-made}
use borrow.Author.Rules.{rules}
use Rattle.placing.proofs.fitting.times_in.Goals as goal

pub returns : goal.returns
returns c = cells-made _ _ (λ x y q l k. search rules) c.from_fn.ensures.items
