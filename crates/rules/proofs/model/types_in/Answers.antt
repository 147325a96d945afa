use borrow.Author.Rules.{rules}
use Rattle.basics.proofs.ChainLaws.{cells-made}
use Rattle.rules.specs.Model.{types_in}
use Rattle.rules.proofs.model.types_in.Goals as goal

pub returns : goal.returns
unfolding types_in
returns c = cells-made _ _ (λ x y q l k. search rules) c.from_fn.ensures.items
