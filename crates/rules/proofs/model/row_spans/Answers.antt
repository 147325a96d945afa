use borrow.Author.Rules.{rules}
use Rattle.basics.proofs.ChainLaws.{cells-made}
use Rattle.rules.proofs.model.row_spans.Goals as goal

pub returns : goal.returns
returns c = cells-made _ _ (λ x y q l k. search rules) c.from_fn.ensures.items
