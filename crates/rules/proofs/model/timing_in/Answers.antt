-- Times and intervals of the rows, then each in steps.
use borrow.Author.Rules.{rules}
use Rattle.basics.proofs.ChainLaws.{cells-made}
use Rattle.rules.proofs.ModelLaws.{timing-is}
use Rattle.rules.proofs.model.timing_in.Goals as goal

pub returns : goal.returns
returns c =
    timing-is _ _ _ _ _ _ _ _ _ _ c.row_spans-times.ensures c.row_spans-intervals.ensures (cells-made _ _ (λ x y q l k. search rules) c.from_fn.ensures.items)
    (cells-made _ _ (λ x y q l k. search rules) c.from_fn-2.ensures.items)
