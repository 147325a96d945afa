-- Types, delays and spacings stand in tables; each table over units reads them.
use borrow.Author.Rules.{rules}
use Rattle.basics.proofs.ChainLaws.{cells-made}
use Rattle.rules.proofs.ModelLaws.{tables-are}
use Rattle.rules.proofs.model.tables_of.Goals as goal

pub returns : goal.returns
returns c =
    tables-are c.args.job.now _ _ _ _ _ _ (search rules) (search rules) c.types_in-types.ensures (cells-made _ _ (λ x y q l k. search rules) c.from_fn-delays.ensures.items)
    (cells-made _ _ (λ x y q l k. search rules) c.from_fn-spacings.ensures.items) c.unit_spans.ensures c.unit_spans-2.ensures c.unit_spans-3.ensures
