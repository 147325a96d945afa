use borrow.Author.Rules.{rules}
use Rattle.basics.proofs.TableLaws.{cells-held}
use Rattle.moves.proofs.tidying.follows_in.Goals as goal

pub returns : goal.returns
returns c = cells-held _ _ _ (λ i x l k. search rules) c.cells.ensures
