use borrow.Author.Rules.{rules}
use Rattle.basics.specs.Counting.{only}
use Rattle.basics.proofs.TableLaws.{cells-held}
use Rattle.moves.specs.Tidy.{taken_at}
use Rattle.moves.proofs.tidying.taken_in.Goals as goal

pub returns : goal.returns
unfolding taken_at only
returns c = cells-held _ _ _ (λ i x l k. search rules) c.cells.ensures
