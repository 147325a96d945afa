-- The number of a test is 1 where it holds.
use Rattle.basics.proofs.TableLaws.{cells-held}
use Rattle.basics.specs.Counting.{only}
use Rattle.placing.specs.Placing.{smallest_in}
use Rattle.std.specs.Int.{from_bool}
use borrow.Author.Rules.{rules}
use mathlib.Core.Bool.{Bool, true, false}
use mathlib.Core.Path.{◌≡◌, refl}
use Rattle.placing.proofs.costing.smallest.Goals as goal

number-only : (test : Bool) → from_bool test ≡ only test 1
unfolding only
number-only true = refl
number-only false = refl

pub returns : goal.returns
unfolding smallest_in
returns c = cells-held _ _ _ (λ i x l k. search (rules, number-only)) c.cells.ensures
