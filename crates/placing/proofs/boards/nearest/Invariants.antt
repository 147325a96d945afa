-- The first of those that the links passed join to o.
use Rattle.placing.specs.Board.{nearest}
use mathlib.Core.Path.{◌≡◌}
use Rattle.placing.proofs.boards.nearest.Given as goal

abbrev pub invariant-loop-l : goal.invariant-loop-l
invariant-loop-l l = l.far ≡ nearest l.from l.to l.o l.x l.l
