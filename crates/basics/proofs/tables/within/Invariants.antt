-- The loop has tested the cells passed.
use mathlib.Core.Path.{◌≡◌}
use Rattle.basics.specs.Counting.{all_to}
use Rattle.basics.specs.Tables.{cell_within}
use Rattle.basics.proofs.tables.within.Given as goal

abbrev pub invariant-loop-i : goal.invariant-loop-i
invariant-loop-i l = l.ok ≡ all_to (cell_within l.table l.limit l.n) l.i
