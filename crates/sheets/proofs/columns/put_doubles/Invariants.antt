-- The loop has put the pairs of cells passed.
use mathlib.Core.Path.{◌≡◌}
use Rattle.bits.specs.Sheet.{many, put_all}
use Rattle.sheets.specs.Columns.{double}
use Rattle.sheets.proofs.columns.put_doubles.Given as goal

abbrev pub invariant-loop-i : goal.invariant-loop-i
invariant-loop-i l = l.out ≡ put_all l.initial.out l.at (many (double l.width l.table l.width2 l.table2 l.first) l.i)
