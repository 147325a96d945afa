-- The loop has put the cells passed.
use mathlib.Core.Path.{◌≡◌}
use Rattle.bits.specs.Sheet.{many, put_all}
use Rattle.sheets.specs.Columns.{single}
use Rattle.sheets.proofs.columns.put_singles.Given as goal

abbrev pub invariant-loop-i : goal.invariant-loop-i
invariant-loop-i l = l.out ≡ put_all l.initial.out l.at (many (single l.width l.table) l.i)
