-- The loop has filled the cells passed.
use mathlib.Core.Path.{◌≡◌}
use lib.ListN.{length}
use Rattle.basics.specs.Tables.{filled}
use Rattle.sheets.specs.Columns.{column_at}
use Rattle.sheets.proofs.columns.fill_column.Given as goal

abbrev pub invariant-loop-i : goal.invariant-loop-i
invariant-loop-i l = (length l.table ≡ length l.initial.table) × (l.table ≡ filled l.initial.table (column_at l.s l.at l.stride l.width) l.i)
