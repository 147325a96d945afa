-- The cells passed hold what f gave, and the others 0.
use Rattle.basics.specs.Tables.{HoldsCells}
use Rattle.basics.proofs.tables.cells.Given as goal

abbrev pub invariant-loop-i : goal.invariant-loop-i
invariant-loop-i g l = HoldsCells (goal.F-post g l.f) l.i g.row.N l.table
