-- The loop has found no fault in the rows passed.
use mathlib.Core.Path.{◌≡◌}
use Rattle.basics.specs.Faults.{first}
use Rattle.rules.specs.Rules.{row_fault_at}
use Rattle.rules.proofs.rows.rows_fault.Given as goal

abbrev pub invariant-loop-o : goal.invariant-loop-o
invariant-loop-o l =
    first (row_fault_at l.k l.t l.starts l.insts l.times l.delays l.selection) l.o ≡ 0
