-- The cost of the instances passed.
use Prim.Native.Nat.{◌*◌, ◌^◌, ◌≤◌}
use Rattle.basics.specs.Counting.{sum_to}
use Rattle.placing.specs.Costing.{reached}
use Rattle.rules.specs.Selection.{cost_at}
use mathlib.Core.Path.{◌≡◌}
use Rattle.placing.proofs.costing.cost_of.Given as goal

abbrev pub invariant-loop-i : goal.invariant-loop-i
invariant-loop-i l = (l.sum ≤ 2 ^ 16 * l.i) × (l.sum ≡ sum_to (cost_at l.costs l.types (reached l.types l.lows)) l.i)
