-- Of the types passed, the copies have been counted, and those that the instance is behind.
use Prim.Native.Nat.{◌*◌, ◌^◌, ◌≤◌}
use mathlib.Core.Path.{◌≡◌}
use Rattle.basics.specs.Counting.{sum_to}
use Rattle.basics.specs.Tables.{cell}
use Rattle.rules.specs.Model.{type_at}
use Rattle.rules.proofs.model.type_at.Given as goal

abbrev pub invariant-loop-y : goal.invariant-loop-y
invariant-loop-y l =
    (l.counted ≤ 2 ^ 16 * l.y) × (l.counted ≡ sum_to (cell l.copies) l.y) × (l.behind ≤ l.y) × (l.behind ≡ type_at l.copies l.y l.i)
