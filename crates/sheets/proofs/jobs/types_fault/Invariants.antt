-- The loop has found no fault in the types passed, and `before` is their copies.
use Prim.Native.Nat.{◌≤◌, ◌*◌}
use mathlib.Core.Path.{◌≡◌}
use Rattle.basics.specs.Counting.{sum_to}
use Rattle.basics.specs.Faults.{first}
use Rattle.basics.specs.Tables.{cell}
use Rattle.sheets.specs.JobSheet.{types_at, type_group}
use Rattle.sheets.proofs.jobs.types_fault.Given as goal

abbrev pub invariant-loop-y : goal.invariant-loop-y
invariant-loop-y l =
    record {
      few : l.before ≤ 65535 * l.y;
      copies : l.before ≡ sum_to (cell l.job.copies) l.y;
      none : first (type_group l.bytes (types_at l.job.n l.job.e) l.job.copies l.job.times l.job.intervals) l.y ≡ 0;
    }
