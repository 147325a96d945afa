-- The loop has found no fault in the links passed.
use mathlib.Core.Path.{◌≡◌}
use Rattle.basics.specs.Faults.{first}
use Rattle.sheets.specs.JobSheet.{link_group}
use Rattle.sheets.proofs.jobs.links_fault.Given as goal

abbrev pub invariant-loop-i : goal.invariant-loop-i
invariant-loop-i l = first (link_group l.bytes l.job.from l.job.to l.job.n) l.i ≡ 0
