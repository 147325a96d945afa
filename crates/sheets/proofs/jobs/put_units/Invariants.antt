-- The loop has put the types passed.
use mathlib.Core.Path.{◌≡◌}
use Rattle.bits.specs.Sheet.{many, put_all}
use Rattle.sheets.specs.JobSheet.{type_fields}
use Rattle.sheets.proofs.jobs.put_units.Given as goal

abbrev pub invariant-loop-y : goal.invariant-loop-y
invariant-loop-y l = l.out ≡ put_all l.initial.out l.at (many (type_fields l.job.costs l.job.copies l.job.times l.job.intervals) l.y)
