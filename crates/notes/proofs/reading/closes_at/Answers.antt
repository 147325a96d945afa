-- Each part is asked.
use mathlib.Core.Path.{sym, ◌∙◌}
use Rattle.notes.proofs.ReadLaws.{ok-sound}
use Rattle.notes.proofs.reading.closes_at.Goals as goal

pub returns-then-is_ok : goal.returns-then-is_ok
returns-then-is_ok c =
    rw (c.splits_at.ensures, ← c.runs_out.ensures, ← ok-sound c.runs_out.result, sym c.is_ok.ensures.value ∙ c.if-is_ok.true)

pub returns-else-is_ok : goal.returns-else-is_ok
returns-else-is_ok c =
    rw (← c.runs_out.ensures, ← ok-sound c.runs_out.result, ← c.is_ok.ensures.value, c.if-is_ok.false)
