-- The refusal is converted as the definition has it.
use mathlib.Core.Path.{ap, ◌∙◌}
use Rattle.notes.specs.Check.{checked_says}
use Rattle.notes.proofs.CheckLaws.{checked-said}
use Rattle.tolmupung.proofs.tolmupung_check_note.Goals as goal

pub returns : goal.returns
returns c = checked-said _ _ c.checked_says.ensures.accepted c.checked_says.ensures.refused ∙ ap checked_says c.check_note.ensures
