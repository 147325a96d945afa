-- The refusal is converted as the definition has it.
use mathlib.Core.Path.{ap, ◌∙◌}
use Rattle.sheets.specs.Answers.{written_says}
use Rattle.sheets.proofs.AnswerLaws.{written-said}
use Rattle.tolmupung.proofs.tolmupung_write_job.Goals as goal

pub returns : goal.returns
returns c =
    let w = c.write_job.ensures.written in
    record { told = written-said _ _ c.written_says.ensures.wrote c.written_says.ensures.refused ∙ ap written_says w.told; bytes = w.bytes }
