-- The refusal is converted as the definition has it.
use mathlib.Core.Path.{ap, ◌∙◌}
use Rattle.rules.specs.Judge.{judged_says}
use Rattle.rules.proofs.JudgeLaws.{judged-said}
use Rattle.tolmupung.proofs.tolmupung_judge.Goals as goal

pub returns : goal.returns
returns c = judged-said _ _ c.judged_says.ensures.passed c.judged_says.ensures.refused ∙ ap judged_says c.judge.ensures
