use mathlib.Core.Path.{◌∙◌}
use Rattle.moves.proofs.DistanceLaws.{added-moves}
use Rattle.moves.proofs.sliding.moved.Goals as goal

pub returns : goal.returns
returns c = c.saturating_add_signed.ensures ∙ added-moves c.args.distance c.args.start c.ranges.distance c.requires.0 c.requires.1
