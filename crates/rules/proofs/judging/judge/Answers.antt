-- Of what is lent, the answer.
use mathlib.Core.Path.{ap}
use Rattle.rules.specs.Judge.{LentPapers, lent, judge}
use Rattle.rules.proofs.judging.judge.Goals as goal

pub returns : goal.returns
unfolding judge lent
returns c = ap (λ (l : LentPapers). l.judged) c.lend.ensures
