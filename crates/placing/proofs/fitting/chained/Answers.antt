use Rattle.placing.proofs.LinkSteps.{any-linked, chained-over, each-linked}
use mathlib.Core.Path.{◌∙◌}
use borrow.Author.Rules.{rules}
use Rattle.placing.proofs.fitting.chained.Goals as goal

pub any-requires-clause-callable : goal.any-requires-clause-callable
any-requires-clause-callable c =
    let a = c.args in each-linked a.near.now a.op a.reach c.below.ensures c.requires.0 (λ x q r. search rules) (λ x small. search rules)

pub returns : goal.returns
returns c =
    let a = c.args in
    any-linked c.any.new.self _ c.below.ensures (λ x b q k. search rules) c.any.ensures.ran ∙ chained-over a.near.now a.op a.starts.now a.reach a.s
