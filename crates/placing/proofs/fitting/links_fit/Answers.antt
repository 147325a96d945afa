use Rattle.placing.proofs.LinkSteps.{all-linked, each-linked, links-over}
use mathlib.Core.Path.{◌∙◌}
use borrow.Author.Rules.{rules}
use Rattle.placing.proofs.fitting.links_fit.Goals as goal

pub all-requires-clause-callable : goal.all-requires-clause-callable
all-requires-clause-callable c =
    let a = c.args in each-linked a.near.now a.op a.reach c.below.ensures c.requires.0 (λ x q r. search rules) (λ x small. search rules)

pub returns : goal.returns
returns c =
    let a = c.args in
    all-linked c.all.new.self _ c.below.ensures (λ x b q k. search rules) c.all.ensures.ran
    ∙ links-over a.near.now a.op a.times.now a.delays.now a.starts.now a.insts.now a.wire a.clock a.reach a.s a.time a.delay
