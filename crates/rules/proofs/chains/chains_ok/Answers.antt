use mathlib.Core.Path.{◌∙◌, sym}
use native.Mathlib.Omega.{arith}
use Rattle.rules.proofs.ChainLaws.{tested-none, tested-off, tested-on}
use Rattle.rules.proofs.chains.chains_ok.Goals as goal

-- at first nothing has been brought
pub loop-l-init : goal.loop-l-init
loop-l-init c = tested-none _ _ _ _ _ _

pub loop-l-preserved-then-not-same_step : goal.loop-l-preserved-then-not-same_step
loop-l-preserved-then-not-same_step c =
    tested-off _ _ _ _ _ _ _ _ c.loop-l.invariant (sym c.same_step.ensures ∙ c.if-not-same_step.true)

pub loop-l-preserved : goal.loop-l-preserved
loop-l-preserved c =
    let x = c.carried-reached.ensures in
    tested-on _ _ _ _ _ _ _ _ c.loop-l.invariant _ _ (sym c.same_step.ensures ∙ c.if-not-same_step.false) x.0 c.cell-b.ensures.0 _ x.1
    (omega arith) c.raise.ensures
