-- A cost has 16 bits, and there are fewer than 2 ^ 16 instances.
use Prim.Native.Nat.{◌^◌, ◌-◌}
use native.Mathlib.Omega.{arith}
use borrow.Author.Rules.{rules}
use Rattle.basics.proofs.ChainLaws.{sum_to-fits, sum_to-ran}
use Rattle.rules.proofs.RuleLaws.{cost-most}
use Rattle.rules.specs.Selection.{cost_at, selected, selection_cost}
use Rattle.rules.proofs.selection.selection_cost.Goals as goal

pub sum-requires-clause-fits : goal.sum-requires-clause-fits
unfolding selection_cost
sum-requires-clause-fits c =
    sum_to-fits (cost_at c.args.costs.now c.args.types.now (selected c.args.selection.now)) c.args.k c.map.result c.map.ensures.source c.map.ensures.closure
    (λ x b q k. search rules) _
    (omega (arith, cost-most c.args.costs.now c.args.types.now (selected c.args.selection.now) (2 ^ 16 - 1) c.args.k (λ y. omega (arith, c.type_inv.costs y))))

pub returns : goal.returns
unfolding selection_cost
returns c =
    sum_to-ran (cost_at c.args.costs.now c.args.types.now (selected c.args.selection.now)) c.args.k c.map.result c.map.ensures.source c.map.ensures.closure
    (λ x b q k. search rules) _ c.sum.ensures.ran
