-- What the instance moves past is counted.
use borrow.Author.Rules.{rules}
use mathlib.Core.Path.{ap}
use Prim.Native.Nat.{ℕ, ◌+◌}
use Rattle.moves.proofs.SumLaws.{counted-ran}
use Rattle.moves.specs.Tidy.{moves_past, moves_to}
use Rattle.moves.proofs.tidying.moves_to.Goals as goal

pub returns : goal.returns
unfolding moves_to
returns c =
    ap (λ (x : ℕ). c.args.i + x)
    (counted-ran (moves_past c.args.types.now c.args.plan.now.selection c.args.i) c.args.plan.now.k c.filter.result c.filter.ensures.source c.filter.ensures.closure (λ x b q k. search rules) _ c.count-passed.ensures.ran)
