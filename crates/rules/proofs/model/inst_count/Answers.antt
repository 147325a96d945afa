-- A type has fewer than 2 ^ 16 copies, and there are fewer than 2 ^ 16 types.
use Prim.Native.Nat.{◌-◌, ◌^◌}
use native.Mathlib.Omega.{arith}
use borrow.Author.Rules.{rules}
use Rattle.basics.specs.Tables.{cell}
use Rattle.basics.proofs.ChainLaws.{sum_to-fits, sum_to-ran}
use Rattle.basics.proofs.CountLaws.{sum_to-most}
use Rattle.rules.proofs.model.inst_count.Goals as goal

pub sum-requires-clause-fits : goal.sum-requires-clause-fits
sum-requires-clause-fits c =
    sum_to-fits (cell c.args.copies.now) c.args.m c.map.result c.map.ensures.source c.map.ensures.closure (λ x b q k. search rules) _
    (omega (arith, sum_to-most (cell c.args.copies.now) (2 ^ 16 - 1) c.args.m (λ y l. omega (arith, c.type_inv.copies y))))

pub returns : goal.returns
returns c = sum_to-ran (cell c.args.copies.now) c.args.m c.map.result c.map.ensures.source c.map.ensures.closure (λ x b q k. search rules) _ c.sum.ensures.ran
