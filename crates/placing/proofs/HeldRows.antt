-- The resource rule by steps, of rows placed: where each keeps its rule, it holds exactly where no two hold one instance in one
-- step (`rows-held-exactly`).
use Prim.Native.Nat.{ℕ, ◌≤◌, ◌<◌}
use mathlib.Core.Path.{◌≡◌}
use mathlib.Core.Bool.{true}
use mathlib.Core.List.{List}
use mathlib.Core.Logic.{◌↔◌}
use native.Mathlib.Omega.{arith}
use borrow.Author.Tests.{eqb-true, lt-ltb}
use Rattle.basics.specs.Counting.{all_to}
use Rattle.basics.specs.Tables.{cell}
use Rattle.basics.proofs.CountLaws.{asked, all_to-each}
use Rattle.basics.proofs.TableLaws.{cell-cells}
use Rattle.sheets.specs.Limits.{op_cells}
use Rattle.rules.specs.Model.{row_at, row_table}
use Rattle.rules.specs.Rules.{placed, row_fault, resource_ok}
use Rattle.rules.proofs.HeldLaws.{AllDisjoint, resource-exactly}
use Rattle.rules.proofs.RuleLaws.{none_row}
use Rattle.placing.specs.declared.Board.{Board}
use Rattle.placing.specs.Board.{unit, OfJob}
use Rattle.placing.specs.Placing.{Placing, row_ok}
use Rattle.placing.proofs.BoardLaws.{few-ops, board-holds}

module _ (b : Board) (of : OfJob b) (p : Placing) (rows : all_to (row_ok b p) b.n ≡ true) where
  abbrev spacings : List ℕ
  spacings = row_table (unit b.spacings) p.insts

  row-holds : (o : ℕ) → o < b.n → 1 ≤ cell p.starts o → 1 ≤ cell spacings o
  unfolding row_ok
  row-holds o l begun =
      let i : ℕ = cell p.insts o in
      let fault : ℕ = row_fault b.k b.t i (unit b.times o i) true (cell p.starts o) (unit b.delays o i) in
      let asks = asked (placed p.starts o) _ (lt-ltb 0 (cell p.starts o) begun) (all_to-each (row_ok b p) b.n rows o l) in
      let row = none_row _ _ _ _ _ _ _ (eqb-true fault 0 asks) in
      rw (cell-cells (row_at (unit b.spacings) p.insts) op_cells op_cells o (omega (arith, few-ops b of)) (omega arith))
      (board-holds b of o i l row.instance row.able)

  pub rows-held-exactly : (resource_ok b.n p.starts p.insts spacings ≡ true) ↔ AllDisjoint p.starts p.insts spacings b.n
  rows-held-exactly = resource-exactly p.starts p.insts spacings b.n row-holds
