-- The header first; then the tree is read from nothing placed, and its end decides.
use mathlib.Core.Path.{sym}
use native.Mathlib.Omega.{arith}
use Rattle.std.proofs.lemmas.Result.{err_from_is_err_and}
use Rattle.placing.proofs.BoardLaws.{read-limits, board-read}
use Rattle.placing.proofs.ReadyLaws.{none-ready}
use Rattle.notes.proofs.CheckLaws.{head-inside, head-stops, tree-inside, tree-ended, tree-stopped}
use Rattle.notes.proofs.checking.note_fault.Goals as goal

pub returns-in_err-head_fault : goal.returns-in_err-head_fault
returns-in_err-head_fault c =
    let p = err_from_is_err_and c.from_residual.result c.from_residual.ensures.1 in
    rw (p.1, p.2) (head-stops _ _ _ _ (rw c.is_some.ensures at c.in_err-head_fault.ensures))

pub board_of-board-requires : goal.board_of-board-requires
board_of-board-requires c = read-limits _ c.requires

pub invariant_of-reader : goal.invariant_of-reader
invariant_of-reader c = record { short = (head-inside _ _ (sym c.in_ok-head_fault.ensures)).0 }

pub place-requires : goal.place-requires
place-requires c =
    let w = board-read _ c.requires c.board_of-board.ensures in
    let h = head-inside _ _ (sym c.in_ok-head_fault.ensures) in
    record { ready = rw (c.none.ensures.rows, c.none.ensures.lows) (none-ready _ w 0 (omega arith)); inside = h.1 }

pub returns-in_err-end : goal.returns-in_err-end
returns-in_err-end c =
    let p = err_from_is_err_and c.from_residual-in_err-end.result c.from_residual-in_err-end.ensures.1 in
    rw (p.1, p.2, ← c.board_of-board.ensures) (tree-stopped _ _ _ (rw c.is_some.ensures at (sym c.in_ok-head_fault.ensures)) (rw c.none.ensures.rows at c.in_err-end.ensures.answers))

pub fill_fault-requires : goal.fill_fault-requires
fill_fault-requires c =
    let h = head-inside _ _ (sym c.in_ok-head_fault.ensures) in
    let e = tree-inside _ _ _ (rw c.is_some.ensures at (sym c.in_ok-head_fault.ensures)) (rw c.none.ensures.rows at c.in_ok-end.ensures.answers) in
    omega (arith, h.0)

pub returns : goal.returns
returns c =
    rw (← c.board_of-board.ensures) (tree-ended _ _ _ (rw c.is_some.ensures at (sym c.in_ok-head_fault.ensures)) (rw c.none.ensures.rows at c.in_ok-end.ensures.answers) c.fill_fault.ensures)
