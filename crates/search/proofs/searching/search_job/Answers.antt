-- The walk's end decides.
use Rattle.std.proofs.lemmas.Result.{err_from_is_err_and}
use Rattle.placing.proofs.BoardLaws.{board-read, read-limits}
use Rattle.search.proofs.SearchSteps.{ends-written, ends-short, ends-none, ends-spent, few-units}
use Rattle.search.proofs.searching.search_job.Goals as goal

pub board_of-board-requires : goal.board_of-board-requires
board_of-board-requires c = read-limits _ c.requires

pub walked-requires : goal.walked-requires
walked-requires c = board-read _ c.requires c.board_of-board.ensures

pub returns-in_default : goal.returns-in_default
returns-in_default c = ends-spent _ _ _ (rw (← c.board_of-board.ensures) c.in_default.ensures)

pub returns-in_default-best : goal.returns-in_default-best
returns-in_default-best c =
    let d = rw c.board_of-board.ensures at c.in-Some.ensures in
    ends-none _ _ _ d.0 c.in-Some.walk d.1 c.in_default-best.is

pub smallest-requires : goal.smallest-requires
smallest-requires c = few-units _ c.board_of-board.ensures c.requires

pub returns-in_err-length : goal.returns-in_err-length
returns-in_err-length c =
    let d = rw c.board_of-board.ensures at c.in-Some.ensures in
    let p = err_from_is_err_and c.from_residual.result c.from_residual.ensures.1 in
    rw (p.1, p.2) (ends-short _ _ _ d.0 c.in-Some.walk d.1 c.board_of-board.ensures c.in-Some-best.is c.smallest.ensures _ _ c.in_err-length.ensures.written)

pub returns : goal.returns
returns c =
    let d = rw c.board_of-board.ensures at c.in-Some.ensures in
    ends-written _ _ _ d.0 c.in-Some.walk d.1 c.board_of-board.ensures c.in-Some-best.is c.smallest.ensures _ c.in_ok-length.ensures.written
