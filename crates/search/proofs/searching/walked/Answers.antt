-- The walk begins with nothing placed, and its first arrival is never shut out.
use Rattle.search.proofs.SearchSteps.{begin-ready, begin-walk, walk-over}
use Rattle.search.proofs.searching.walked.Goals as goal

pub returns-in_err-arrive : goal.returns-in_err-arrive
returns-in_err-arrive c = rw c.from_residual.ensures (walk-over _ c.in_err-arrive.ensures)

pub walk-requires : goal.walk-requires
walk-requires c = begin-ready _ c.none.ensures.rows c.in_ok-arrive.ensures.1 c.requires c.none.ensures.lows c.in_ok-arrive.ensures.0

pub returns-in_err-walk : goal.returns-in_err-walk
returns-in_err-walk c =
    let e = begin-walk c.args.board.now c.none.ensures.rows c.in_ok-arrive.ensures.1 in
    rw (c.from_residual-in_err-walk.ensures, ← e) c.in_err-walk.ensures

pub returns : goal.returns
returns c =
    let e = begin-walk c.args.board.now c.none.ensures.rows c.in_ok-arrive.ensures.1 in
    rw (← e) (c.in_ok-walk.ensures.within, c.in_ok-walk.ensures.ends)
