-- The loops stand where the walk of the definition does.
use Prim.Native.Nat.{◌*◌, ◌+◌, ◌-◌}
use Rattle.placing.proofs.RowLaws.{from_start, row}
use Rattle.search.proofs.WalkLaws.{Level}
use Rattle.search.proofs.walking.Walk.+visit_walk.Given as goal

abbrev pub decreases-visit : goal.decreases-visit
decreases-visit l = 2 * (l.board.now.n - (l.op + 1)) + 1

abbrev pub decreases-walk : goal.decreases-walk
decreases-walk l = 2 * (l.board.now.n - l.op)

abbrev pub invariant-walk-loop-i : goal.invariant-walk-loop-i
invariant-walk-loop-i l = Level l.board l.op l.here l.budget l.fn.self l.self (row l.board l.s l.i)

abbrev pub invariant-walk-loop-s : goal.invariant-walk-loop-s
invariant-walk-loop-s l = Level l.board l.op l.here l.budget l.fn.self l.self (from_start l.board l.s)
