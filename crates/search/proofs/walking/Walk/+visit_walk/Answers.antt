use Prim.Native.Nat.{◌+◌}
use Rattle.placing.proofs.BoardLaws.{few-ops, near-leads}
use Rattle.placing.proofs.TurnLaws.{places-small, stands-small}
use Rattle.search.specs.Walking.{state_of}
use Rattle.search.proofs.WalkLaws.{level-begins, row-begins, row-ends, level-ends, option-dead, option-places, option-spent, option-done, goes-leaf, visit-over, next-walk, visit-out, visit-spent, visit-done}
use Rattle.search.proofs.walking.Walk.+visit_walk.Goals as goal
use Rattle.search.proofs.walking.Walk.+visit_walk.Goals.{visit-then-not-shut+in_ok-walk, visit-else-not-shut, walk-then-fits+in_ok-visit, walk-else-fits}
use mathlib.Core.Path.{refl, sym}
use native.Mathlib.Omega.{arith}

pub visit-lower-low-requires : goal.visit-lower-low-requires
visit-lower-low-requires t c = ((places-small c.requires.0).1, (places-small c.requires.0).2)

pub visit-cost_with-cost-requires : goal.visit-cost_with-cost-requires
visit-cost_with-cost-requires t c = (places-small c.requires.0).3

pub visit-returns-in_err-arrive : goal.visit-returns-in_err-arrive
visit-returns-in_err-arrive t c = rw c.from_residual.ensures (visit-over c.args.board.now c.args.self.now c.args.op c.args.s c.args.i c.in_err-arrive.ensures)

pub visit-place-was-requires : goal.visit-place-was-requires
visit-place-was-requires t c = let z = places-small c.requires.0 in (z.0, omega arith)

pub visit-overflow_add-op : goal.visit-overflow_add-op
visit-overflow_add-op t c = let z = places-small c.requires.0 in omega arith

pub visit-walk-requires : goal.visit-walk-requires
visit-walk-requires t c =
    (omega (arith, c.decreases, c.requires.0.more), next-walk _ _ _ _ _ c.requires.0 c.lower-low.ensures.was c.lower-low.ensures.rows c.cost_with-cost.ensures c.in_ok-arrive.ensures.0 c.in_ok-arrive.ensures.1 c.place-was.ensures.rows)

pub visit-returns-in_err-walk : goal.visit-returns-in_err-walk
visit-returns-in_err-walk t c =
    rw c.from_residual-in_err-walk.ensures
    (visit-spent _ _ _ _ _ c.requires.0 c.lower-low.ensures.was c.lower-low.ensures.rows c.cost_with-cost.ensures c.in_ok-arrive.ensures.0 c.in_ok-arrive.ensures.1 c.place-was.ensures.rows (sym c.if-not-shut.ensures) c.in_err-walk.ensures)

pub visit-take_back-requires : goal.visit-take_back-requires
visit-take_back-requires t c = (places-small c.requires.0).0

pub visit-raise-requires : goal.visit-raise-requires
visit-raise-requires t c = ((places-small c.requires.0).1, (places-small c.requires.0).2)

pub visit-returns : goal.visit-returns
visit-returns t c =
    elim c.if-not-shut.branch [
      | visit-then-not-shut+in_ok-walk w ↦
          rw w.self-is
          (visit-done _ _ _ _ _ c.requires.0 c.lower-low.ensures.was c.lower-low.ensures.rows c.cost_with-cost.ensures c.in_ok-arrive.ensures.0 c.in_ok-arrive.ensures.1
          w.place-was.ensures.rows (sym w.if-not-shut.ensures) w.in_ok-walk.ensures w.place-was.ensures.was w.take_back.ensures (rw w.self-is at c.raise.ensures))
      | visit-else-not-shut w ↦
          rw w.self-is
          (visit-out _ _ _ _ _ c.requires.0 c.lower-low.ensures.was c.lower-low.ensures.rows c.cost_with-cost.ensures c.in_ok-arrive.ensures.0 c.in_ok-arrive.ensures.1
          (sym w.if-not-shut.ensures) (rw w.self-is at c.raise.ensures))
    ]

pub walk-returns-then-op-board : goal.walk-returns-then-op-board
walk-returns-then-op-board t c =
    let e = goes-leaf c.args.board.now _ (state_of c.args.self.now) c.requires.0.tracks.costs c.if-op-board.true in
    record { within = rw e c.requires.1; ends = sym e; keeps = refl }

pub walk-first_start-first-requires : goal.walk-first_start-first-requires
walk-first_start-first-requires t c =
    let p = c.requires.0 in
    (omega (arith, few-ops _ p.of, p.few, c.if-op-board.false), near-leads _ p.of _ (omega (arith, p.few, c.if-op-board.false)))

pub walk-loop-s-init : goal.walk-loop-s-init
walk-loop-s-init t c =
    let p = c.requires.0 in
    level-begins p (omega (arith, p.few, c.if-op-board.false)) c.requires.1 c.first_start-first.ensures

pub walk-loop-i-init : goal.walk-loop-i-init
walk-loop-i-init t c = row-begins _ c.loop-s-test.true c.loop-s.invariant

pub walk-fits-requires : goal.walk-fits-requires
walk-fits-requires t c =
    let z = stands-small c.loop-i.invariant.stands in
    (z.0, z.1, omega (arith, c.loop-i-test.true), z.3)

pub walk-visit-requires : goal.walk-visit-requires
walk-visit-requires t c = (
  omega (arith, c.decreases, c.loop-i.invariant.stands.more),
  (
    option-places _ _ c.loop-i.invariant c.loop-i-test.true c.first_start-first.ensures c.loop-s.auto.s c.fits.ensures c.if-fits.true,
    c.loop-i.invariant.kept,
  ),
)

pub walk-returns-in_err-visit : goal.walk-returns-in_err-visit
walk-returns-in_err-visit t c =
    rw c.from_residual.ensures
    (option-spent _ _ c.loop-i.invariant c.loop-i-test.true c.first_start-first.ensures c.loop-s.auto.s c.fits.ensures c.if-fits.true c.in_err-visit.ensures)

pub walk-loop-i-preserved : goal.walk-loop-i-preserved
walk-loop-i-preserved t c =
    elim c.if-fits.branch [
      | walk-then-fits+in_ok-visit w ↦
          rw w.self-is
          (option-done _ _ c.loop-i.invariant c.loop-i-test.true c.first_start-first.ensures c.loop-s.auto.s c.fits.ensures w.if-fits.true w.in_ok-visit.ensures)
      | walk-else-fits w ↦
          rw w.self-is (option-dead _ _ c.loop-i.invariant c.loop-i-test.true c.first_start-first.ensures c.loop-s.auto.s c.fits.ensures w.if-fits.false)
    ]

pub walk-loop-s-preserved : goal.walk-loop-s-preserved
walk-loop-s-preserved t c = row-ends _ _ c.loop-i-test.false c.loop-i.invariant

pub walk-returns-else-op-board : goal.walk-returns-else-op-board
walk-returns-else-op-board t c = level-ends _ c.loop-s-test.false c.loop-s.invariant

pub walk-returns-else-op-board-2 : goal.walk-returns-else-op-board-2
walk-returns-else-op-board-2 t c = level-ends (c.loop-s.s + 1) (omega arith) (row-ends _ _ c.loop-i-test.false c.loop-i.invariant)
