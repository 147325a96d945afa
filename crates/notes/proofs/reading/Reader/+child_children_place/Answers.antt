use mathlib.Core.Path.{refl, sym, ◌∙◌}
use native.Mathlib.Omega.{arith}
use Rattle.std.proofs.lemmas.Result.{err_from_is_err_and}
use Rattle.basics.proofs.FaultLaws.{number-some}
use Rattle.placing.specs.Ready.{placing_of}
use Rattle.placing.proofs.BoardLaws.{few-ops, near-leads}
use Rattle.placing.proofs.ReadyLaws.{may-close}
use Rattle.placing.proofs.RowsKept.{raised-back, taken-back, lowered-ready, lowered-placed, placed-ready}
use Rattle.placing.proofs.TurnLaws.{places-small, stands-small, stands-live, stands-places, first-stands, row-begins, after-dead, after-live, stops-live, row-ends, stands-end}
use Rattle.notes.proofs.ReadLaws.{closed-turn, taken-fits, kept-fits, free-says, leaf-place, fault-place, close-place, split-place, split-inside, split-choice, read-inside, once-read, settles}
use Rattle.notes.proofs.reading.Reader.+child_children_place.Goals as goal

-- ---- a child

pub child-lower-low-requires : goal.child-lower-low-requires
child-lower-low-requires t c = let z = places-small c.requires.places in (z.1, z.2)

pub child-cost_with-cost-requires : goal.child-cost_with-cost-requires
child-cost_with-cost-requires t c = (places-small c.requires.places).3

pub child-raise-requires : goal.child-raise-requires
child-raise-requires t c = let z = places-small c.requires.places in (z.1, z.2)

pub child-returns-then-closes_at : goal.child-returns-then-closes_at
child-returns-then-closes_at t c =
    let low = c.lower-low.ensures in
    let w = c.requires.places in
    let ready = lowered-ready w _ w.able.few w.more (omega arith) low.was low.rows c.cost_with-cost.ensures in
    record {
      answers =
          once-read _ _ _ _ _ _ (sym (may-close _ c.allowed.ensures ready) ∙ c.if-allowed.true) c.if-left-gt0.true (sym c.closes_at.ensures ∙ c.if-closes_at.true);
      same = raised-back c.args.self.now.board.now.types c.args.i low.was low.rows refl c.raise.ensures;
    }

pub child-place-was-requires : goal.child-place-was-requires
child-place-was-requires t c = let z = places-small c.requires.places in (z.0, omega arith)

pub child-overflow_add-op : goal.child-overflow_add-op
child-overflow_add-op t c = let z = places-small c.requires.places in omega arith

pub child-place-end-requires : goal.child-place-end-requires
child-place-end-requires t c =
    let w = c.requires.places in
    let low = c.lower-low.ensures in (
      omega (arith, c.decreases),
      (
        placed-ready w _ (omega (arith, c.max.ensures)) (omega (arith, c.max.ensures)) (omega (arith, c.max.ensures, w.able.few, w.more)) low.was low.rows c.cost_with-cost.ensures c.place-was.ensures.rows,
        c.requires.inside,
      ),
    )

pub child-take_back-requires : goal.child-take_back-requires
child-take_back-requires t c = (places-small c.requires.places).0

pub child-raise-requires-2 : goal.child-raise-requires-2
child-raise-requires-2 t c = let z = places-small c.requires.places in (z.1, z.2)

pub child-returns : goal.child-returns
child-returns t c =
    let low = c.lower-low.ensures in
    let was = c.place-was.ensures in
    record {
      answers =
          rw (lowered-placed c.args.self.now.board.now.types c.args.op c.args.s c.args.i c.args.rows.now low.rows was.rows) at c.place-end.ensures.answers;
      same =
          raised-back c.args.self.now.board.now.types c.args.i low.was low.rows (taken-back _ _ _ was.was was.rows c.place-end.ensures.same c.take_back.ensures) c.raise-2.ensures;
    }

-- ---- the children of a split

pub children-first_start-first-requires : goal.children-first_start-first-requires
children-first_start-first-requires t c =
    let able = c.requires.ready in
    let more = (free-says _ _ _ c.requires.unplaced).0 in
    (omega (arith, more, few-ops _ able.of), near-leads _ able.of _ more)

pub children-loop-s-init : goal.children-loop-s-init
children-loop-s-init t c =
    let free = free-says _ _ _ c.requires.unplaced in
    let v = first-stands c.requires.ready free.0 free.1 _ _ _ c.first_start-first.ensures in
    record { begins = v.0; inside = c.requires.inside; stands = v.1 }

pub children-loop-i-init : goal.children-loop-i-init
children-loop-i-init t c =
    let o = c.loop-s.invariant in record { begins = o.begins; inside = o.inside; stands = row-begins _ o.stands c.loop-s-test.true }

pub children-free_at-requires : goal.children-free_at-requires
children-free_at-requires t c =
    let z = stands-small c.loop-i.invariant.stands in (z.0, z.1, omega (arith, c.loop-i-test.true))

pub children-loop-i-preserved-then-not-free_at : goal.children-loop-i-preserved-then-not-free_at
children-loop-i-preserved-then-not-free_at t c =
    let o = c.loop-i.invariant in
    let lives =
    stands-live o.stands _ _ _ _ c.first_start-first.ensures (settles _ _ _ _) o.begins c.loop-i-test.true (taken-fits c.args.self.now.board.now (placing_of c.loop-i.rows) _ _ _ _ _ c.free_at.ensures c.if-not-free_at.true) in
    record {
      begins = o.begins;
      inside = o.inside;
      stands = after-dead _ _ o.stands c.loop-i-test.true (lives ∙ c.if-not-free_at.true);
    }

pub children-links_kept-requires : goal.children-links_kept-requires
children-links_kept-requires t c =
    let z = stands-small c.loop-i.invariant.stands in (z.0, z.1, omega (arith, c.loop-i-test.true), z.3)

pub children-loop-i-preserved-then-not-links_kept : goal.children-loop-i-preserved-then-not-links_kept
children-loop-i-preserved-then-not-links_kept t c =
    let o = c.loop-i.invariant in
    let lives =
    stands-live o.stands _ _ _ _ c.first_start-first.ensures (settles _ _ _ _) o.begins c.loop-i-test.true (kept-fits c.args.self.now.board.now (placing_of c.loop-i.rows) _ _ _ _ _ c.free_at.ensures c.if-not-free_at.false c.links_kept.ensures) in
    record {
      begins = o.begins;
      inside = o.inside;
      stands = after-dead _ _ o.stands c.loop-i-test.true (lives ∙ c.if-not-links_kept.true);
    }

pub children-child-requires : goal.children-child-requires
children-child-requires t c =
    let o = c.loop-i.invariant in
    let lives =
    stands-live o.stands _ _ _ _ c.first_start-first.ensures (settles _ _ _ _) o.begins c.loop-i-test.true (kept-fits c.args.self.now.board.now (placing_of c.loop-i.rows) _ _ _ _ _ c.free_at.ensures c.if-not-free_at.false c.links_kept.ensures) in (
      omega (arith, c.decreases),
      (stands-places o.stands o.begins c.loop-i-test.true (lives ∙ c.if-not-links_kept.false), o.inside),
    )

pub children-returns-in_err-next-clause-answers : goal.children-returns-in_err-next-clause-answers
children-returns-in_err-next-clause-answers t c =
    let o = c.loop-i.invariant in
    let lives =
    stands-live o.stands _ _ _ _ c.first_start-first.ensures (settles _ _ _ _) o.begins c.loop-i-test.true (kept-fits c.args.self.now.board.now (placing_of c.loop-i.rows) _ _ _ _ _ c.free_at.ensures c.if-not-free_at.false c.links_kept.ensures) in
    let p = err_from_is_err_and c.from_residual.result c.from_residual.ensures.1 in
    rw (p.1, p.2) (sym (stops-live _ _ o.stands c.loop-i-test.true (lives ∙ c.if-not-links_kept.false) (sym c.in_err-next.ensures.answers)))

pub children-loop-i-preserved : goal.children-loop-i-preserved
children-loop-i-preserved t c =
    let o = c.loop-i.invariant in
    let lives =
    stands-live o.stands _ _ _ _ c.first_start-first.ensures (settles _ _ _ _) o.begins c.loop-i-test.true (kept-fits c.args.self.now.board.now (placing_of c.loop-i.rows) _ _ _ _ _ c.free_at.ensures c.if-not-free_at.false c.links_kept.ensures) in
    let r = c.in_ok-next.ensures in
    let e = sym r.answers in
    record {
      begins = o.begins;
      inside = read-inside _ _ _ _ _ _ _ _ e o.inside;
      stands = after-live _ _ o.stands c.loop-i-test.true (lives ∙ c.if-not-links_kept.false) e r.same;
    }

pub children-loop-s-preserved : goal.children-loop-s-preserved
children-loop-s-preserved t c =
    let o = c.loop-i.invariant in
    record { begins = omega arith; inside = o.inside; stands = row-ends _ _ o.stands c.loop-i-test.false }

pub children-returns : goal.children-returns
children-returns t c =
    let v = c.loop-s.invariant.stands in record { answers = sym (stands-end _ v c.loop-s-test.false); same = v.same }

pub children-returns-2 : goal.children-returns-2
children-returns-2 t c =
    let v = row-ends _ _ c.loop-i.invariant.stands c.loop-i-test.false in
    record { answers = sym (stands-end _ v (omega arith)); same = v.same }

-- ---- a place

pub place-returns-then-left-eq0-clause-answers : goal.place-returns-then-left-eq0-clause-answers
place-returns-then-left-eq0-clause-answers t c =
    leaf-place _ _ _ _ _ _ (may-close _ c.allowed-may.ensures c.requires.ready) c.if-left-eq0.true (closed-turn _ _ _ c.closed_if.ensures)

pub place-returns-in_err-mark_fault-clause-answers : goal.place-returns-in_err-mark_fault-clause-answers
place-returns-in_err-mark_fault-clause-answers t c =
    let p = err_from_is_err_and c.from_residual.result c.from_residual.ensures.1 in
    rw (p.1, p.2) (fault-place _ _ _ _ _ _ (may-close _ c.allowed-may.ensures c.requires.ready) c.if-left-eq0.false c.in_err-mark_fault.ensures (number-some _))

pub place-returns-then-not-split-clause-answers : goal.place-returns-then-not-split-clause-answers
place-returns-then-not-split-clause-answers t c =
    close-place _ _ _ _ _ _ (may-close _ c.allowed-may.ensures c.requires.ready) c.if-left-eq0.false c.in_ok-mark_fault.ensures refl (sym c.splits_at-split.ensures ∙ c.if-not-split.true)

pub place-children-requires : goal.place-children-requires
place-children-requires t c =
    let may = may-close _ c.allowed-may.ensures c.requires.ready in
    let split = sym c.splits_at-split.ensures ∙ c.if-not-split.false in (
      omega (arith, c.decreases, c.if-left-eq0.false),
      (
        c.requires.ready,
        (
          rw c.split_op-op.ensures (split-choice _ _ _ _ _ _ may c.if-left-eq0.false c.in_ok-mark_fault.ensures refl split),
          split-inside _ _ _ _ _ _ may c.if-left-eq0.false c.in_ok-mark_fault.ensures refl split,
        ),
      ),
    )

pub place-returns-clause-answers : goal.place-returns-clause-answers
place-returns-clause-answers t c =
    let may = may-close _ c.allowed-may.ensures c.requires.ready in
    let split = sym c.splits_at-split.ensures ∙ c.if-not-split.false in
    rw (split-place _ _ _ _ _ _ may c.if-left-eq0.false c.in_ok-mark_fault.ensures refl split, ← c.split_op-op.ensures) c.children.ensures.answers
