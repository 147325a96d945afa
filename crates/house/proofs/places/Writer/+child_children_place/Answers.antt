use Prim.Native.Nat.{◌+◌, ◌<◌, ◌≤◌}
use mathlib.Core.Path.{refl, ap, ◌∙◌}
use native.Mathlib.Omega.{arith}
use borrow.Author.Tests.{ltb-true}
use Rattle.placing.specs.Ready.{placing_of}
use Rattle.placing.specs.declared.rows.Rows.{Rows}
use Rattle.std.proofs.lemmas.Result.{err_from_is_err_and}
use Rattle.placing.proofs.BoardLaws.{few-ops, near-leads}
use Rattle.placing.proofs.ReadyLaws.{may-close}
use Rattle.placing.proofs.RowsKept.{raised-back, taken-back, lowered-ready, lowered-placed, placed-ready}
use Rattle.placing.proofs.TurnLaws.{places-small, stands-small, stands-live, stands-places, first-stands, row-begins, after-dead, after-live, stops-live, row-ends, stands-end}
use Rattle.notes.proofs.ReadLaws.{closed-turn}
use Rattle.house.proofs.WriteLaws.{closed-draft, stopped-draft, ends-stopped, ends-closed, drafts-on, leaf-drafts, leaf-end, close-goes, close-stops, split_goes, split-stops, put-length, split-length, last_less, next-is, next-order, same-order}
use Rattle.house.proofs.places.Writer.+child_children_place.Goals as goal

-- ---- a child

pub child-lower-low-requires : goal.child-lower-low-requires
child-lower-low-requires t c = let z = places-small c.requires.places in (z.1, z.2)

pub child-cost_with-cost-requires : goal.child-cost_with-cost-requires
child-cost_with-cost-requires t c = (places-small c.requires.places).3

pub child-overflow_add-op : goal.child-overflow_add-op
child-overflow_add-op t c = let z = places-small c.requires.places in omega arith

pub child-overflow_add-op-2 : goal.child-overflow_add-op-2
child-overflow_add-op-2 t c = let z = places-small c.requires.places in omega arith

pub child-raise-requires : goal.child-raise-requires
child-raise-requires t c = let z = places-small c.requires.places in (z.1, z.2)

pub child-returns-then-at-self-clause-drafts : goal.child-returns-then-at-self-clause-drafts
child-returns-then-at-self-clause-drafts t c =
    let w = c.requires.places in
    let low = c.lower-low.ensures in
    let up : c.args.op ≤ c.args.op + 1 = omega arith in
    let past : c.args.op < c.args.op + 1 = omega arith in
    let few : c.args.op + 1 ≤ c.args.self.now.board.now.n = omega (arith, w.more) in
    let ready = lowered-ready w (c.args.op + 1) up past few low.was low.rows c.cost_with-cost.ensures in
    let order = next-order c.args.i c.requires.order w.able.starts-long (places-small w).0 w.begins in
    let last = last_less c.if-op-board.true in
    let room : c.args.at + 1 ≤ c.args.self.now.room = omega (arith, c.if-at-self.true) in
    ends-closed (put-length _ _ _ _ c.put.ensures)
    (close-goes _ _ _ _ _ _ _ (may-close _ c.allowed.ensures ready) ready.few last (next-is ready order last) c.if-allowed.true room c.put.ensures) room

pub child-returns-then-at-self-clause-same : goal.child-returns-then-at-self-clause-same
child-returns-then-at-self-clause-same t c =
    let low = c.lower-low.ensures in raised-back c.args.self.now.board.now.types c.args.i low.was low.rows refl c.raise.ensures

pub child-place-was-requires : goal.child-place-was-requires
child-place-was-requires t c = let z = places-small c.requires.places in (z.0, omega arith)

pub child-place-end-requires : goal.child-place-end-requires
child-place-end-requires t c =
    let w = c.requires.places in
    let low = c.lower-low.ensures in
    let was = c.place-was.ensures in (
      omega (arith, c.decreases, w.more),
      (
        placed-ready w _ (omega arith) (omega arith) (omega (arith, w.more)) low.was low.rows c.cost_with-cost.ensures was.rows,
        (
          rw (lowered-placed c.args.self.now.board.now.types c.args.op c.args.s c.args.i c.args.rows.now low.rows was.rows) (next-order _ c.requires.order w.able.starts-long (places-small w).0 w.begins),
          c.requires.room,
        ),
      ),
    )

pub child-take_back-requires : goal.child-take_back-requires
child-take_back-requires t c = (places-small c.requires.places).0

pub child-raise-requires-2 : goal.child-raise-requires-2
child-raise-requires-2 t c = let z = places-small c.requires.places in (z.1, z.2)

pub child-returns-clause-same : goal.child-returns-clause-same
child-returns-clause-same t c =
    let low = c.lower-low.ensures in
    let was = c.place-was.ensures in
    raised-back c.args.self.now.board.now.types c.args.i low.was low.rows (taken-back _ _ _ was.was was.rows c.place-end.ensures.same c.take_back.ensures) c.raise-2.ensures

-- ---- the children of a split

pub children-first_start-first-requires : goal.children-first_start-first-requires
children-first_start-first-requires t c =
    let able = c.requires.ready in (omega (arith, c.requires.more, few-ops _ able.of), near-leads _ able.of _ c.requires.more)

pub children-loop-s-init : goal.children-loop-s-init
children-loop-s-init t c =
    let able = c.requires.ready in
    let v = first-stands able c.requires.more (able.behind _ (omega arith)) _ _ _ c.first_start-first.ensures in
    record { begins = v.0; inside = c.requires.room.0; size = refl; stands = v.1 }

pub children-loop-i-init : goal.children-loop-i-init
children-loop-i-init t c =
    let o = c.loop-s.invariant in
    record { begins = o.begins; inside = o.inside; size = o.size; stands = row-begins _ o.stands c.loop-s-test.true }

pub children-fits-requires : goal.children-fits-requires
children-fits-requires t c =
    let z = stands-small c.loop-i.invariant.stands in (z.0, z.1, omega (arith, c.loop-i-test.true), z.3)

pub children-loop-i-preserved-then-not-fits : goal.children-loop-i-preserved-then-not-fits
children-loop-i-preserved-then-not-fits t c =
    let o = c.loop-i.invariant in
    let lives = stands-live o.stands _ _ _ _ c.first_start-first.ensures (λ h. (omega arith, ltb-true _ _ h)) o.begins c.loop-i-test.true c.fits.ensures in
    record { begins = o.begins; inside = o.inside; size = o.size; stands = after-dead _ _ o.stands c.loop-i-test.true (lives ∙ c.if-not-fits.true) }

pub children-child-requires : goal.children-child-requires
children-child-requires t c =
    let o = c.loop-i.invariant in
    let lives = stands-live o.stands _ _ _ _ c.first_start-first.ensures (λ h. (omega arith, ltb-true _ _ h)) o.begins c.loop-i-test.true c.fits.ensures in (
      omega (arith, c.decreases),
      (
        stands-places o.stands o.begins c.loop-i-test.true (lives ∙ c.if-not-fits.false),
        (
          same-order (ap (λ (r : Rows). placing_of r) o.stands.same) c.requires.order,
          (o.inside, omega (arith, c.requires.room.1, o.size)),
        ),
      ),
    )

pub children-returns-in_err-next-clause-drafts : goal.children-returns-in_err-next-clause-drafts
children-returns-in_err-next-clause-drafts t c =
    let o = c.loop-i.invariant in
    let r = c.in_err-next.ensures.drafts in
    let lives = stands-live o.stands _ _ _ _ c.first_start-first.ensures (λ h. (omega arith, ltb-true _ _ h)) o.begins c.loop-i-test.true c.fits.ensures in
    let p = err_from_is_err_and c.from_residual.result c.from_residual.ensures.1 in
    rw (p.1, p.2) (ends-stopped (r.size ∙ o.size) _ (stops-live _ _ o.stands c.loop-i-test.true (lives ∙ c.if-not-fits.false) (stopped-draft _ r.answers)))

pub children-loop-i-preserved : goal.children-loop-i-preserved
children-loop-i-preserved t c =
    let o = c.loop-i.invariant in
    let r = c.in_ok-next.ensures in
    let lives = stands-live o.stands _ _ _ _ c.first_start-first.ensures (λ h. (omega arith, ltb-true _ _ h)) o.begins c.loop-i-test.true c.fits.ensures in
    record {
      begins = o.begins;
      inside = r.drafts.inside _ refl;
      size = r.drafts.size ∙ o.size;
      stands = after-live _ _ o.stands c.loop-i-test.true (lives ∙ c.if-not-fits.false) (closed-draft _ r.drafts.answers r.drafts.bytes) r.same;
    }

pub children-loop-s-preserved : goal.children-loop-s-preserved
children-loop-s-preserved t c =
    let o = c.loop-i.invariant in
    record { begins = omega arith; inside = o.inside; size = o.size; stands = row-ends _ _ o.stands c.loop-i-test.false }

pub children-returns-clause-drafts : goal.children-returns-clause-drafts
children-returns-clause-drafts t c =
    let o = c.loop-s.invariant in ends-closed o.size (stands-end _ o.stands c.loop-s-test.false) o.inside

pub children-returns-2-clause-drafts : goal.children-returns-2-clause-drafts
children-returns-2-clause-drafts t c =
    let o = c.loop-i.invariant in
    ends-closed o.size (stands-end _ (row-ends _ _ o.stands c.loop-i-test.false) (omega arith)) o.inside

-- ---- a place

pub place-returns-then-op-self-clause-drafts : goal.place-returns-then-op-self-clause-drafts
place-returns-then-op-self-clause-drafts t c =
    leaf-drafts _ _ _ (leaf-end _ _ _ _ _ _ _ (may-close _ c.allowed-may.ensures c.requires.ready) c.if-op-self.true) c.requires.room.0 (closed-turn _ _ _ c.closed_if.ensures)

pub place-returns-then-self-at-clause-drafts : goal.place-returns-then-self-at-clause-drafts
place-returns-then-self-at-clause-drafts t c =
    let able = c.requires.ready in
    let next = next-is able c.requires.order c.if-op-self.false in
    ends-stopped refl _ (close-stops _ _ _ _ _ _ _ (may-close _ c.allowed-may.ensures able) able.few c.if-op-self.false next c.if-may.true c.if-self-at.true)

pub place-returns-then-may-clause-drafts : goal.place-returns-then-may-clause-drafts
place-returns-then-may-clause-drafts t c =
    let able = c.requires.ready in
    let next = next-is able c.requires.order c.if-op-self.false in
    ends-closed (put-length _ _ _ _ c.put.ensures)
    (close-goes _ _ _ _ _ _ _ (may-close _ c.allowed-may.ensures able) able.few c.if-op-self.false next c.if-may.true c.if-self-at.false c.put.ensures) c.if-self-at.false

pub place-returns-then-self-at-2-clause-drafts : goal.place-returns-then-self-at-2-clause-drafts
place-returns-then-self-at-2-clause-drafts t c =
    let able = c.requires.ready in
    let next = next-is able c.requires.order c.if-op-self.false in
    ends-stopped refl _ (split-stops _ _ _ _ _ _ _ (may-close _ c.allowed-may.ensures able) able.few c.if-op-self.false next c.if-may.false c.if-self-at-2.true)

pub place-returns-clause-drafts : goal.place-returns-clause-drafts
place-returns-clause-drafts t c =
    let able = c.requires.ready in
    let next = next-is able c.requires.order c.if-op-self.false in
    drafts-on (split-length _ _ _ _ c.put_split.ensures)
    (split_goes _ _ _ _ _ _ _ (may-close _ c.allowed-may.ensures able) able.few c.if-op-self.false next c.if-may.false c.if-self-at-2.false c.put_split.ensures) c.children.ensures.drafts
