-- A plan that meets the rules, slid within its limits: every start has the distance added (`slid-by`), the plan still meets the
-- rules (`slid-meets`) at the same cost (`slid-cost`), and it can be written (`slid-sound`, `slid-shape`).
use Prim.Native.Nat.{ℕ, suc, ◌+◌, ◌-◌, ◌<◌, ◌≤◌}
use mathlib.Core.Path.{◌≡◌, refl, sym, subst}
use mathlib.Core.Bool.{Bool, true, false}
use mathlib.Core.List.{List, [], ◌∷◌}
use mathlib.Core.Logic.{inl, inr, ⊎_elim}
use native.Mathlib.Omega.{arith}
use borrow.Author.Tests.{leb-true, le-ltb}
use lib.Dec.{leb}
use lib.IntN.{ℤ, pos, negsuc, ◌+ℤ◌}
use Rattle.basics.specs.Numbers.{record_broken}
use Rattle.basics.specs.Tables.{cell}
use Rattle.basics.proofs.CountLaws.{and_both, both-and, all_to-each}
use Rattle.basics.proofs.FaultLaws.{or_else-none, none-or_else, none-unless}
use Rattle.basics.proofs.TableLaws.{length-cells, cell-cells, blank-cells, each_within}
use Rattle.sheets.specs.Limits.{op_cells, max_select, max_steps, max_inst}
use Rattle.sheets.specs.PlanSheet.{PlanShape, plan_fits, plan_record_fault}
use Rattle.sheets.specs.declared.Job.{Job}
use Rattle.sheets.specs.declared.Plan.{Plan}
use Rattle.sheets.proofs.PlanFieldLaws.{none-plan}
use Rattle.sheets.proofs.RecordLaws.{JobSound}
use Rattle.rules.proofs.ModelLaws.{some-step}
use Rattle.rules.specs.Judge.{plan_cost}
use Rattle.rules.specs.Meets.{Link, Joined, AllIn, RunsFit, start, time, delay, Row, Meets}
use Rattle.rules.specs.Model.{delay_of, row_at, timing_in, timing_of}
use Rattle.rules.specs.Rules.{finish}
use Rattle.moves.specs.Moved.{SlidBy}
use Rattle.moves.specs.Slide.{backward, steps, moved, moved_at, slid, keeps_at, keeps}

-- ---- a start moved

back_sum : (by start : ℕ) → 1 ≤ start - suc by → pos (start - suc by) ≡ pos start +ℤ negsuc by
back_sum by start l = rw (le-ltb start (suc by) (omega arith))

-- where it is a step, it is the sum
moved_sum : (d : ℤ) (start : ℕ) → 1 ≤ moved (backward d) (steps d) start → pos (moved (backward d) (steps d) start) ≡ pos start +ℤ d
unfolding moved
moved_sum (pos by) start l = refl
moved_sum (negsuc by) start l = back_sum by start l

on-apart : (by a b : ℕ) → a + (b + by) ≡ b + (a + by)
on-apart by a b = omega arith

back-apart : (by a b : ℕ) → 1 ≤ a - by → 1 ≤ b - by → a + (b - by) ≡ b + (a - by)
back-apart by a b l m = omega arith

-- two of them are as far apart as before
moved_apart : (back : Bool) (by a b : ℕ) → 1 ≤ moved back by a → 1 ≤ moved back by b → a + moved back by b ≡ b + moved back by a
unfolding moved
moved_apart false by a b l m = on-apart by a b
moved_apart true by a b l m = back-apart by a b l m

-- ---- limits kept

keeps-each : (n t : ℕ) (starts delays : List ℕ) → keeps n t starts delays ≡ true
    → (o : ℕ) → o < n → (1 ≤ cell starts o) × (cell starts o + cell delays o - 1 ≤ t)
unfolding keeps keeps_at finish
keeps-each n t starts delays h o l =
    let w = and_both (leb 1 (cell starts o)) (leb (finish (cell starts o) (cell delays o)) t) (all_to-each (keeps_at t starts delays) n h o l) in
    (leb-true 1 (cell starts o) w.0, leb-true (finish (cell starts o) (cell delays o)) t w.1)

-- ---- runs

module _ (j : Job) (sound : JobSound j) where
  link-ends : (a b : ℕ) → Link j a b → (a < j.n) × (b < j.n)
  link-ends a b n = let w = sound.links n.number n.below in (omega (arith, n.leaves, n.enters), omega (arith, n.enters))

  -- starts f and g of the operations, as far apart
  module _ (f g : ℕ → ℕ) (same : (a b : ℕ) → a < j.n → b < j.n → f a + g b ≡ f b + g a) where
    -- operations that g starts in one step are started in one by f
    run-together : (s s' : ℕ) (run : List ℕ) (a b : ℕ) → Joined j (a ∷ b ∷ run) → AllIn g s (a ∷ b ∷ run) → f a ≡ s' → AllIn f s' (a ∷ b ∷ run)
    run-together s s' [] a b k w e =
        let l = link-ends a b k.0 in
        (e, (omega (arith, same a b l.0 l.1, w.0, w.1.0, e), tt))
    run-together s s' (c ∷ run) a b k w e =
        let l = link-ends a b k.0 in
        (e, run-together s s' run b c k.1 w.1 (omega (arith, same a b l.0 l.1, w.0, w.1.0, e)))

    runs_moved : (time : ℕ → ℕ) → ((o : ℕ) → o < j.n → 1 ≤ f o) → RunsFit j f time → RunsFit j g time
    unfolding RunsFit
    runs_moved time begun r s [] z n k w = absurd (omega arith)
    runs_moved time begun r s (a ∷ []) z n k w = absurd (omega arith)
    runs_moved time begun r s (a ∷ b ∷ run) z n k w =
        r (f a) (a ∷ b ∷ run) (begun a (link-ends a b k.0).0) n k (run-together s (f a) run a b k w refl)

-- ---- the plan slid

module _ (j : Job) (sound : JobSound j) (p : Plan) (d : ℤ) (meets : Meets j p) where
  few : (o : ℕ) → o < j.n → o < op_cells
  few o l = omega (arith, sound.counts.ops)

  pub slid-start : (o : ℕ) → o < j.n → start j (slid d p) o ≡ moved (backward d) (steps d) (start j p o)
  unfolding slid
  slid-start o l =
      cell-cells (moved_at (backward d) (steps d) p.starts) p.n op_cells o
      (omega (arith, meets.operations)) (omega (arith, meets.operations, sound.counts.ops))

  -- within its limits
  module _ (kept : keeps p.n j.t (slid d p).starts (timing_of j p.insts).delays ≡ true) where
    slid-limits : (o : ℕ) → o < j.n → (1 ≤ start j (slid d p) o) × (start j (slid d p) o + delay j p o - 1 ≤ j.t)
    unfolding timing_in
    slid-limits o l =
        let w = keeps-each p.n j.t (slid d p).starts (timing_of j p.insts).delays kept o (omega (arith, meets.operations)) in
        let e = cell-cells (row_at (delay_of j) p.insts) op_cells op_cells o (few o l) (omega arith) in
        (w.0, subst (λ (x : ℕ). start j (slid d p) o + x - 1 ≤ j.t) e w.1)

    moved-begins : (o : ℕ) → o < j.n → 1 ≤ moved (backward d) (steps d) (start j p o)
    moved-begins o l = subst (λ (s : ℕ). 1 ≤ s) (slid-start o l) (slid-limits o l).0

    slid-apart : (a b : ℕ) → a < j.n → b < j.n → start j p a + start j (slid d p) b ≡ start j p b + start j (slid d p) a
    slid-apart a b la lb =
        rw (slid-start a la, slid-start b lb) (moved_apart (backward d) (steps d) (start j p a) (start j p b) (moved-begins a la) (moved-begins b lb))

    pub slid-by : SlidBy d p (slid d p)
    unfolding slid
    slid-by =
        record {
          operations = refl;
          instances = refl;
          selection = refl;
          starts = λ o l.
              let q : o < j.n = omega (arith, meets.operations) in
              subst (λ (s : ℕ). pos s ≡ pos (start j p o) +ℤ d) (sym (slid-start o q)) (moved_sum d (start j p o) (moved-begins o q));
          insts = refl;
        }

    slid-row : (o : ℕ) → o < j.n → Row j (slid d p) o
    unfolding slid
    slid-row o l =
        let r = meets.rows o l in
        let w = slid-limits o l in
        record { instance = r.instance; able = r.able; chosen = r.chosen; begins = w.0; ends = w.1 }

    pub slid-meets : Meets j (slid d p)
    unfolding slid
    slid-meets =
        record {
          operations = meets.operations;
          instances = meets.instances;
          order = meets.order;
          rows = slid-row;
          precedence = λ a b n.
              let l = link-ends j sound a b n in
              let q = slid-apart a b l.0 l.1 in
              ⊎_elim (λ w. inl (omega (arith, q, w))) (λ w. inr (omega (arith, q, w.0), w.1, w.2)) (meets.precedence a b n);
          resource = λ a b la lb other e l.
              let q = slid-apart a b la lb in
              let w = meets.resource a b la lb other e (omega (arith, q, l)) in
              (omega (arith, q, w.0), omega (arith, q, w.1));
          chains = runs_moved j sound (start j p) (start j (slid d p)) slid-apart (time j p) (λ o l. (meets.rows o l).begins) meets.chains;
        }

    pub slid-cost : plan_cost j (slid d p) ≡ plan_cost j p
    unfolding plan_cost slid
    slid-cost = refl

    -- ---- and it can be written

    slid-small : (o : ℕ) → o < j.n → start j (slid d p) o ≤ max_steps
    slid-small o l =
        omega (arith, (slid-limits o l).1, some-step j.clock (time j p o) sound.counts.some (meets.rows o l).able, sound.steps)

    pub slid-sound : plan_record_fault p ≡ 0 → plan_record_fault (slid d p) ≡ 0
    unfolding plan_record_fault plan_fits slid
    slid-sound z =
        let w = none-plan p z in
        let marks = each_within p.selection max_select p.k w.marks in
        let starts = each_within (slid d p).starts max_steps p.n (λ o l. slid-small o (omega (arith, meets.operations))) in
        let insts = each_within p.insts max_inst p.n w.rows in
        none-or_else _ _ (or_else-none _ _ z).0
        (none-unless _ record_broken (both-and _ _ (both-and _ _ (both-and _ _ (both-and _ _ (both-and _ _ marks starts) insts) w.unused_marks)
        (blank-cells (moved_at (backward d) (steps d) p.starts) p.n op_cells)) w.unused_rows))

pub slid-shape : (d : ℤ) (p : Plan) → PlanShape p → PlanShape (slid d p)
unfolding slid
slid-shape d p t =
    record { selection = t.selection; starts = length-cells (moved_at (backward d) (steps d) p.starts) p.n op_cells; insts = t.insts }
