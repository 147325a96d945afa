-- The test of chains, link by link, holds exactly where every run within a step is within the clock: `chain-rule`.
use Prim.Native.Nat.{ℕ, zero, suc, ◌+◌, ◌≤◌, ◌<◌, max}
use mathlib.Core.Path.{◌≡◌, refl, sym, ap, ◌∙◌}
use mathlib.Core.Bool.{Bool, true, false, ◌&&◌}
use mathlib.Core.List.{List, [], ◌∷◌}
use mathlib.Core.Logic.{◌↔◌}
use native.Mathlib.Decide.{ℕ_discrete, dec_lt}
use native.Mathlib.Nat.{le-max_left, le-max_right}
use native.Mathlib.Omega.{arith}
use borrow.Author.Tests.{leb-true, ltb-true, eqb-true, le-leb, lt-ltb, eq-eqb}
use lib.Dec.{eqb}
use lib.ListN.{length}
use Rattle.basics.specs.Tables.{cell}
use Rattle.basics.proofs.CountLaws.{and_both, both-and, asked, where-asked, all_to-each, each-all_to}
use Rattle.basics.proofs.TableLaws.{cell-replicate}
use Rattle.sheets.specs.Limits.{op_cells}
use Rattle.sheets.specs.declared.Job.{Job}
use Rattle.sheets.proofs.RecordLaws.{JobSound}
use Rattle.rules.specs.Rules.{placed, joins, same_step, carried, brought_by, run_ok, run_ok_at, chains_ok}
use Rattle.rules.specs.Meets.{Link, Joined, AllIn, run_total, RunsFit}
use Rattle.rules.proofs.ChainLaws.{raised-here, raised-there, brings-on, brings-off, brings-length}

module _ (j : Job) (sound : JobSound j) (starts times : List ℕ) where
  abbrev from : ℕ → ℕ
  from l = cell j.from l

  abbrev to : ℕ → ℕ
  to l = cell j.to l

  abbrev start : ℕ → ℕ
  start o = cell starts o

  abbrev time : ℕ → ℕ
  time o = cell times o

  -- what the first l links bring to each operation
  abbrev table : ℕ → List ℕ
  table l = brought_by j.from j.to j.wire starts times l

  abbrev carry : ℕ → ℕ
  carry l = cell (table l) (from l) + time (from l) + j.wire

  -- ---- a link in one step

  step-parts : (l : ℕ) → same_step j.from j.to starts l ≡ true → (1 ≤ start (from l)) × (start (from l) ≡ start (to l))
  unfolding same_step joins
  step-parts l h =
      let a = and_both (placed starts (from l) && placed starts (to l)) (eqb (start (from l)) (start (to l))) h in
      let b = and_both (placed starts (from l)) (placed starts (to l)) a.0 in
      (omega (arith, ltb-true 0 (start (from l)) b.0), eqb-true _ _ a.1)

  parts-step : (l s : ℕ) → 1 ≤ s → start (from l) ≡ s → start (to l) ≡ s → same_step j.from j.to starts l ≡ true
  unfolding same_step joins
  parts-step l s h p q =
      both-and _ _ (both-and _ _ (lt-ltb 0 (start (from l)) (omega arith)) (lt-ltb 0 (start (to l)) (omega arith))) (eq-eqb _ _ (p ∙ sym q))

  -- ---- one link more

  table-length : (l : ℕ) → length (table l) ≡ op_cells
  unfolding brought_by
  table-length zero = refl
  table-length (suc l) = brings-length j.from j.to j.wire starts times (table l) l ∙ table-length l

  -- to the link's second operation, and to any other
  brought-here : (l : ℕ) → l < j.e → same_step j.from j.to starts l ≡ true → cell (table (suc l)) (to l) ≡ max (cell (table l) (to l)) (carry l)
  unfolding brought_by carried
  brought-here l q h =
      ap (λ (t : List ℕ). cell t (to l)) (brings-on j.from j.to j.wire starts times (table l) l h)
      ∙ raised-here (table l) (to l) (carried j.from j.wire times (table l) l) (omega (arith, table-length l, (sound.links l q).1, sound.counts.ops))

  brought-there : (l o : ℕ) → (o ≡ to l → ⊥) → cell (table (suc l)) o ≡ cell (table l) o
  unfolding brought_by
  brought-there l o d = go (same_step j.from j.to starts l) refl
    where
      go : (test : Bool) → same_step j.from j.to starts l ≡ test → cell (table (suc l)) o ≡ cell (table l) o
      go true h = ap (λ (t : List ℕ). cell t o) (brings-on j.from j.to j.wire starts times (table l) l h) ∙ raised-there (table l) (to l) _ o d
      go false h = ap (λ (t : List ℕ). cell t o) (brings-off j.from j.to j.wire starts times (table l) l h)

  brought-still : (l o : ℕ) → same_step j.from j.to starts l ≡ false → cell (table (suc l)) o ≡ cell (table l) o
  unfolding brought_by
  brought-still l o h = ap (λ (t : List ℕ). cell t o) (brings-off j.from j.to j.wire starts times (table l) l h)

  grows-once : (l o : ℕ) → l < j.e → cell (table l) o ≤ cell (table (suc l)) o
  grows-once l o q = go (ℕ_discrete o (to l)) (same_step j.from j.to starts l) refl
    where
      go : Dec (o ≡ to l) → (test : Bool) → same_step j.from j.to starts l ≡ test → cell (table l) o ≤ cell (table (suc l)) o
      go (yes e) true h = rw (e, brought-here l q h) (le-max_left (cell (table l) (to l)) (carry l))
      go (yes e) false h = omega (arith, brought-still l o h)
      go (no d) test h = omega (arith, brought-there l o d)

  grows : (i k o : ℕ) → i ≤ k → k ≤ j.e → cell (table i) o ≤ cell (table k) o
  grows i zero o h q = let e : i ≡ 0 = omega arith in rw e (omega arith)
  grows i (suc k) o h q =
      elim (dec_lt i (suc k)) [
        | yes l ↦ omega (arith, grows i k o (omega arith) (omega arith), grows-once k o q)
        | no l ↦ let e : i ≡ suc k = omega arith in rw e (omega arith)
      ]

  -- ---- where the test holds, every run is within the clock

  tested : chains_ok j.from j.to j.e j.wire j.clock starts times ≡ true
      → (l : ℕ) → l < j.e → same_step j.from j.to starts l ≡ true → carry l + time (to l) ≤ j.clock
  unfolding chains_ok run_ok carried
  tested h l q e =
      leb-true _ _ (asked (same_step j.from j.to starts l) _ e (all_to-each (run_ok_at j.from j.to j.wire j.clock starts times) j.e h l q))

  -- a run's next link comes behind its first
  next : (a b d : ℕ) (n : Link j a b) (m : Link j b d) → n.number < m.number
  next a b d n m =
      elim (dec_lt n.number m.number) [
        | yes h ↦ h
        | no h ↦ absurd (omega (arith, sound.ascend m.number n.number (omega arith) n.below, (sound.links n.number n.below).0, n.leaves, n.enters, m.leaves))
      ]

  -- a run to whose first operation v was brought
  run_fits : chains_ok j.from j.to j.e j.wire j.clock starts times ≡ true → (s : ℕ) → 1 ≤ s → (run : List ℕ) (a b v : ℕ) (k : Joined j (a ∷ b ∷ run)) → AllIn start s (a ∷ b ∷ run)
      → v ≤ cell (table k.0.number) a → v + run_total j.wire time (a ∷ b ∷ run) ≤ j.clock
  run_fits h s z [] a b v k w q =
      let n = k.0 in
      let t = tested h n.number n.below (parts-step n.number s z (ap start n.leaves ∙ w.0) (ap start n.enters ∙ w.1.0)) in
      let x : cell (table n.number) a + time a + j.wire + time b ≤ j.clock = rw (n.leaves, n.enters) at t in
      omega arith
  run_fits h s z (d ∷ run) a b v k w q =
      let n = k.0 in
      let m = k.1.0 in
      let e = parts-step n.number s z (ap start n.leaves ∙ w.0) (ap start n.enters ∙ w.1.0) in
      let c = brought-here n.number n.below e in
      let x : cell (table (suc n.number)) b ≡ max (cell (table n.number) b) (cell (table n.number) a + time a + j.wire) = rw (n.leaves, n.enters) at c in
      let y = le-max_right (cell (table n.number) b) (cell (table n.number) a + time a + j.wire) in
      let g = grows (suc n.number) m.number b (omega (arith, next a b d n m)) (omega (arith, m.below)) in
      let r = run_fits h s z run b d (v + time a + j.wire) k.1 w.1 (omega arith) in
      omega arith

  -- ---- where every run is within the clock, the test holds

  nothing : (o : ℕ) → cell (table 0) o ≡ 0
  unfolding brought_by
  nothing o = cell-replicate op_cells o

  -- all that the first l links bring to o is within the clock, with any run on from o
  abbrev BringsFit : ℕ → ℕ → Type 0
  BringsFit s l =
      (o b : ℕ) (run : List ℕ) → Joined j (o ∷ b ∷ run) → AllIn start s (o ∷ b ∷ run) → cell (table l) o + run_total j.wire time (o ∷ b ∷ run) ≤ j.clock

  -- one link more
  bring-more : (s l : ℕ) → l < j.e → BringsFit s l → BringsFit s (suc l)
  bring-more s l q before o b run k w = go (ℕ_discrete o (to l)) (same_step j.from j.to starts l) refl
    where
      go : Dec (o ≡ to l) → (test : Bool) → same_step j.from j.to starts l ≡ test → cell (table (suc l)) o + run_total j.wire time (o ∷ b ∷ run) ≤ j.clock
      go (no d) test h = omega (arith, brought-there l o d, before o b run k w)
      go (yes e) false h = omega (arith, brought-still l o h, before o b run k w)
      go (yes e) true h =
          let t : start (from l) ≡ s = (step-parts l h).1 ∙ ap start (sym e) ∙ w.0 in
          let y = before (from l) o (b ∷ run) (record { number = l; below = q; leaves = refl; enters = sym e }, k) (t, w) in
          let c : cell (table (suc l)) o ≡ max (cell (table l) o) (carry l) = rw (← e) at (brought-here l q h) in
          omega (arith, before o b run k w)

  bring-fits : RunsFit j start time → (s : ℕ) → 1 ≤ s → (l : ℕ) → l ≤ j.e → BringsFit s l
  unfolding RunsFit
  bring-fits r s z zero q = λ o b run k w. omega (arith, nothing o, r s (o ∷ b ∷ run) z (omega arith) k w)
  bring-fits r s z (suc l) q = bring-more s l q (bring-fits r s z l (omega arith))

  -- ---- the two are one

  runs-of-test : chains_ok j.from j.to j.e j.wire j.clock starts times ≡ true → RunsFit j start time
  unfolding RunsFit
  runs-of-test h s [] z n k w = absurd (omega arith)
  runs-of-test h s (a ∷ []) z n k w = absurd (omega arith)
  runs-of-test h s (a ∷ b ∷ run) z n k w = omega (arith, run_fits h s z run a b 0 k w (omega arith))

  test-of-runs : RunsFit j start time → chains_ok j.from j.to j.e j.wire j.clock starts times ≡ true
  unfolding chains_ok run_ok carried
  test-of-runs r =
      each-all_to (run_ok_at j.from j.to j.wire j.clock starts times) j.e (λ l q.
      where-asked (same_step j.from j.to starts l) _ (λ h.
      let p = step-parts l h in
      le-leb (carry l + time (to l)) j.clock (omega (arith, bring-fits r (start (from l)) p.0 l (omega arith) (from l) (to l) [] (record { number = l; below = q; leaves = refl; enters = refl }, tt) (refl, (sym p.1, tt))))))

  pub chain-rule : (chains_ok j.from j.to j.e j.wire j.clock starts times ≡ true) ↔ RunsFit j start time
  chain-rule = (runs-of-test, test-of-runs)
