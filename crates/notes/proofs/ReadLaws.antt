-- What the proof of the reader needs: the ways a place goes on from its mark.
use Prim.Native.Nat.{ℕ, zero, suc, ◌+◌, ◌-◌, ◌*◌, ◌≤◌, ◌<◌}
use mathlib.Core.Path.{◌≡◌, refl, sym, ap, ◌∙◌}
use mathlib.Core.Bool.{Bool, true, false, not, ◌&&◌, ◌||◌}
use mathlib.Core.List.{List}
use native.Mathlib.Omega.{arith}
use borrow.Author.Tests.{ne_eqb, eqb-true, leb-true, ltb-true, ltb-false, not-true}
use lib.Dec.{eqb, leb, ltb, lit<}
use lib.ListN.{length}
use Rattle.std.specs.Prelude.{Result, Ok, Err, is_ok}
use Rattle.basics.specs.Faults.{◌or_else◌, fault_unless, number_of, fault_in}
use Rattle.basics.specs.Numbers.{split_broken, cheaper}
use Rattle.basics.specs.Tables.{cell}
use Rattle.basics.specs.declared.refusals.Fault.{Fault}
use Rattle.basics.proofs.AnswerLaws.{number-one}
use Rattle.basics.proofs.CountLaws.{and_both}
use Rattle.basics.proofs.FaultLaws.{or_else-none, unless-none, number-some}
use Rattle.sheets.specs.Groups.{runs_out}
use Rattle.sheets.proofs.GroupLaws.{none-whole}
use Rattle.rules.specs.Rules.{placed}
use Rattle.placing.specs.Closing.{Claim, Turn, goes, stops, goes_if, in_turn, closable, choice, unplaced, split_on}
use Rattle.placing.specs.Fitting.{fits, fits_on, free_on, links_on}
use Rattle.placing.specs.Placing.{Placing}
use Rattle.placing.specs.declared.Board.{Board}
use Rattle.notes.specs.NoteSheet.{mark_bits}
use Rattle.notes.specs.Reading.{splits, closes, split_op, split_end, fault_if, mark_fault, unless_fault, marked, place, place_at, turn_of, closed_by}
use Rattle.notes.proofs.TreeLaws.{place-tree}

-- ---- a place that is closed, or refused

pub closed-turn : (may : Bool) (fault : Fault) (at : ℕ) {r : Result ℕ Fault} → r ≡ closed_by may fault at → turn_of r ≡ goes_if may (number_of fault) at
unfolding closed_by goes_if
closed-turn true fault at e = ap turn_of e
closed-turn false fault at e = ap turn_of e

-- ---- an operation to split on

pub free-says : (n : ℕ) (starts : List ℕ) (o : ℕ) → unplaced n starts o ≡ true → (o < n) × (cell starts o ≡ 0)
unfolding unplaced
free-says n starts o h =
    let w = and_both (ltb o n) (not (placed starts o)) h in
    (ltb-true o n w.0, go (placed starts o) refl w.1)
  where
    go : (t : Bool) → placed starts o ≡ t → not t ≡ true → cell starts o ≡ 0
    go true e k = absurd (let z : false ≡ true = k in cc)
    go false e k = omega (arith, ltb-false 0 (cell starts o) e)

-- ---- a place, where the code's test is whether it may be closed

module _ (note : List ℕ) (w : ℕ) (b : Board) (claim : Claim) (p : Placing) (at : ℕ) {may : Bool} (m : may ≡ closable b claim p) where
  pub leaf-place : {left : ℕ} {t : Turn ℕ} → left ≡ 0 → t ≡ goes_if may cheaper at → t ≡ place_at note w b claim left p at
  unfolding place
  leaf-place e h = h ∙ rw (e, m)

  module _ {left : ℕ} (some : left ≡ 0 → ⊥) {fault : ℕ} (f : fault ≡ mark_fault note w may (unplaced b.n p.starts) at) where
    at_mark : place_at note w b claim left p at
        ≡ unless_fault fault (marked (splits note at) (in_turn (place_at note w b claim (left - 1)) (split_on b p (split_op note w at)) (split_end note w at)) (goes (at + mark_bits)))
    unfolding place
    at_mark = let e : left ≡ suc (left - 1) = omega (arith, some) in ap (λ (d : ℕ). place_at note w b claim d p at) e ∙ rw (f, m)

    pub fault-place : (fault ≡ 0 → ⊥) → stops fault ≡ place_at note w b claim left p at
    unfolding unless_fault
    fault-place h = go fault h at_mark
      where
        go : (k : ℕ) → (k ≡ 0 → ⊥) → place_at note w b claim left p at
            ≡ unless_fault k (marked (splits note at) (in_turn (place_at note w b claim (left - 1)) (split_on b p (split_op note w at)) (split_end note w at)) (goes (at + mark_bits)))
            → stops k ≡ place_at note w b claim left p at
        go zero h e = absurd (h refl)
        go (suc k) h e = rw e

    module _ (sound : fault ≡ 0) where
      parts : (runs_out (length note) (at + mark_bits) ≡ 0) × (fault_if note w (splits note at) may (unplaced b.n p.starts) at ≡ 0)
      unfolding mark_fault
      parts = or_else-none _ _ (sym f ∙ sound)

      pub close-place : splits note at ≡ false → goes (at + mark_bits) ≡ place_at note w b claim left p at
      unfolding unless_fault marked
      close-place e = rw (at_mark, sound, e)

      module _ (e : splits note at ≡ true) where
        pub split-place : place_at note w b claim left p at ≡ in_turn (place_at note w b claim (left - 1)) (split_on b p (split_op note w at)) (split_end note w at)
        unfolding unless_fault marked
        split-place = at_mark ∙ rw (sound, e)

        split_parts : (runs_out (length note) (split_end note w at) ≡ 0) × (fault_unless (unplaced b.n p.starts (split_op note w at)) split_broken ≡ 0)
        unfolding fault_if
        split_parts = or_else-none _ _ (rw e at parts.1)

        pub split-inside : split_end note w at ≤ 8 * length note
        split-inside = none-whole (length note) (split_end note w at) split_parts.0

        pub split-choice : choice b p (split_op note w at) ≡ true
        split-choice = unless-none _ split_broken (lit< tt) split_parts.1

-- what is read ends inside the note
pub read-inside : (note : List ℕ) (w : ℕ) (b : Board) (claim : Claim) (d : ℕ) (p : Placing) (at end : ℕ) → place_at note w b claim d p at ≡ goes end
    → at ≤ 8 * length note → end ≤ 8 * length note
read-inside note w b claim d p at end e = (place-tree note w Placing (closable b claim) (choice b) (split_on b) d p at end e).within

-- where it may be closed, and its mark does
pub once-read : (note : List ℕ) (w : ℕ) (b : Board) (claim : Claim) (p : Placing) (at : ℕ) {left : ℕ} → closable b claim p ≡ true → 0 < left → closes note at ≡ true
    → goes (at + mark_bits) ≡ place_at note w b claim left p at
unfolding mark_fault fault_if fault_unless ◌or_else◌
once-read note w b claim p at may some h =
    let c = and_both (eqb (runs_out (length note) (at + mark_bits)) 0) (not (splits note at)) h in
    let whole = eqb-true (runs_out (length note) (at + mark_bits)) 0 c.0 in
    let splits-not : splits note at ≡ false = not-true (splits note at) c.1 in
    close-place note w b claim p at {may = true} (sym may) (λ z. omega arith) {fault = 0} (sym (rw (whole, splits-not))) refl splits-not

-- the code's test of whether links are settled
pub settles : (reach op first s : ℕ) → leb reach op && ltb first s ≡ true → (reach ≤ op) × (first < s)
settles reach op first s h = let w = and_both (leb reach op) (ltb first s) h in (leb-true reach op w.0, ltb-true first s w.1)

-- the test of a row is that of the instance, and then that of links
module _ (b : Board) (p : Placing) (settled : Bool) (reach op s i : ℕ) {free : Bool} (e : free ≡ free_on b p reach op s i) where
  pub taken-fits : free ≡ false → free ≡ fits_on b p settled reach op s i
  unfolding fits
  taken-fits h = h ∙ sym (ap (λ (x : Bool). x && (settled || links_on b p reach op s i)) (sym e ∙ h))

  pub kept-fits : free ≡ true → {kept : Bool} → kept ≡ settled || links_on b p reach op s i → kept ≡ fits_on b p settled reach op s i
  unfolding fits
  kept-fits h k = k ∙ sym (ap (λ (x : Bool). x && (settled || links_on b p reach op s i)) (sym e ∙ h))

-- there is no fault exactly where the code's result is Ok
pub ok-sound : {A : Type 0} (r : Result A Fault) → is_ok r ≡ eqb (fault_in r) 0
ok-sound (Ok x) = refl
ok-sound (Err fault) = sym (ne_eqb (number_of fault) 0 (number-some fault))

-- results that the definitions call alike are equal
pub one_turn : (r r' : Result ℕ Fault) → turn_of r ≡ turn_of r' → r ≡ r'
one_turn (Ok n) (Ok m) e = ap (λ (x : ℕ). Ok x) (cc)
one_turn (Ok n) (Err g) e = cc
one_turn (Err f) (Ok n) e = cc
one_turn (Err f) (Err g) e = ap (λ (x : Fault). Err x) (number-one f g (cc))
