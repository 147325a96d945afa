-- What the proofs of the writers need: what a place writes before its children, and what a call's promise says of the definition's turn.
use Prim.Native.Nat.{ℕ, suc, ◌+◌, ◌-◌, ◌≤◌, ◌<◌}
use mathlib.Core.Path.{◌≡◌, refl, sym, ap, subst, ◌∙◌}
use mathlib.Core.Bool.{Bool, true, false}
use mathlib.Core.List.{List}
use native.Mathlib.Decide.{ℕ_discrete}
use native.Mathlib.Omega.{arith}
use borrow.Author.Tests.{le-leb, lt-leb}
use lib.ListN.{length}
use lib.Seq.{get_or-set_same, get_or-set_other}
use Rattle.std.specs.Prelude.{Result, Ok, Err}
use Rattle.basics.specs.Faults.{number_of}
use Rattle.basics.specs.Numbers.{output_short, cheaper}
use Rattle.basics.specs.declared.refusals.Fault.{Fault}
use Rattle.bits.specs.Bits.{put_field}
use Rattle.bits.specs.Sheet.{total, put_all}
use Rattle.bits.proofs.PutLaws.{length-put}
use Rattle.sheets.specs.Limits.{op_cells}
use Rattle.placing.specs.Closing.{Claim, Turn, goes, stops, and_then, goes_if, in_turn, closable, split_on}
use Rattle.placing.specs.Options.{put}
use Rattle.placing.specs.Placing.{Placing}
use Rattle.placing.specs.Ready.{option_at, Ready}
use Rattle.placing.specs.declared.Board.{Board}
use Rattle.notes.specs.NoteSheet.{mark_bits, close_mark, split_mark}
use Rattle.notes.specs.Reading.{turn_of}
use Rattle.house.specs.House.{next_op, write_if, write}
use Rattle.house.specs.Writing.{Draft, draft, drafted, write_at, draft_end, InOrder, Drafts}
use Rattle.house.proofs.HouseBoard.{lowest-next}

-- ---- a promise and the definition's turn

pub closed-draft : {sheet' : List ℕ} {end : ℕ} (t : Turn Draft) → goes end ≡ draft_end t → ((x : Draft) → t ≡ goes x → sheet' ≡ x.bytes) → t ≡ goes (draft sheet' end)
closed-draft {sheet'} {end} (goes x) e f =
    let a : x.at ≡ end = cc in
    let b = f x refl in
    λ i. goes (draft (sym b i) (a i))
closed-draft (stops number) e f = cc

pub stopped-draft : {number : ℕ} (t : Turn Draft) → stops number ≡ draft_end t → t ≡ stops number
stopped-draft (goes x) e = cc
stopped-draft (stops k) e = cc

-- ---- the ends of a place

module _ {room : ℕ} {t : Turn Draft} {sheet sheet' : List ℕ} (long : length sheet' ≡ length sheet) where
  pub ends-stopped : (fault : Fault) → t ≡ stops (number_of fault) → Drafts room t (Err fault) sheet sheet'
  ends-stopped fault e = record { answers = rw e; bytes = λ x f. absurd (cc); inside = λ end f. absurd (cc); size = long }

  pub ends-closed : {end : ℕ} → t ≡ goes (draft sheet' end) → end ≤ room → Drafts room t (Ok end) sheet sheet'
  ends-closed {end} e l = record { answers = rw e; bytes = λ x f. cc; inside = λ end' f. let z : end ≡ end' = cc in omega arith; size = long }

-- what goes on from a mark
pub drafts-on : {room : ℕ} {t u : Turn Draft} {r : Result ℕ Fault} {sheet sheet₁ sheet' : List ℕ} → length sheet₁ ≡ length sheet → t ≡ u → Drafts room u r sheet₁ sheet'
    → Drafts room t r sheet sheet'
drafts-on l e w = record { answers = w.answers ∙ ap draft_end (sym e); bytes = λ x f. w.bytes x (sym e ∙ f); inside = w.inside; size = w.size ∙ l }

-- all placed
pub leaf-drafts : (r : Result ℕ Fault) (may : Bool) (at : ℕ) {room : ℕ} {t : Turn Draft} {sheet : List ℕ} → t ≡ goes_if may cheaper (draft sheet at) → at ≤ room
    → turn_of r ≡ goes_if may cheaper at → Drafts room t r sheet sheet
unfolding goes_if
leaf-drafts r true at e l q = record { answers = rw e q; bytes = λ x f. cc; inside = λ end f. let z : end ≡ at = cc in omega arith; size = refl }
leaf-drafts r false at e l q = record { answers = rw e q; bytes = λ x f. absurd (cc); inside = λ end f. absurd (cc); size = refl }

-- ---- a place before its children

module _ (room w : ℕ) (b : Board) (claim : Claim) (p : Placing) (sheet : List ℕ) (at : ℕ) {may : Bool} (m : may ≡ closable b claim p) where
  abbrev here : ℕ → Turn Draft
  here d = write_at room w b claim d p (draft sheet at)

  pub leaf-end : {op : ℕ} → op ≡ b.n → here (b.n - op) ≡ goes_if may cheaper (draft sheet at)
  unfolding write
  leaf-end {op} e = let z : b.n - op ≡ 0 = omega arith in ap here z ∙ rw m

  module _ {op : ℕ} (few : op ≤ b.n) (more : op ≡ b.n → ⊥) (next : next_op b p ≡ op) where
    on-mark : here (b.n - op)
        ≡ write_if may (drafted room close_mark (draft sheet at)) (and_then (drafted room (split_mark w op) (draft sheet at)) (in_turn (write_at room w b claim (b.n - (op + 1))) (split_on b p op)))
    unfolding write
    on-mark = let z : b.n - op ≡ suc (b.n - (op + 1)) = omega (arith, more) in ap here z ∙ rw (m, next)

    pub close-goes : {sheet' : List ℕ} → may ≡ true → at + mark_bits ≤ room → sheet' ≡ put_field sheet at mark_bits 0 → here (b.n - op) ≡ goes (draft sheet' (at + mark_bits))
    unfolding write_if drafted goes_if total put_all
    close-goes t l e = on-mark ∙ rw (t, le-leb (at + mark_bits) room l, e)

    pub close-stops : may ≡ true → room < at + mark_bits → here (b.n - op) ≡ stops output_short
    unfolding write_if drafted goes_if total
    close-stops t l = on-mark ∙ rw (t, lt-leb (at + mark_bits) room l)

    split-total : at + total (split_mark w op) ≡ at + mark_bits + w
    unfolding total
    split-total = omega arith

    pub split_goes : {sheet' : List ℕ} → may ≡ false → at + mark_bits + w ≤ room → sheet' ≡ put_all sheet at (split_mark w op)
        → here (b.n - op) ≡ in_turn (write_at room w b claim (b.n - (op + 1))) (split_on b p op) (draft sheet' (at + mark_bits + w))
    unfolding write_if drafted goes_if and_then
    split_goes f l e = on-mark ∙ rw (f, split-total, le-leb (at + mark_bits + w) room l, e)

    pub split-stops : may ≡ false → room < at + mark_bits + w → here (b.n - op) ≡ stops output_short
    unfolding write_if drafted goes_if and_then
    split-stops f l = on-mark ∙ rw (f, split-total, lt-leb (at + mark_bits + w) room l)

-- ---- what a mark leaves

pub put-length : (sheet : List ℕ) (at width value : ℕ) {sheet' : List ℕ} → sheet' ≡ put_field sheet at width value → length sheet' ≡ length sheet
put-length sheet at width value e = ap length e ∙ length-put sheet at width value

pub split-length : (sheet : List ℕ) (at w op : ℕ) {sheet' : List ℕ} → sheet' ≡ put_all sheet at (split_mark w op) → length sheet' ≡ length sheet
unfolding put_all
split-length sheet at w op e = ap length e ∙ length-put (put_field sheet at mark_bits 1) (at + mark_bits) w op ∙ length-put sheet at mark_bits 1

-- ---- in number order

pub last_less : {op n : ℕ} → op < n → op ≡ n → ⊥
last_less l e = omega arith

-- the lowest unplaced operation is op
pub next-is : {b : Board} {op here : ℕ} {p : Placing} {lows : List ℕ} → Ready b op p lows here → InOrder p op → (op ≡ b.n → ⊥) → next_op b p ≡ op
next-is {b} {op} {here} {p} w o h = lowest-next b.n op p.starts w.few o.below (λ l. w.behind op (omega arith))

pub next-order : (i : ℕ) {op s : ℕ} {p : Placing} → InOrder p op → length p.starts ≡ op_cells → op < op_cells → 1 ≤ s → InOrder (put p op (option_at s i)) (op + 1)
next-order i {op} {s} {p} o l k b =
    record {
      below = λ x m. elim (ℕ_discrete x op) [
        | yes e ↦ rw (e, get_or-set_same p.starts op s 0 (omega arith)) b
        | no d ↦ rw (get_or-set_other p.starts op x s 0 d) (o.below x (omega (arith, d)))
      ];
    }

pub same-order : {op : ℕ} {p p' : Placing} → p' ≡ p → InOrder p op → InOrder p' op
same-order {op} e o = subst (λ (q : Placing). InOrder q op) (sym e) o
