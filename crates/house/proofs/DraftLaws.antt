-- Writing into bytes is writing fields: a draft of the fields so far goes on as they do (`draft-write`). The front of blank bytes that
-- fields were put into is their sheet (`front-pack`).
use Prim.Native.Nat.{ℕ, zero, suc, ◌+◌, ◌*◌, ◌/◌, ◌%◌, ◌-◌, ◌^◌, ◌≤◌}
use mathlib.Core.Path.{◌≡◌, refl, sym, ap, ap₂, ◌∙◌}
use mathlib.Core.Bool.{Bool, true, false}
use mathlib.Core.List.{List, [], ◌∷◌, ◌++◌}
use native.Mathlib.Nat.{zero-add, zero-div}
use native.Mathlib.Omega.{arith}
use Rattle.std.specs.Prelude.{is_some}
use lib.Dec.{leb, lit<}
use lib.ListN.{length, take, drop, replicate, length-replicate}
use lib.Seq.{take_at}
use Rattle.basics.specs.Numbers.{output_short, cheaper}
use Rattle.basics.proofs.TableLaws.{cell-replicate}
use Rattle.bits.specs.Bits.{bit, field, put_field, Bytes}
use Rattle.bits.specs.Sheet.{Field, total, bytes_for, fill, pack, put_all}
use Rattle.bits.proofs.PutLaws.{put_same, put_right, length-put, bytes-put}
use Rattle.bits.proofs.SheetLaws.{Fit, total-append, put-append, put-pack, length-pack}
use Rattle.placing.specs.Closing.{Claim, Turn, goes, stops, and_then, goes_if, in_turn, closable, split_on}
use Rattle.placing.specs.Options.{none}
use Rattle.placing.specs.Placing.{Placing}
use Rattle.placing.specs.declared.Board.{Board}
use Rattle.notes.specs.NoteSheet.{close_mark, split_mark, head_fields, split_bits}
use Rattle.house.specs.House.{next_op, write_if, write, added, house_fields}
use Rattle.house.specs.Writing.{Draft, draft, drafted, write_at, draft_from}

-- ---- a draft of fields, put into bytes from their first bit on

module _ (base : List ℕ) where
  abbrev pub draft_of : List Field → Draft
  draft_of fs = draft (put_all base 0 fs) (total fs)

  abbrev pub mapped : Turn (List Field) → Turn Draft
  mapped (goes fs) = goes (draft_of fs)
  mapped (stops number) = stops number

  mapped-if : (t : Bool) (number : ℕ) (fs : List Field) → goes_if t number (draft_of fs) ≡ mapped (goes_if t number fs)
  unfolding goes_if
  mapped-if true number fs = refl
  mapped-if false number fs = refl

  mapped-then : (t : Turn (List Field)) (f : List Field → Turn (List Field)) (g : Draft → Turn Draft) → ((fs : List Field) → g (draft_of fs) ≡ mapped (f fs))
      → and_then (mapped t) g ≡ mapped (and_then t f)
  unfolding and_then
  mapped-then (goes fs) f g h = h fs
  mapped-then (stops number) f g h = refl

  mapped-either : (t : Bool) (x y : Turn (List Field)) → write_if t (mapped x) (mapped y) ≡ mapped (write_if t x y)
  unfolding write_if
  mapped-either true x y = refl
  mapped-either false x y = refl

  draft-more : (so_far gs : List Field) → draft (put_all (put_all base 0 so_far) (total so_far) gs) (total so_far + total gs) ≡ draft_of (so_far ++ gs)
  draft-more so_far gs =
      ap₂ draft
      (ap (λ (at : ℕ). put_all (put_all base 0 so_far) at gs) (sym (zero-add (total so_far))) ∙ sym (put-append base 0 so_far gs))
      (sym (total-append so_far gs))

  module _ (room : ℕ) where
    draft-added : (gs so_far : List Field) → drafted room gs (draft_of so_far) ≡ mapped (added room gs so_far)
    unfolding drafted added
    draft-added gs so_far =
        ap (goes_if (leb (total so_far + total gs) room) output_short) (draft-more so_far gs)
        ∙ mapped-if (leb (total so_far + total gs) room) output_short (so_far ++ gs)

    module _ (Node : Type 0) (closable : Node → Bool) (next : Node → ℕ) (children : Node → ℕ → List Node) (w : ℕ) where
      abbrev write_bytes : ℕ → Node → Draft → Turn Draft
      write_bytes d n x = write Node closable next children w (drafted room) d n x

      abbrev write_fields : ℕ → Node → List Field → Turn (List Field)
      write_fields d n so_far = write Node closable next children w (added room) d n so_far

      draft-turns : (d : ℕ) → ((n : Node) (so_far : List Field) → write_bytes d n (draft_of so_far) ≡ mapped (write_fields d n so_far))
          → (ns : List Node) (so_far : List Field) → in_turn (write_bytes d) ns (draft_of so_far) ≡ mapped (in_turn (write_fields d) ns so_far)
      unfolding in_turn
      draft-turns d ih [] so_far = refl
      draft-turns d ih (n ∷ ns) so_far =
          ap (λ (t : Turn Draft). and_then t (in_turn (write_bytes d) ns)) (ih n so_far)
          ∙ mapped-then (write_fields d n so_far) (in_turn (write_fields d) ns) (in_turn (write_bytes d) ns) (draft-turns d ih ns)

      pub draft-write : (d : ℕ) (n : Node) (so_far : List Field) → write_bytes d n (draft_of so_far) ≡ mapped (write_fields d n so_far)
      unfolding write
      draft-write zero n so_far = mapped-if (closable n) cheaper so_far
      draft-write (suc d) n so_far =
          let kids : List Node = children n (next n) in
          let mark : List Field = split_mark w (next n) in
          ap₂ (write_if (closable n)) (draft-added close_mark so_far)
          (ap (λ (t : Turn Draft). and_then t (in_turn (write_bytes d) kids)) (draft-added mark so_far)
          ∙ mapped-then (added room mark so_far) (in_turn (write_fields d) kids) (in_turn (write_bytes d) kids) (draft-turns d (draft-write d) kids))
          ∙ mapped-either (closable n) (added room close_mark so_far) (and_then (added room mark so_far) (in_turn (write_fields d) kids))

-- ---- bytes that fields were put into

length-put-all : (s : List ℕ) (at : ℕ) (fs : List Field) → length (put_all s at fs) ≡ length s
unfolding put_all
length-put-all s at [] = refl
length-put-all s at (f ∷ fs) = length-put-all (put_field s at f.width f.value) (at + f.width) fs ∙ length-put s at f.width f.value

bytes-put-all : (s : List ℕ) (at : ℕ) (fs : List Field) → Bytes s → Bytes (put_all s at fs)
unfolding put_all
bytes-put-all s at [] hs = hs
bytes-put-all s at (f ∷ fs) hs = bytes-put-all (put_field s at f.width f.value) (at + f.width) fs (bytes-put s at f.width f.value)

-- what stands behind them stays
put-all-right : (s : List ℕ) (at : ℕ) (fs : List Field) (a n : ℕ) → Fit fs → at + total fs ≤ a → a + n ≤ 8 * length s
    → field (put_all s at fs) a n ≡ field s a n
unfolding put_all total Fit
put-all-right s at [] a n fit h l = refl
put-all-right s at (f ∷ fs) a n fit h l =
    let u : List ℕ = put_field s at f.width f.value in
    put-all-right u (at + f.width) fs a n fit.1 (omega arith) (omega (arith, length-put s at f.width f.value))
    ∙ put_right s at f.width f.value (omega arith) fit.0 a n (omega arith) l

field-blank : (size at w : ℕ) → field (replicate size 0) at w ≡ 0
unfolding field bit
field-blank size at zero = refl
field-blank size at (suc w) =
    rw (field-blank size at w, cell-replicate size ((at + w) / 8), zero-div (2 ^ (7 - (at + w) % 8))) refl

bytes-blank : (size : ℕ) → Bytes (replicate size 0)
bytes-blank size i = rw (cell-replicate size i) (lit< tt)

pub front-pack : (size : ℕ) (fs : List Field) → Fit fs → bytes_for (total fs) ≤ size
    → take (bytes_for (total fs)) (put_all (replicate size 0) 0 fs) ≡ pack fs
front-pack size fs fit l =
    let s : List ℕ = replicate size 0 in
    let long : length s ≡ size = length-replicate {A = ℕ} size 0 in
    let w : ℕ = total fs in
    let t : List ℕ = put_all s 0 fs in
    let lt : length t ≡ length s = length-put-all s 0 fs in
    let blank : field t w (fill w) ≡ 0 = put-all-right s 0 fs w (fill w) fit (omega arith) (omega arith) ∙ field-blank size w (fill w) in
    let same : t ≡ put_field t w (fill w) 0 =
    sym (put_same t w (fill w) (bytes-put-all s 0 fs (bytes-blank size)) (omega arith)) ∙ ap (put_field t w (fill w)) blank in
    ap (take (bytes_for w)) (same ∙ put-pack s fs (bytes-blank size) fit (omega arith)) ∙ take_at (pack fs) (drop (bytes_for w) s) (bytes_for w) (length-pack fs)

-- ---- the whole note

pub draft-from : (base : List ℕ) (b : Board) (claim : Claim) (room : ℕ) → draft_from b claim room base ≡ mapped base (house_fields b claim room)
unfolding draft_from house_fields put_all total
draft-from base b claim room =
    let head : List Field = head_fields (is_some claim) in
    ap (λ (t : Turn Draft). and_then t (write_at room split_bits b claim b.n none)) (draft-added base room head [])
    ∙ mapped-then base (added room head []) (write Placing (closable b claim) (next_op b) (split_on b) split_bits (added room) b.n none) (write_at room split_bits b claim b.n none)
    (draft-write base room Placing (closable b claim) (next_op b) (split_on b) split_bits b.n none)
