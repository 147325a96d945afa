-- What the proof of the house writer needs: how the sheet begins, and the promise at each of its ends.
use Prim.Native.Nat.{ℕ, ◌-◌, ◌≤◌, ◌<◌}
use mathlib.Core.Path.{◌≡◌, refl, sym, ap, ◌∙◌}
use mathlib.Core.List.{List, ◌++◌}
use native.Mathlib.Omega.{arith}
use Rattle.std.specs.Prelude.{is_some}
use borrow.Author.Tests.{le-leb, lt-leb, ne_eqb}
use lib.Dec.{lit<}
use lib.ListN.{length, take, drop, replicate}
use Rattle.basics.specs.Answers.{Promise}
use Rattle.basics.specs.Counting.{only}
use Rattle.std.specs.Prelude.{Result, Ok, Err}
use Rattle.basics.specs.Faults.{number_of, paper_of}
use Rattle.basics.specs.Numbers.{output_short, paper_note, paper_request}
use Rattle.basics.specs.declared.refusals.Fault.{Fault}
use Rattle.basics.specs.declared.refusals.Fault.TheVariants.{OutputShort}
use Rattle.basics.specs.declared.refusals.Refusal.{Refusal}
use Rattle.basics.proofs.CountLaws.{only-small}
use Rattle.bits.specs.Bits.{put_field}
use Rattle.bits.specs.Sheet.{Field, total, bytes_for, pack, put_all}
use Rattle.bits.proofs.SheetLaws.{Fit, fit_append}
use Rattle.sheets.specs.Limits.{form_bits}
use Rattle.sheets.specs.Answers.{Written, Wrote, Refused}
use Rattle.sheets.specs.declared.Job.{Job}
use Rattle.placing.specs.Board.{WasRead, board_of}
use Rattle.placing.specs.Closing.{Claim, Turn, goes, stops, and_then, goes_if}
use Rattle.placing.specs.Options.{none}
use Rattle.placing.specs.declared.Board.{Board}
use Rattle.placing.proofs.BoardLaws.{board-read}
use Rattle.notes.specs.Check.{Claims, asked, papers_of}
use Rattle.notes.specs.declared.Asked.{Asked}
use Rattle.notes.proofs.AskLaws.{papers-claimed, papers-refused}
use Rattle.notes.specs.NoteSheet.{note_form, verdict_bits, note_head, split_bits, max_note, head_fields, marks}
use Rattle.house.specs.House.{house_tree_of, house_fields, room_of, paper_if, stopped_by, written_by, out_by, write_claim, claim_out, write_note, note_out}
use Rattle.house.specs.Writing.{Draft, draft, drafted, write_at, draft_from, draft_end, InOrder, Drafts}
use Rattle.house.proofs.DraftLaws.{mapped, draft-from, front-pack}
use Rattle.house.proofs.HouseBoard.{house-widths}
use Rattle.house.proofs.NoteWritten.{fields-written}
use Rattle.house.proofs.WriteLaws.{closed-draft, stopped-draft, put-length}

-- ---- how it begins

pub none-order : InOrder none 0
none-order = record { below = λ o l. absurd (omega arith) }

module _ (b : Board) (claim : Claim) (room : ℕ) (sheet : List ℕ) where
  pub head-stops : room < note_head → Drafts room (draft_from b claim room sheet) (Err OutputShort) sheet sheet
  unfolding draft_from drafted goes_if and_then total
  head-stops l =
      let e : draft_from b claim room sheet ≡ stops output_short = rw (lt-leb note_head room l) in
      record {
        answers = rw e;
        bytes = λ x f. absurd (let z : stops output_short ≡ goes x = sym e ∙ f in cc);
        inside = λ end f. absurd (cc);
        size = refl;
      }

  head-goes : {sheet₁ sheet₂ : List ℕ} → note_head ≤ room → sheet₁ ≡ put_field sheet 0 form_bits note_form
      → sheet₂ ≡ put_field sheet₁ form_bits verdict_bits (only (is_some claim) 1)
      → draft_from b claim room sheet ≡ write_at room split_bits b claim b.n none (draft sheet₂ note_head)
  unfolding draft_from drafted goes_if and_then total put_all
  head-goes l e f = rw (le-leb note_head room l, f, e)

  -- and goes on with the tree
  pub tree-drafts : (j : Job) → b ≡ board_of j → {sheet₁ sheet₂ sheet' : List ℕ} {r : Result ℕ Fault} → note_head ≤ room → sheet₁ ≡ put_field sheet 0 form_bits note_form
      → sheet₂ ≡ put_field sheet₁ form_bits verdict_bits (only (is_some claim) 1)
      → Drafts room (write_at room split_bits b claim (b.n - 0) none (draft sheet₂ note_head)) r sheet₂ sheet'
      → Drafts room (draft_from (board_of j) claim room sheet) r sheet sheet'
  tree-drafts j of {sheet₁} {sheet₂} l e f w =
      let z : b.n - 0 ≡ b.n = omega arith in
      let t = ap (λ (x : Board). draft_from x claim room sheet) (sym of) ∙ head-goes l e f
      ∙ ap (λ (d : ℕ). write_at room split_bits b claim d none (draft sheet₂ note_head)) (sym z) in
      record {
        answers = w.answers ∙ sym (ap draft_end t);
        bytes = λ x q. w.bytes x (sym t ∙ q);
        inside = w.inside;
        size = w.size ∙ put-length sheet₁ form_bits verdict_bits (only (is_some claim) 1) f ∙ put-length sheet 0 form_bits note_form e;
      }

-- ---- how it ends

bytes-within : (end bytes : ℕ) → end ≤ room_of bytes → (bytes_for end ≤ bytes) × (bytes_for end ≤ max_note)
bytes-within end bytes l = (omega arith, omega arith)

abbrev draft_bytes : List ℕ → Turn Draft → List ℕ
draft_bytes other (goes x) = x.bytes
draft_bytes other (stops number) = other

abbrev draft_at : Turn Draft → ℕ
draft_at (goes x) = x.at
draft_at (stops number) = number

module _ (j : Job) (was : WasRead j) (claim : Claim) (out : List ℕ) {room : ℕ} (full : room ≡ room_of (length out)) {blank : List ℕ} (b : blank ≡ replicate max_note 0) where
  fields-are : draft_from (board_of j) claim room blank ≡ mapped blank (house_fields (board_of j) claim (room_of (length out)))
  fields-are = draft-from blank (board_of j) claim room ∙ ap (λ (k : ℕ). mapped blank (house_fields (board_of j) claim k)) full

  module _ {end : ℕ} {sheet' : List ℕ} (w : Drafts room (draft_from (board_of j) claim room blank) (Ok end) blank sheet') where
    pub ends-written : {out' : List ℕ} → out' ≡ take (bytes_for end) sheet' ++ drop (bytes_for end) out
        → Promise (write_claim (Claims claim) j (length out)) (claim_out (Claims claim) j out) (Wrote (bytes_for end)) out'
    unfolding write_claim claim_out written_by out_by Fit
    ends-written {out'} copy = go (house_fields (board_of j) claim (room_of (length out))) refl
      where
        t : mapped blank (house_fields (board_of j) claim (room_of (length out))) ≡ goes (draft sheet' end)
        t = sym fields-are ∙ closed-draft (draft_from (board_of j) claim room blank) w.answers w.bytes

        go : (x : Turn (List Field)) → house_fields (board_of j) claim (room_of (length out)) ≡ x
            → Promise (write_claim (Claims claim) j (length out)) (claim_out (Claims claim) j out) (Wrote (bytes_for end)) out'
        go (stops number) e = absurd (let z : stops number ≡ goes (draft sheet' end) = ap (mapped blank) (sym e) ∙ t in cc)
        go (goes fs) e =
            let of = board-read j was refl in
            let v = ap (mapped blank) (sym e) ∙ t in
            let a : total fs ≡ end = ap draft_at v in
            let c : put_all blank 0 fs ≡ sheet' = ap (draft_bytes sheet') v in
            let f = fields-written (board_of j) of claim (room_of (length out)) fs e in
            let fit : Fit fs =
            rw f.1 (fit_append (head_fields (is_some claim)) (marks split_bits (house_tree_of (board_of j) claim)) (lit< tt, (omega (arith, only-small (is_some claim) 1), tt)) (house-widths (board_of j) of claim)) in
            let size = bytes-within (total fs) (length out) f.2 in
            let front : take (bytes_for end) sheet' ≡ pack fs =
            rw (← c, ← a, b) (front-pack max_note fs fit size.1) in
            record {
              told = rw (e, a);
              bytes = copy ∙ rw (e, front, a);
            }

  pub ends-refused : (fault : Fault) {sheet' : List ℕ} → Drafts room (draft_from (board_of j) claim room blank) (Err fault) blank sheet' → {r' : Written} → r' ≡ stopped_by (number_of fault)
      → Promise (write_claim (Claims claim) j (length out)) (claim_out (Claims claim) j out) r' out
  unfolding write_claim claim_out written_by out_by
  ends-refused fault w {r'} h = go (house_fields (board_of j) claim (room_of (length out))) refl
    where
      t : mapped blank (house_fields (board_of j) claim (room_of (length out))) ≡ stops (number_of fault)
      t = sym fields-are ∙ stopped-draft (draft_from (board_of j) claim room blank) w.answers

      go : (x : Turn (List Field)) → house_fields (board_of j) claim (room_of (length out)) ≡ x
          → Promise (write_claim (Claims claim) j (length out)) (claim_out (Claims claim) j out) r' out
      go (goes fs) e = absurd (let z : mapped blank (goes fs) ≡ stops (number_of fault) = ap (mapped blank) (sym e) ∙ t in cc)
      go (stops k) e =
          let a : k ≡ number_of fault = ap draft_at (ap (mapped blank) (sym e) ∙ t) in
          record { told = h ∙ rw (e, a); bytes = rw e }

-- ---- the writer, as it is claimed

module _ (job plan out : List ℕ) (a : Asked) (e : papers_of a ≡ asked job plan) where
  pub write-claimed : (claim : Claim) → a.claimed ≡ Ok claim → {r : Written} {out' : List ℕ}
      → Promise (write_claim (Claims claim) a.job (length out)) (claim_out (Claims claim) a.job out) r out'
      → Promise (write_note job plan (length out)) (note_out job plan out) r out'
  unfolding write_note note_out
  write-claimed claim h w = rw (papers-claimed a (asked job plan) e claim h) w

  pub write-unclaimed : (r : Refusal) → a.claimed ≡ Err r
      → Promise (write_note job plan (length out)) (note_out job plan out) (Refused (number_of r.fault) (paper_of r.paper)) out
  unfolding write_note note_out write_claim claim_out
  write-unclaimed r h = rw (papers-refused a (asked job plan) e r h) (record { told = refl; bytes = refl })

-- ---- the fault of an output that is too short

short-alone : (fault : Fault) → number_of fault ≡ output_short → fault ≡ OutputShort
short-alone OutputShort e = refl
short-alone _ e = absurd (omega arith)

pub short-stops : (fault : Fault) → fault ≡ OutputShort → Refused (number_of fault) paper_request ≡ stopped_by (number_of fault)
unfolding stopped_by paper_if
short-stops fault e = rw e refl

pub other-stops : (fault : Fault) → (fault ≡ OutputShort → ⊥) → Refused (number_of fault) paper_note ≡ stopped_by (number_of fault)
unfolding stopped_by paper_if
other-stops fault h = rw (ne_eqb (number_of fault) output_short (λ e. h (short-alone fault e)))
