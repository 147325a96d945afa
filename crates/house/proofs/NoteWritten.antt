-- What the house writer's answers mean, on bytes. For a cheapest plan (`written-cheapest`), and for none where no plan meets the rules
-- (`written_none`), the house note is written exactly where it fits, else 22. What is written closes (`wrote-closing`) and is accepted
-- (`written-accepted`); for a plan that is not cheapest (`not-cheapest`), and for none where there is one (`not_none`), nothing is written.
-- Every answer but written leaves the output (`untouched`).
use Prim.Native.Nat.{ℕ, ◌≤◌, ◌<◌, min}
use mathlib.Core.Path.{◌≡◌, refl, sym, ap, subst, ◌∙◌}
use mathlib.Core.List.{List, [], ◌++◌}
use mathlib.Core.Logic.{◌⊎◌, inl, inr, ⊎_elim}
use native.Mathlib.Omega.{arith}
use Rattle.std.specs.Prelude.{is_some}
use lib.ListN.{length, take, drop}
use lib.Seq.{take_at}
use Rattle.basics.specs.Numbers.{output_short, cheaper, paper_note, paper_request}
use Rattle.bits.specs.Sheet.{Field, total, bytes_for, pack}
use Rattle.bits.proofs.SheetLaws.{total-append, length-pack}
use Rattle.sheets.specs.JobSheet.{read_job}
use Rattle.sheets.specs.declared.Job.{Job}
use Rattle.sheets.specs.declared.Plan.{Plan}
use Rattle.sheets.specs.Answers.{Read, Written, Wrote, Refused}
use Rattle.rules.specs.Judge.{plan_cost}
use Rattle.rules.specs.Meets.{Meets, Passes}
use Rattle.placing.specs.Board.{board_of, OfJob}
use Rattle.placing.specs.Closing.{Claim, Turn, goes, stops, and_then, closable, choice, split_on, ClosesBoard}
use Rattle.placing.specs.Options.{none}
use Rattle.placing.specs.Placing.{Placing}
use Rattle.placing.specs.declared.Board.{Board}
use Rattle.placing.proofs.BoardLaws.{few-ops}
use Rattle.placing.proofs.ClosingLaws.{closed-least}
use Rattle.placing.proofs.LeafMeets.{of-job}
use Rattle.placing.proofs.OptionLaws.{Met, none-met}
use Rattle.notes.specs.Accepted.{ClosingNote, CheapestPlan, NoPlan}
use Rattle.notes.specs.Check.{Claimed, Claims, Unclaimed, Cheapest, Nothing, plan_claim, no_claim, asked, accepted, checked, check_claim, check_note}
use Rattle.notes.specs.NoteSheet.{head_fields, marks, note_fields, split_bits, max_note, note_sheet}
use Rattle.notes.proofs.ClaimLaws.{asked-read, claimed-passes, claimed-none, claimed-either}
use Rattle.notes.proofs.NoteLaws.{note-no-fault}
use Rattle.house.specs.House.{next_op, house_tree_of, house_sheet, write, added, house_fields, room_of, paper_if, stopped_by, written_by, out_by, write_claim, claim_out, write_note, note_out}
use Rattle.house.proofs.HouseLaws.{then-goes, then-stops, added_goes, added-stops, fits-added, wrote-closes, closes-wrote, stopped}
use Rattle.house.proofs.HouseBoard.{house-steps, cheapest-closes, none-closes}

-- ---- the fields of a board's house note, in so many bits

module _ (b : Board) (of : OfJob b) (claim : Claim) where
  abbrev HouseCloses : Type 0
  HouseCloses = ClosesBoard b claim b.n none (house_tree_of b claim)

  abbrev fields : List Field
  fields = note_fields split_bits (is_some claim) (house_tree_of b claim)

  module _ (room : ℕ) where
    abbrev head : List Field
    head = head_fields (is_some claim)

    abbrev writing : List Field → Turn (List Field)
    writing so_far = write Placing (closable b claim) (next_op b) (split_on b) split_bits (added room) b.n none so_far

    pub fields-written : (fs : List Field) → house_fields b claim room ≡ goes fs → HouseCloses × (fs ≡ fields) × (total fs ≤ room)
    unfolding house_fields
    fields-written fs e =
        let (x, a, r) = then-goes (added room head []) writing fs e in
        let h = added_goes room head [] x a in
        let w = wrote-closes Placing (closable b claim) (choice b) (next_op b) (split_on b) (Met b) (house-steps b of) split_bits room b.n none (none-met b of) x fs r in
        (w.0, w.1 ∙ ap (λ (y : List Field). y ++ marks split_bits (house_tree_of b claim)) h.0, w.2 h.1)

    fields_fit : HouseCloses → total fields ≤ room → house_fields b claim room ≡ goes fields
    unfolding house_fields and_then total
    fields_fit h l =
        ap (λ (t : Turn (List Field)). and_then t writing) (fits-added room head [] (omega (arith, total-append head (marks split_bits (house_tree_of b claim)))))
        ∙ closes-wrote Placing (closable b claim) (choice b) (next_op b) (split_on b) split_bits room b.n none head h l

    fields-stopped : (number : ℕ) → house_fields b claim room ≡ stops number
        → ((number ≡ output_short) × (room < total fields)) ⊎ ((number ≡ cheaper) × (HouseCloses → ⊥))
    unfolding house_fields
    fields-stopped number e =
        ⊎_elim
        (λ a.
        let s = added-stops room head [] number a in
        inl (s.0, omega (arith, s.1, total-append head (marks split_bits (house_tree_of b claim)))))
        (λ (x, a, r).
        let h = added_goes room head [] x a in
        ⊎_elim (λ s. inl (s.0, subst (λ (y : List Field). room < total (y ++ marks split_bits (house_tree_of b claim))) h.0 s.1)) inr
        (stopped Placing (closable b claim) (choice b) (next_op b) (split_on b) (Met b) (house-steps b of) split_bits room b.n none (none-met b of) x number r))
        (then-stops (added room head []) writing number e)

    fields-short : HouseCloses → room < total fields → house_fields b claim room ≡ stops output_short
    fields-short h l = go (house_fields b claim room) refl
      where
        go : (t : Turn (List Field)) → house_fields b claim room ≡ t → t ≡ stops output_short
        go (goes fs) e = let w = fields-written fs e in absurd (omega (arith, w.2, ap total w.1))
        go (stops number) e = ⊎_elim (λ s. ap stops s.0) (λ s. absurd (s.1 h)) (fields-stopped number e)

    fields-refused : (HouseCloses → ⊥) → (house_fields b claim room ≡ stops cheaper) ⊎ ((house_fields b claim room ≡ stops output_short) × (room < total fields))
    fields-refused h = go (house_fields b claim room) refl
      where
        go : (t : Turn (List Field)) → house_fields b claim room ≡ t → (t ≡ stops cheaper) ⊎ ((t ≡ stops output_short) × (room < total fields))
        go (goes fs) e = absurd (h (fields-written fs e).0)
        go (stops number) e = ⊎_elim (λ s. inr (ap stops s.0, s.1)) (λ s. inl (ap stops s.0)) (fields-stopped number e)

-- ---- the writer's answers

-- the sheet is written exactly where it fits, else 22
abbrev pub WrittenWhereFits : List ℕ → List ℕ → List ℕ → List ℕ → Type 0
WrittenWhereFits job plan before sheet =
    ((length sheet ≤ min (length before) max_note)
    → (write_note job plan (length before) ≡ Wrote (length sheet)) × (note_out job plan before ≡ sheet ++ drop (length sheet) before))
    × ((min (length before) max_note < length sheet)
    → (write_note job plan (length before) ≡ Refused output_short paper_request) × (note_out job plan before ≡ before))

-- 44, or 22 where room ends first; never written
abbrev pub NeverWritten : List ℕ → List ℕ → List ℕ → List ℕ → Type 0
NeverWritten job plan before sheet =
    ((write_note job plan (length before) ≡ Refused cheaper paper_note)
    ⊎ ((write_note job plan (length before) ≡ Refused output_short paper_request) × (min (length before) max_note < length sheet)))
    × (note_out job plan before ≡ before)

-- what is written: the house note, whose tree closes
pub record WroteHouse (b : Board) (claim : Claim) (job plan before : List ℕ) (n : ℕ) : Type 0 where
  pub closes : ClosesBoard b claim b.n none (house_tree_of b claim)
  pub long : n ≡ length (house_sheet b claim)
  pub in-room : n ≤ length before
  pub short : n ≤ max_note
  pub begins : note_out job plan before ≡ house_sheet b claim ++ drop n before

abbrev size_in : Written → ℕ
size_in (Wrote size) = size
size_in (Refused number paper) = 0

stopped-not : {A : Type 0} (number n : ℕ) → stopped_by number ≡ Wrote n → A
unfolding stopped_by
stopped-not number n e = absurd (cc)

length-house : (b : Board) (claim : Claim) → length (house_sheet b claim) ≡ bytes_for (total (note_fields split_bits (is_some claim) (house_tree_of b claim)))
unfolding note_sheet
length-house b claim = length-pack (note_fields split_bits (is_some claim) (house_tree_of b claim))

min-le : (a b : ℕ) → (min a b ≤ a) × (min a b ≤ b)
min-le a b = (omega arith, omega arith)

module _ (job plan : List ℕ) (claim : Claim) (j : Job) (read : read_job job ≡ record { answer = Read; job = j }) (claims : (asked job plan).claimed ≡ Claims claim) where
  same-job : (asked job plan).job ≡ j
  unfolding asked
  same-job = ap (λ r. r.job) read

  of : OfJob (board_of j)
  of = of-job job j read

  module _ (before : List ℕ) where
    abbrev room : ℕ
    room = room_of (length before)

    abbrev sheet : List ℕ
    sheet = house_sheet (board_of j) claim

    answers : write_note job plan (length before) ≡ written_by (house_fields (board_of j) claim room)
    unfolding write_note write_claim
    answers = rw (claims, same-job)

    leaves : note_out job plan before ≡ out_by (house_fields (board_of j) claim room) before
    unfolding note_out claim_out
    leaves = rw (claims, same-job)

    fits-written : HouseCloses (board_of j) of claim → length sheet ≤ min (length before) max_note
        → (write_note job plan (length before) ≡ Wrote (length sheet)) × (note_out job plan before ≡ sheet ++ drop (length sheet) before)
    unfolding written_by out_by note_sheet
    fits-written h l =
        let size = length-house (board_of j) claim in
        let e = fields_fit (board_of j) of claim room h (omega (arith, size)) in (
          answers ∙ rw e (ap Wrote (sym size)),
          leaves ∙ rw e (ap (λ (k : ℕ). sheet ++ drop k before) (sym size)),
        )

    short-refused : HouseCloses (board_of j) of claim → min (length before) max_note < length sheet
        → (write_note job plan (length before) ≡ Refused output_short paper_request) × (note_out job plan before ≡ before)
    unfolding written_by stopped_by paper_if out_by
    short-refused h l =
        let e = fields-short (board_of j) of claim room h (omega (arith, length-house (board_of j) claim)) in
        (answers ∙ rw e, leaves ∙ rw e)

    closing-written : HouseCloses (board_of j) of claim → WrittenWhereFits job plan before sheet
    closing-written h = (fits-written h, short-refused h)

    never-written : (HouseCloses (board_of j) of claim → ⊥) → NeverWritten job plan before sheet
    unfolding written_by stopped_by paper_if out_by
    never-written h =
        ⊎_elim (λ e. (inl (answers ∙ rw e), leaves ∙ rw e))
        (λ w. (inr (answers ∙ rw w.0, omega (arith, w.1, length-house (board_of j) claim)), leaves ∙ rw w.0))
        (fields-refused (board_of j) of claim room h)

    wrote-house : (n : ℕ) → write_note job plan (length before) ≡ Wrote n → WroteHouse (board_of j) claim job plan before n
    unfolding written_by out_by note_sheet
    wrote-house n e = go (house_fields (board_of j) claim room) refl
      where
        go : (t : Turn (List Field)) → house_fields (board_of j) claim room ≡ t → WroteHouse (board_of j) claim job plan before n
        go (goes fs) q =
            let w = fields-written (board_of j) of claim room fs q in
            let is : bytes_for (total fs) ≡ n = ap size_in (rw (answers, q) at e) in
            let m = min-le (length before) max_note in
            record {
              closes = w.0;
              long = sym is ∙ ap (λ (xs : List Field). bytes_for (total xs)) w.1 ∙ sym (length-house (board_of j) claim);
              in-room = omega (arith, w.2, m.0);
              short = omega (arith, w.2, m.1);
              begins = leaves ∙ rw q (ap (λ (k : ℕ). pack fs ++ drop k before) is ∙ ap (λ (xs : List Field). pack xs ++ drop n before) w.1);
            }
        go (stops number) q = stopped-not number n (rw (answers, q) at e)

-- ---- for a cheapest plan, and for none

pub written-cheapest : (job plan before : List ℕ) (c : ℕ) (w : CheapestPlan job plan c)
    → WrittenWhereFits job plan before (house_sheet (board_of w.passes.as_job) (plan_claim c))
written-cheapest job plan before c w =
    let j : Job = w.passes.as_job in
    let read = w.passes.job_read in
    closing-written job plan (plan_claim c) j read ((claimed-passes job plan c).1 w.passes) before (cheapest-closes job j read c w.least)

pub written_none : (job plan before : List ℕ) (w : NoPlan job) → plan ≡ [] → WrittenWhereFits job plan before (house_sheet (board_of w.as_job) no_claim)
written_none job plan before w p =
    let j : Job = w.as_job in
    let read = w.job_read in
    closing-written job plan no_claim j read ((claimed-none job plan).1 (p, (j, read))) before (none-closes job j read w.none-meets)

-- ---- what is written

pub wrote-closing : (job plan before : List ℕ) (claim : Claim) (n : ℕ) → (asked job plan).claimed ≡ Claims claim → write_note job plan (length before) ≡ Wrote n
    → WroteHouse (board_of (asked job plan).job) claim job plan before n
wrote-closing job plan before claim n e w = wrote-house job plan claim (asked job plan).job (asked-read job plan claim e) e before n w

-- the bytes written are a note that closes
pub written-note : (job plan before : List ℕ) (claim : Claim) (n : ℕ) → (asked job plan).claimed ≡ Claims claim → write_note job plan (length before) ≡ Wrote n
    → ClosingNote (board_of (asked job plan).job) claim (take n (note_out job plan before))
written-note job plan before claim n e w =
    let b : Board = board_of (asked job plan).job in
    let h = wrote-closing job plan before claim n e w in
    let is : take n (note_out job plan before) ≡ house_sheet b claim =
    ap (take n) h.begins ∙ take_at (house_sheet b claim) (drop n before) n (sym h.long) in
    record { tree = house_tree_of b claim; closes = h.closes; bytes = is; short = omega (arith, h.short, ap length is, h.long) }

-- it is of a claim
pub wrote-claimed : (job plan : List ℕ) (room n : ℕ) → write_note job plan room ≡ Wrote n → (claim : Claim) × ((asked job plan).claimed ≡ Claims claim)
unfolding write_note write_claim
wrote-claimed job plan room n e = go (asked job plan).claimed refl
  where
    go : (x : Claimed) → (asked job plan).claimed ≡ x → (claim : Claim) × (x ≡ Claims claim)
    go (Claims claim) q = (claim, refl)
    go (Unclaimed number paper) q = absurd (let r : Refused number paper ≡ Wrote n = rw q at e in cc)

-- ---- where a plan is cheaper, and where there is one

pub not-cheapest : (job plan before : List ℕ) (c : ℕ) (w : Passes job plan c) (q : Plan) → Meets w.as_job q → plan_cost w.as_job q < c
    → NeverWritten job plan before (house_sheet (board_of w.as_job) (plan_claim c))
not-cheapest job plan before c w q m l =
    let j : Job = w.as_job in
    let read = w.job_read in
    never-written job plan (plan_claim c) j read ((claimed-passes job plan c).1 w) before (λ h.
    omega (arith, closed-least job j read (plan_claim c) (house_tree_of (board_of j) (plan_claim c)) h q m))

pub not_none : (job plan before : List ℕ) (j : Job) → read_job job ≡ record { answer = Read; job = j } → plan ≡ [] → (q : Plan) → Meets j q
    → NeverWritten job plan before (house_sheet (board_of j) no_claim)
not_none job plan before j read p q m =
    never-written job plan no_claim j read ((claimed-none job plan).1 (p, (j, read))) before (λ h.
    closed-least job j read no_claim (house_tree_of (board_of j) no_claim) h q m)

-- ---- every answer but written leaves the output

pub untouched : (job plan before : List ℕ) (number paper : ℕ) → write_note job plan (length before) ≡ Refused number paper → note_out job plan before ≡ before
unfolding write_note note_out write_claim claim_out written_by out_by
untouched job plan before number paper e = go (asked job plan).claimed (asked job plan).job e
  where
    turn : (t : Turn (List Field)) → written_by t ≡ Refused number paper → out_by t before ≡ before
    turn (goes fs) e = absurd (cc)
    turn (stops k) e = refl

    go : (x : Claimed) (j : Job) → write_claim x j (length before) ≡ Refused number paper → claim_out x j before ≡ before
    go (Claims claim) j e = turn (house_fields (board_of j) claim (room_of (length before))) e
    go (Unclaimed k by) j e = refl

-- ---- what is written is accepted

module _ (job plan before : List ℕ) (n : ℕ) (wrote : write_note job plan (length before) ≡ Wrote n) where
  abbrev note_left : List ℕ
  note_left = take n (note_out job plan before)

  checked-so : (claim : Claim) → (asked job plan).claimed ≡ Claims claim → check_note job plan note_left ≡ accepted claim
  unfolding check_note check_claim checked
  checked-so claim e =
      let j : Job = (asked job plan).job in
      let few = few-ops (board_of j) (of-job job j (asked-read job plan claim e)) in
      rw (e, note-no-fault (board_of j) claim note_left few (written-note job plan before claim n e wrote))

  -- as the claim has it: a plan that passes is a cheapest one, and beside no plan there is none
  pub written-accepted : ((c : ℕ) × Passes job plan c × (check_note job plan note_left ≡ Cheapest c)) ⊎ ((plan ≡ []) × (check_note job plan note_left ≡ Nothing))
  unfolding accepted
  written-accepted =
      let (claim, e) = wrote-claimed job plan (length before) n wrote in
      ⊎_elim
      (λ s. let e' = e ∙ ap Claims s.1 in inl (s.0, (claimed-passes job plan s.0).0 e', checked-so (plan_claim s.0) e'))
      (λ s. let e' = e ∙ ap Claims s in inr (((claimed-none job plan).0 e').0, checked-so no_claim e'))
      (claimed-either job plan claim e)
