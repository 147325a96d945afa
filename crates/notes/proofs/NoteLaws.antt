-- What the check of a note answers, on bytes. Exactly the notes of closed trees have no fault (`no-fault`), so a note is accepted beside a
-- plan exactly where the plan passes and the note is such a one (`accepted-exactly`), and for none likewise (`none-accepted-exactly`).
-- Then the plan is a cheapest one (`accepted-cheapest`), or no plan meets the rules (`accepted-none`). `check-refused-exactly` says of each
-- refusal what is refused.
use Prim.Native.Nat.{ℕ, zero, suc, ◌+◌, ◌*◌, ◌≤◌}
use mathlib.Core.Path.{◌≡◌, refl, sym, ap, subst, ◌∙◌}
use mathlib.Core.Bool.{Bool}
use mathlib.Core.List.{List, []}
use mathlib.Core.Logic.{inl, inr, ⊎_elim, ◌↔◌}
use native.Mathlib.Omega.{arith}
use Rattle.std.specs.Prelude.{Some, None, is_some}
use borrow.Author.Tests.{leb-true, le-leb, eqb-true, eq-eqb}
use lib.Dec.{lit<}
use lib.ListN.{length}
use Rattle.basics.specs.Counting.{only}
use Rattle.basics.specs.Numbers.{note_long, verdict_differs, paper_note}
use Rattle.basics.proofs.CountLaws.{only-small}
use Rattle.basics.proofs.FaultLaws.{or_else-none, none-or_else, unless-none, none-unless}
use Rattle.bits.specs.Bits.{Bytes, field}
use Rattle.bits.specs.Sheet.{Field, total, bytes_for, fill}
use Rattle.bits.proofs.SheetLaws.{Fit, Holds, holds-pack, pack-holds, fill-pack, length-pack}
use Rattle.sheets.specs.Groups.{fill_fault}
use Rattle.sheets.specs.JobSheet.{JobRead, read_job}
use Rattle.sheets.specs.Limits.{max_ops, form_bits}
use Rattle.sheets.specs.declared.Job.{Job}
use Rattle.sheets.specs.declared.Plan.{Plan}
use Rattle.sheets.specs.Answers.{Read}
use Rattle.sheets.proofs.GroupLaws.{whole-none, none-whole, form-none, none-form, fill_none, none-fill}
use Rattle.rules.specs.Judge.{plan_cost}
use Rattle.rules.specs.Meets.{Meets, Passes}
use Rattle.placing.specs.Board.{board_of}
use Rattle.placing.specs.Closing.{Claim, AtMost, Tree, Turn, goes, stops, closable, choice, split_on, ClosesBoard}
use Rattle.placing.specs.Options.{none}
use Rattle.placing.specs.Placing.{Placing}
use Rattle.placing.specs.declared.Board.{Board}
use Rattle.placing.proofs.BoardLaws.{few-ops}
use Rattle.placing.proofs.ClosingLaws.{unplaced-below, closed-least}
use Rattle.placing.proofs.LeafMeets.{of-job}
use Rattle.notes.specs.Accepted.{ClosingNote, CheapestPlan, NoPlan, Refusal, job_unread, plan_unfit, note_faulty}
use Rattle.notes.specs.Check.{Claimed, Claims, Unclaimed, Checked, Cheapest, Nothing, Refused, plan_claim, no_claim, asked, head_fault, tree_fault, note_fault, accepted, checked, check_claim, check_note}
use Rattle.notes.specs.NoteSheet.{note_form, verdict_bits, note_head, split_bits, max_note, marks, note_fields, note_sheet}
use Rattle.notes.specs.Reading.{place_at}
use Rattle.notes.proofs.ClaimLaws.{asked-read, claimed-passes, claimed-none, unclaimed-exactly}
use Rattle.notes.proofs.TreeLaws.{TreeAt, place-tree, tree-place, place-stops, closes-fit}

-- ---- the header

record Head (note : List ℕ) (plan : Bool) : Type 0 where
  short : length note ≤ max_note
  form : field note 0 form_bits ≡ note_form
  long : note_head ≤ 8 * length note
  verdict : field note form_bits verdict_bits ≡ only plan 1

head-says : (note : List ℕ) (plan : Bool) → head_fault note plan ≡ 0 → Head note plan
unfolding head_fault
head-says note plan h =
    let a = or_else-none _ _ h in
    let b = or_else-none _ _ a.1 in
    let c = or_else-none _ _ b.1 in
    record {
      short = leb-true (length note) max_note (unless-none _ note_long (lit< tt) a.0);
      form = none-form note note_form b.0;
      long = none-whole (length note) note_head c.0;
      verdict = eqb-true _ _ (unless-none _ verdict_differs (lit< tt) c.1);
    }

says-head : (note : List ℕ) (plan : Bool) → Head note plan → head_fault note plan ≡ 0
unfolding head_fault
says-head note plan h =
    none-or_else _ _ (none-unless _ note_long (le-leb (length note) max_note h.short))
    (none-or_else _ _ (form-none note note_form h.form (omega (arith, h.long)))
    (none-or_else _ _ (whole-none (length note) note_head h.long) (none-unless _ verdict_differs (eq-eqb _ _ h.verdict))))

-- ---- the tree

module _ (b : Board) (claim : Claim) (note : List ℕ) where
  abbrev TreeHere : ℕ → Type 0
  TreeHere end = TreeAt note split_bits Placing (closable b claim) (choice b) (split_on b) b.n none note_head end

  record NoteRead : Type 0 where
    head : Head note (is_some claim)
    end : ℕ
    tree : TreeHere end
    last : fill_fault note end ≡ 0

  note-read : note_fault b claim note ≡ 0 → NoteRead
  unfolding note_fault tree_fault
  note-read h =
      let a = or_else-none (head_fault note (is_some claim)) _ h in
      go (place_at note split_bits b claim b.n none note_head) refl a.1 (head-says note (is_some claim) a.0)
    where
      go : (t : Turn ℕ) → place_at note split_bits b claim b.n none note_head ≡ t → tree_fault note t ≡ 0 → Head note (is_some claim) → NoteRead
      go (goes end) e f head =
          record {
            head = head;
            end = end;
            tree = place-tree note split_bits Placing (closable b claim) (choice b) (split_on b) b.n none note_head end e;
            last = f;
          }
      go (stops number) e f head =
          absurd (place-stops note split_bits Placing (closable b claim) (choice b) (split_on b) b.n none note_head number e f)

  pub no-fault-closes : note_fault b claim note ≡ 0 → (t : Tree) × ClosesBoard b claim b.n none t
  no-fault-closes h = let r = note-read h in (r.tree.tree, r.tree.closes)

  pub no-fault-note : Bytes note → note_fault b claim note ≡ 0 → ClosingNote b claim note
  unfolding note_sheet Holds total
  no-fault-note bytes h =
      let r = note-read h in
      let t : Tree = r.tree.tree in
      let fs : List Field = note_fields split_bits (is_some claim) t in
      let e : r.end ≡ total fs = omega (arith, r.tree.ends) in
      let f = none-fill note r.end r.last in
      let long = f.0 ∙ ap (λ (k : ℕ). bytes_for k) e in
      let zeros = subst (λ (k : ℕ). field note k (fill k) ≡ 0) e f.1 in
      let spelt : Holds note 0 fs = (r.head.form, (r.head.verdict, r.tree.holds)) in
      record {
        tree = t;
        closes = r.tree.closes;
        bytes = sym (pack-holds note fs bytes long zeros spelt);
        short = r.head.short;
      }

  -- a closing note has none
  module _ (few : b.n ≤ max_ops) (t : Tree) (closes : ClosesBoard b claim b.n none t) (bytes : note ≡ note_sheet (is_some claim) t) where
    abbrev end : ℕ
    end = note_head + total (marks split_bits t)

    marks-fit : Fit (marks split_bits t)
    marks-fit =
        closes-fit split_bits Placing (closable b claim) (choice b) (split_on b)
        (λ p o h. let l = unplaced-below b.n p.starts o h in omega arith) b.n none t closes

    fields_fit : Fit (note_fields split_bits (is_some claim) t)
    unfolding Fit
    fields_fit = (lit< tt, (omega (arith, only-small (is_some claim) 1), marks-fit))

    note-holds : Holds note 0 (note_fields split_bits (is_some claim) t)
    unfolding note_sheet
    note-holds = rw bytes (holds-pack (note_fields split_bits (is_some claim) t) fields_fit)

    fields-end : total (note_fields split_bits (is_some claim) t) ≡ end
    unfolding total
    fields-end = omega arith

    note-length : length note ≡ bytes_for end
    unfolding note_sheet
    note-length = rw bytes (length-pack (note_fields split_bits (is_some claim) t) ∙ ap (λ (k : ℕ). bytes_for k) fields-end)

    note-fill : field note end (fill end) ≡ 0
    unfolding note_sheet
    note-fill = rw bytes (subst (λ (k : ℕ). field (note_sheet (is_some claim) t) k (fill k) ≡ 0) fields-end (fill-pack (note_fields split_bits (is_some claim) t) fields_fit))

    head-none : length note ≤ max_note → head_fault note (is_some claim) ≡ 0
    unfolding Holds
    head-none short =
        says-head note (is_some claim)
        (record { short = short; form = note-holds.0; long = omega (arith, note-length); verdict = note-holds.1.0 })

    tree-none : tree_fault note (place_at note split_bits b claim b.n none note_head) ≡ 0
    unfolding tree_fault Holds
    tree-none =
        rw (tree-place note split_bits Placing (closable b claim) (choice b) (split_on b) b.n none t note_head closes note-holds.1.1 (omega (arith, note-length)))
        (fill_none note end note-length note-fill)

  pub note-no-fault : b.n ≤ max_ops → ClosingNote b claim note → note_fault b claim note ≡ 0
  unfolding note_fault
  note-no-fault few c = none-or_else _ _ (head-none few c.tree c.closes c.bytes c.short) (tree-none few c.tree c.closes c.bytes)

  pub no-fault : b.n ≤ max_ops → Bytes note → (note_fault b claim note ≡ 0) ↔ ClosingNote b claim note
  no-fault few bytes = (no-fault-note bytes, note-no-fault few)

-- ---- the check's three ways, and its answer in each

abbrev board_asked : List ℕ → List ℕ → Board
board_asked job plan = board_of (asked job plan).job

data Way (job plan note : List ℕ) : Type 0 where
  unclaimed : (number paper : ℕ) → (asked job plan).claimed ≡ Unclaimed number paper → Way job plan note
  faulty : (claim : Claim) (number : ℕ) → (asked job plan).claimed ≡ Claims claim → note_fault (board_asked job plan) claim note ≡ suc number → Way job plan note
  faultless : (claim : Claim) → (asked job plan).claimed ≡ Claims claim → note_fault (board_asked job plan) claim note ≡ 0 → Way job plan note

module _ (job plan note : List ℕ) where
  way : Way job plan note
  way = go (asked job plan).claimed refl
    where
      reading : (claim : Claim) → (asked job plan).claimed ≡ Claims claim → (fault : ℕ) → note_fault (board_asked job plan) claim note ≡ fault → Way job plan note
      reading claim e zero f = faultless claim e f
      reading claim e (suc number) f = faulty claim number e f

      go : (c : Claimed) → (asked job plan).claimed ≡ c → Way job plan note
      go (Claims claim) e = reading claim e (note_fault (board_asked job plan) claim note) refl
      go (Unclaimed number paper) e = unclaimed number paper e

  abbrev answer_of : Way job plan note → Checked
  answer_of (unclaimed number paper e) = Refused number paper
  answer_of (faulty claim number e f) = Refused (suc number) paper_note
  answer_of (faultless claim e f) = accepted claim

  answers : (w : Way job plan note) → check_note job plan note ≡ answer_of w
  unfolding check_note check_claim checked
  answers (unclaimed number paper e) = rw e
  answers (faulty claim number e f) = rw (e, f)
  answers (faultless claim e f) = rw (e, f)

  taken : (r : Checked) → check_note job plan note ≡ r → answer_of way ≡ r
  taken r e = sym (answers way) ∙ e

-- ---- accepted

accept-cheapest : (claim : Claim) (c : ℕ) → accepted claim ≡ Cheapest c → claim ≡ plan_claim c
unfolding accepted
accept-cheapest (Some cost) c e = cc
accept-cheapest None c e = cc

accept-nothing : (claim : Claim) → accepted claim ≡ Nothing → claim ≡ no_claim
unfolding accepted
accept-nothing (Some cost) e = cc
accept-nothing None e = refl

accept-not-refused : (claim : Claim) (number paper : ℕ) → accepted claim ≡ Refused number paper → ⊥
unfolding accepted
accept-not-refused (Some cost) number paper e = cc
accept-not-refused None number paper e = cc

module _ (job plan note : List ℕ) where
  -- what is claimed, and the note has no fault against it
  abbrev Stands : Claim → Type 0
  Stands claim = ((asked job plan).claimed ≡ Claims claim) × (note_fault (board_asked job plan) claim note ≡ 0)

  cheapest-stands : (c : ℕ) → check_note job plan note ≡ Cheapest c → Stands (plan_claim c)
  cheapest-stands c e = go (way job plan note) (taken job plan note (Cheapest c) e)
    where
      go : (w : Way job plan note) → answer_of job plan note w ≡ Cheapest c → Stands (plan_claim c)
      go (unclaimed number paper r) e = absurd (cc)
      go (faulty claim number r f) e = absurd (cc)
      go (faultless claim r f) e = subst Stands (accept-cheapest claim c e) (r, f)

  nothing-stands : check_note job plan note ≡ Nothing → Stands no_claim
  nothing-stands e = go (way job plan note) (taken job plan note Nothing e)
    where
      go : (w : Way job plan note) → answer_of job plan note w ≡ Nothing → Stands no_claim
      go (unclaimed number paper r) e = absurd (cc)
      go (faulty claim number r f) e = absurd (cc)
      go (faultless claim r f) e = subst Stands (accept-nothing claim e) (r, f)

  stands-accepted : (claim : Claim) → Stands claim → check_note job plan note ≡ accepted claim
  stands-accepted claim s = answers job plan note (faultless claim s.0 s.1)

  -- ---- the job that is asked of is the one that was read

  abbrev Reads : Job → Type 0
  Reads j = read_job job ≡ record { answer = Read; job = j }

  same-job : (claim : Claim) → (asked job plan).claimed ≡ Claims claim → (j : Job) → Reads j → (asked job plan).job ≡ j
  same-job claim e j r = ap (λ (x : JobRead). x.job) (sym (asked-read job plan claim e) ∙ r)

  stands-note : Bytes note → (claim : Claim) → Stands claim → (j : Job) → Reads j → ClosingNote (board_of j) claim note
  stands-note bytes claim s j r =
      subst (λ (j : Job). ClosingNote (board_of j) claim note) (same-job claim s.0 j r) (no-fault-note (board_asked job plan) claim note bytes s.1)

  note-stands : (claim : Claim) → (asked job plan).claimed ≡ Claims claim → (j : Job) → Reads j → ClosingNote (board_of j) claim note → Stands claim
  note-stands claim e j r n =
      let few = few-ops (board_asked job plan) (of-job job (asked job plan).job (asked-read job plan claim e)) in
      (e, note-no-fault (board_asked job plan) claim note few (subst (λ (j : Job). ClosingNote (board_of j) claim note) (sym (same-job claim e j r)) n))

  -- ---- accepted, exactly

  pub accepted-exactly : (c : ℕ) → Bytes note
      → (check_note job plan note ≡ Cheapest c) ↔ ((w : Passes job plan c) × ClosingNote (board_of w.as_job) (plan_claim c) note)
  unfolding accepted
  accepted-exactly c bytes = (
    λ e.
        let s = cheapest-stands c e in
        let w = (claimed-passes job plan c).0 s.0 in
        (w, stands-note bytes (plan_claim c) s w.as_job w.job_read),
    λ v.
        let e = (claimed-passes job plan c).1 v.0 in
        stands-accepted (plan_claim c) (note-stands (plan_claim c) e v.0.as_job v.0.job_read v.1),
  )

  pub none-accepted-exactly : Bytes note
      → (check_note job plan note ≡ Nothing)
      ↔ ((plan ≡ []) × (j : Job) × (read_job job ≡ record { answer = Read; job = j }) × ClosingNote (board_of j) no_claim note)
  unfolding accepted
  none-accepted-exactly bytes = (
    λ e.
        let s = nothing-stands e in
        let w = (claimed-none job plan).0 s.0 in
        (w.0, w.1.0, w.1.1, stands-note bytes no_claim s w.1.0 w.1.1),
    λ v.
        let e = (claimed-none job plan).1 (v.0, (v.1, v.2)) in
        stands-accepted no_claim (note-stands no_claim e v.1 v.2 v.3),
  )

  -- ---- sound, of any bytes

  keeps : (claim : Claim) → Stands claim → (j : Job) → Reads j → (q : Plan) → Meets j q → AtMost claim (plan_cost j q)
  keeps claim s j r q m =
      let t = no-fault-closes (board_asked job plan) claim note s.1 in
      closed-least job j r claim t.0
      (subst (λ (j : Job). ClosesBoard (board_of j) claim (board_of j).n none t.0) (same-job claim s.0 j r) t.1) q m

  pub accepted-cheapest : (c : ℕ) → check_note job plan note ≡ Cheapest c → CheapestPlan job plan c
  accepted-cheapest c e =
      let s = cheapest-stands c e in
      let w = (claimed-passes job plan c).0 s.0 in
      record { passes = w; least = keeps (plan_claim c) s w.as_job w.job_read }

  pub accepted-none : check_note job plan note ≡ Nothing → (plan ≡ []) × NoPlan job
  accepted-none e =
      let s = nothing-stands e in
      let w = (claimed-none job plan).0 s.0 in (
        w.0,
        record {
          as_job = w.1.0;
          job_read = w.1.1;
          none-meets = keeps no_claim s w.1.0 w.1.1;
        },
      )

  -- ---- refused

  module _ (number paper : ℕ) where
    refused-says : check_note job plan note ≡ Refused number paper → Refusal job plan note number paper
    refused-says e = go (way job plan note) (taken job plan note (Refused number paper) e)
      where
        go : (w : Way job plan note) → answer_of job plan note w ≡ Refused number paper → Refusal job plan note number paper
        go (unclaimed number' paper' r) e =
            let a : number' ≡ number = cc in
            let b : paper' ≡ paper = cc in
            ⊎_elim job_unread (λ w. plan_unfit w.0 w.1) ((unclaimed-exactly job plan number paper).0 (rw (← a, ← b) r))
        go (faulty claim number' r f) e =
            let a : suc number' ≡ number = cc in
            let b : paper ≡ paper_note = cc in
            note_faulty claim r (f ∙ a) (λ z. omega arith) b
        go (faultless claim r f) e = absurd (accept-not-refused claim number paper e)

    says-refused : Refusal job plan note number paper → check_note job plan note ≡ Refused number paper
    says-refused (job_unread r) = answers job plan note (unclaimed number paper ((unclaimed-exactly job plan number paper).1 (inl r)))
    says-refused (plan_unfit l r) = answers job plan note (unclaimed number paper ((unclaimed-exactly job plan number paper).1 (inr (l, r))))
    says-refused (note_faulty claim r f l p) = go number f l
      where
        go : (k : ℕ) → note_fault (board_asked job plan) claim note ≡ k → (k ≡ 0 → ⊥) → check_note job plan note ≡ Refused k paper
        go zero f l = absurd (l refl)
        go (suc k) f l = rw p (answers job plan note (faulty claim k r f))

    pub check-refused-exactly : (check_note job plan note ≡ Refused number paper) ↔ Refusal job plan note number paper
    check-refused-exactly = (refused-says, says-refused)
