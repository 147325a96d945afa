-- What the proofs of the check need: the header's fault is the note's, and without one the tree's end decides (`note_laws`); what is claimed is
-- accepted where the note has no fault (`check_laws`).
use Prim.Native.Nat.{ℕ, zero, suc, ◌*◌, ◌≤◌}
use mathlib.Core.Path.{◌≡◌, refl, sym, ap, ◌∙◌}
use mathlib.Core.Bool.{Bool}
use mathlib.Core.List.{List}
use borrow.Author.Tests.{leb-true}
use lib.Dec.{lit<}
use lib.ListN.{length}
use Rattle.std.specs.Prelude.{Result, Ok, Err, IfOk, IfErr, Some, None, is_some}
use Rattle.basics.specs.Answers.{refused_says}
use Rattle.basics.specs.declared.Answer.{Answer}
use Rattle.basics.specs.Faults.{number_of, paper_of}
use Rattle.basics.specs.Numbers.{note_long, paper_note}
use Rattle.basics.specs.declared.refusals.Fault.{Fault}
use Rattle.basics.specs.declared.refusals.Refusal.{Refusal}
use Rattle.basics.proofs.AnswerLaws.{refusal-one}
use Rattle.basics.proofs.FaultLaws.{or_else-go, or_else-none, fault-stops, unless-none, number-some}
use Rattle.sheets.specs.Answers.{Read}
use Rattle.sheets.specs.Groups.{fill_fault}
use Rattle.sheets.proofs.GroupLaws.{none-whole}
use Rattle.placing.specs.Board.{WasRead, board_of}
use Rattle.placing.specs.Closing.{Claim, Turn, goes, stops}
use Rattle.placing.specs.Options.{none}
use Rattle.placing.specs.declared.Board.{Board}
use Rattle.notes.specs.NoteSheet.{note_head, split_bits, max_note}
use Rattle.notes.specs.Reading.{place_at}
use Rattle.notes.specs.Check.{Refused, AskedPapers, asked, papers_of, head_fault, tree_fault, note_fault, accepted, checked, check_claim, check_note, checked_of, checked_says}
use Rattle.notes.proofs.AskLaws.{papers-claimed, papers-refused}
use Rattle.notes.proofs.ClaimLaws.{asked-read}
use Rattle.notes.specs.declared.Asked.{Asked}
use Rattle.notes.proofs.ReadLaws.{read-inside}

-- ---- a note against a claim

pub head-inside : (note : List ℕ) (plan : Bool) → head_fault note plan ≡ 0 → (length note ≤ max_note) × (note_head ≤ 8 * length note)
unfolding head_fault
head-inside note plan h =
    let a = or_else-none _ _ h in
    let b = or_else-none _ _ a.1 in
    let c = or_else-none _ _ b.1 in
    (leb-true (length note) max_note (unless-none _ note_long (lit< tt) a.0), none-whole (length note) note_head c.0)

module _ (b : Board) (claim : Claim) (note : List ℕ) where
  pub head-stops : (fault : Fault) → number_of fault ≡ head_fault note (is_some claim) → number_of fault ≡ note_fault b claim note
  unfolding note_fault
  head-stops fault e = fault-stops _ _ fault e

  module _ (sound : head_fault note (is_some claim) ≡ 0) where
    by-tree : (t : Turn ℕ) → t ≡ place_at note split_bits b claim b.n none note_head → tree_fault note t ≡ note_fault b claim note
    unfolding note_fault
    by-tree t e = ap (tree_fault note) e ∙ sym (or_else-go _ _ sound)

    pub tree-inside : {end : ℕ} → goes end ≡ place_at note split_bits b claim b.n none note_head → end ≤ 8 * length note
    tree-inside {end} e = read-inside note split_bits b claim b.n none note_head end (sym e) (head-inside note (is_some claim) sound).1

    pub tree-ended : {end fault : ℕ} → goes end ≡ place_at note split_bits b claim b.n none note_head → fault ≡ fill_fault note end → fault ≡ note_fault b claim note
    unfolding tree_fault
    tree-ended {end} e f = f ∙ by-tree (goes end) e

    pub tree-stopped : {number : ℕ} → stops number ≡ place_at note split_bits b claim b.n none note_head → number ≡ note_fault b claim note
    unfolding tree_fault
    tree-stopped {number} e = by-tree (stops number) e

-- ---- the check, as it is claimed

module _ (job plan : List ℕ) (a : Asked) (e : papers_of a ≡ asked job plan) where
  pub claim-read : (claim : Claim) → a.claimed ≡ Ok claim → WasRead a.job
  claim-read claim h =
      let w = papers-claimed a (asked job plan) e claim h in
      record { sheet = job; read = asked-read job plan claim (ap (λ (x : AskedPapers). x.claimed) w) ∙ ap (λ (x : AskedPapers). record { answer = Read; job = x.job }) w }

  module _ (note : List ℕ) where
    pub not-asked : (r : Refusal) → a.claimed ≡ Err r → checked_of (Err r) ≡ check_note job plan note
    unfolding check_note check_claim
    not-asked r h = rw (papers-refused a (asked job plan) e r h)

    module _ (claim : Claim) (h : a.claimed ≡ Ok claim) where
      checked-at : (fault : ℕ) → fault ≡ note_fault (board_of a.job) claim note → checked fault claim ≡ check_note job plan note
      unfolding check_note check_claim
      checked-at fault f = rw (papers-claimed a (asked job plan) e claim h, f)

      pub note-refused : (fault : Fault) → number_of fault ≡ note_fault (board_of a.job) claim note → Refused (number_of fault) paper_note ≡ check_note job plan note
      unfolding checked
      note-refused fault f = go (number_of fault) (number-some fault) f
        where
          go : (k : ℕ) → (k ≡ 0 → ⊥) → k ≡ note_fault (board_of a.job) claim note → Refused k paper_note ≡ check_note job plan note
          go zero h f = absurd (h refl)
          go (suc k) h f = checked-at (suc k) f

      pub note-accepted : 0 ≡ note_fault (board_of a.job) claim note → checked_of (Ok claim) ≡ check_note job plan note
      unfolding checked accepted
      note-accepted f = says claim ∙ checked-at 0 f
        where
          says : (c : Claim) → checked_of (Ok c) ≡ checked 0 c
          says (Some cost) = refl
          says None = refl

pub ruleset check_laws = (not-asked, note-refused, note-accepted)

-- ---- what an answer says of a result, where a refusal is converted

pub checked-said : (r : Result Claim Refusal) (a : Answer) → IfOk r (λ claim. a ≡ checked_says (accepted claim))
    → IfErr r (λ x. a ≡ refused_says (number_of x.fault) (paper_of x.paper)) → a ≡ checked_says (checked_of r)
unfolding accepted
checked-said (Ok (Some cost)) a p q = p
checked-said (Ok None) a p q = p
checked-said (Err x) a p q = q

-- ---- results that the definitions call alike are equal

pub one_checked : (r r' : Result Claim Refusal) → checked_of r ≡ checked_of r' → r ≡ r'
one_checked (Ok None) (Ok None) e = refl
one_checked (Ok None) (Ok (Some d)) e = cc
one_checked (Ok (Some c)) (Ok None) e = cc
one_checked (Ok (Some c)) (Ok (Some d)) e = ap (λ (x : ℕ). Ok (Some x)) (cc)
one_checked (Ok None) (Err r) e = cc
one_checked (Ok (Some c)) (Err r) e = cc
one_checked (Err r) (Ok None) e = cc
one_checked (Err r) (Ok (Some c)) e = cc
one_checked (Err r) (Err r') e = ap (λ (x : Refusal). Err x) (refusal-one r r' (cc) (cc))
