-- What the check of a note answers for any bytes: `check_note`; `checked_says` gives each case in numbers. `asked` is what is claimed of
-- a job, which the house writer asks too.
use Rattle.std.specs.Prelude.{ℕ, zero, suc, Bool, true, false, List, Result, Ok, Err, Some, None, is_some, leb, eqb, length}
use Rattle.basics.specs.Answers.{refused_says}
use Rattle.basics.specs.Counting.{only}
use Rattle.basics.specs.Faults.{◌or_else◌, fault_unless, number_of, paper_of}
use Rattle.basics.specs.Numbers.{note_long, verdict_differs, paper_note, outcome_cheapest, outcome_none}
use Rattle.basics.specs.declared.Answer.{Answer}
use Rattle.basics.specs.declared.refusals.Refusal.{Refusal}
use Rattle.bits.specs.Bits.{field}
use Rattle.sheets.specs.Groups.{runs_out, form_fault, fill_fault}
use Rattle.sheets.specs.JobSheet.{read_job}
use Rattle.sheets.specs.PlanSheet.{read_plan}
use Rattle.sheets.specs.Limits.{form_bits}
use Rattle.sheets.specs.declared.Job.{Job}
use Rattle.sheets.specs.Answers.{Reading, Read, Unread}
use Rattle.rules.specs.Judge.{Judged, Passed, Refused as Unfit, judged}
use Rattle.placing.specs.Board.{board_of}
use Rattle.placing.specs.Closing.{Claim, Turn, goes, stops}
use Rattle.placing.specs.Options.{none}
use Rattle.placing.specs.declared.Board.{Board}
use Rattle.notes.specs.NoteSheet.{note_form, verdict_bits, note_head, split_bits, max_note}
use Rattle.notes.specs.Reading.{place_at}
use Rattle.notes.specs.declared.Asked.{Asked}

-- ---- what is claimed of a job: that the plan beside it, which must pass, is a cheapest one; or, without a plan, that there is none

abbrev pub plan_claim : ℕ → Claim
plan_claim cost = Some cost

abbrev pub no_claim : Claim
no_claim = None

-- a claim, or a refusal of the job, of the plan or of judging
pub data Claimed : Type 0 where
  Claims : Claim → Claimed
  Unclaimed : (number paper : ℕ) → Claimed

-- of a plan that was judged (`Unfit` is the judge's `Refused`)
unfoldable pub claim_by : Judged → Claimed
claim_by (Passed cost) = Claims (plan_claim cost)
claim_by (Unfit number paper) = Unclaimed number paper

-- a paper that cannot be read ends the question there
unfoldable pub if_read : Reading → Claimed → Claimed
if_read Read next = next
if_read (Unread number paper) next = Unclaimed number paper

unfoldable pub if_lent : Bool → Claimed → Claimed
if_lent true next = Claims no_claim
if_lent false next = next

-- a plan of length 0 is none
unfoldable pub claim_of : Job → List ℕ → Claimed
claim_of j plan = if_lent (eqb (length plan) 0) (if_read (read_plan plan).answer (claim_by (judged j (read_plan plan).plan)))

-- what is claimed, beside the job that it is claimed of
pub record AskedPapers : Type 0 where
  pub claimed : Claimed
  pub job : Job

unfoldable pub asked : List ℕ → List ℕ → AskedPapers
asked job plan = record { claimed = if_read (read_job job).answer (claim_of (read_job job).job plan); job = (read_job job).job }

-- ---- the first fault of a note, against a claim

unfoldable pub head_fault : List ℕ → Bool → ℕ
head_fault note plan =
    fault_unless (leb (length note) max_note) note_long or_else
    form_fault note note_form or_else
    runs_out (length note) note_head or_else
    fault_unless (eqb (field note form_bits verdict_bits) (only plan 1)) verdict_differs

-- the tree ended so
unfoldable pub tree_fault : List ℕ → Turn ℕ → ℕ
tree_fault note (goes at) = fill_fault note at
tree_fault note (stops number) = number

unfoldable pub note_fault : Board → Claim → List ℕ → ℕ
note_fault b claim note =
    head_fault note (is_some claim) or_else tree_fault note (place_at note split_bits b claim b.n none note_head)

-- ---- the check

-- accepted, as a plan that is a cheapest one or as there being none; or refused
pub data Checked : Type 0 where
  Cheapest : (cost : ℕ) → Checked
  Nothing : Checked
  Refused : (number paper : ℕ) → Checked

unfoldable pub accepted : Claim → Checked
accepted (Some cost) = Cheapest cost
accepted None = Nothing

-- accepted, or refused by the fault
unfoldable pub checked : ℕ → Claim → Checked
checked zero claim = accepted claim
checked (suc number) claim = Refused (suc number) paper_note

unfoldable pub check_claim : Claimed → Job → List ℕ → Checked
check_claim (Claims claim) j note = checked (note_fault (board_of j) claim note) claim
check_claim (Unclaimed number paper) j note = Refused number paper

unfoldable pub check_note : List ℕ → List ℕ → List ℕ → Checked
check_note job plan note = check_claim (asked job plan).claimed (asked job plan).job note

-- ---- the code's results

abbrev pub claimed_of : Result Claim Refusal → Claimed
claimed_of (Ok claim) = Claims claim
claimed_of (Err r) = Unclaimed (number_of r.fault) (paper_of r.paper)

abbrev pub papers_of : Asked → AskedPapers
papers_of a = record { claimed = claimed_of a.claimed; job = a.job }

abbrev pub checked_of : Result Claim Refusal → Checked
checked_of (Ok (Some cost)) = Cheapest cost
checked_of (Ok None) = Nothing
checked_of (Err r) = Refused (number_of r.fault) (paper_of r.paper)

-- ---- each case in its numbers

abbrev pub checked_says : Checked → Answer
checked_says (Cheapest cost) = record { outcome = outcome_cheapest; number = 0; paper = 0; cost = cost; visits = 0; length = 0 }
checked_says Nothing = record { outcome = outcome_none; number = 0; paper = 0; cost = 0; visits = 0; length = 0 }
checked_says (Refused number paper) = refused_says number paper
