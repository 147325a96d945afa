-- What acceptance means, as a person reads it. `ClosingNote`: the note is that of a tree that is whole and closed by the marks.
-- `CheapestPlan`: the plan meets the rules, and no plan that does costs less. `NoPlan`: no plan meets them. `Refusal`: what is refused,
-- the job, the plan beside it or the note.
use Rattle.std.specs.Prelude.{ℕ, ◌≤◌, ◌≡◌, List, is_some, length}
use Rattle.basics.specs.Numbers.{paper_note}
use Rattle.sheets.specs.JobSheet.{read_job}
use Rattle.sheets.specs.declared.Job.{Job}
use Rattle.sheets.specs.declared.Plan.{Plan}
use Rattle.sheets.specs.Answers.{Read, Unread}
use Rattle.rules.specs.Judge.{Refused as Unfit, plan_cost, judge}
use Rattle.rules.specs.Meets.{Meets, Passes}
use Rattle.placing.specs.Board.{board_of}
use Rattle.placing.specs.Closing.{Claim, Tree, ClosesBoard}
use Rattle.placing.specs.Options.{none}
use Rattle.placing.specs.declared.Board.{Board}
use Rattle.notes.specs.Check.{Claims, asked, note_fault}
use Rattle.notes.specs.NoteSheet.{max_note, note_sheet}

pub record ClosingNote (b : Board) (claim : Claim) (note : List ℕ) : Type 0 where
  pub tree : Tree
  pub closes : ClosesBoard b claim b.n none tree
  pub bytes : note ≡ note_sheet (is_some claim) tree
  pub short : length note ≤ max_note

pub record CheapestPlan (job plan : List ℕ) (c : ℕ) : Type 0 where
  pub passes : Passes job plan c
  pub least : (q : Plan) → Meets passes.as_job q → c ≤ plan_cost passes.as_job q

pub record NoPlan (job : List ℕ) : Type 0 where
  pub as_job : Job
  pub job_read : read_job job ≡ record { answer = Read; job = as_job }
  pub none-meets : (q : Plan) → Meets as_job q → ⊥

-- the job is refused by its reader; or a plan is beside it, and the judge refuses; or there is a claim, and the note has a fault against it
pub data Refusal (job plan note : List ℕ) (number paper : ℕ) : Type 0 where
  job_unread : (read_job job).answer ≡ Unread number paper → Refusal job plan note number paper
  plan_unfit : (length plan ≡ 0 → ⊥) → judge job plan ≡ Unfit number paper → Refusal job plan note number paper
  note_faulty : (claim : Claim) → (asked job plan).claimed ≡ Claims claim → note_fault (board_of (asked job plan).job) claim note ≡ number → (number ≡ 0 → ⊥)
      → paper ≡ paper_note → Refusal job plan note number paper
