-- What the search's answer means, as a person reads it: `FirstCheapest j p c`, p is the plan that the search is to find for
-- the job j, and c its cost. `Spends`, `NoPlan`, `Finds` and `Refusal` say what each answer on bytes means.
use Rattle.std.specs.Prelude.{ℕ, ◌<◌, ◌≤◌, ◌≡◌, List, ◌++◌, ◌⊎◌, length, drop}
use Rattle.basics.specs.Numbers.{output_short, paper_request}
use Rattle.sheets.specs.JobSheet.{read_job}
use Rattle.sheets.specs.PlanSheet.{PlanShape, plan_sheet, plan_record_fault}
use Rattle.sheets.specs.declared.Job.{Job}
use Rattle.sheets.specs.declared.Plan.{Plan}
use Rattle.sheets.specs.Answers.{Read, Unread}
use Rattle.rules.specs.Model.{inst_count}
use Rattle.rules.specs.Judge.{plan_cost}
use Rattle.rules.specs.Meets.{Meets, start, inst, Selected}
use Rattle.placing.specs.Board.{board_of}
use Rattle.search.specs.Search.{walked}

-- ---- plans compared by their rows, operation by operation: start, then instance

abbrev pub SameRow : Job → Plan → Plan → ℕ → Type 0
SameRow j p q o = (start j p o ≡ start j q o) × (inst j p o ≡ inst j q o)

abbrev pub SameRows : Job → Plan → Plan → Type 0
SameRows j p q = (o : ℕ) → o < j.n → SameRow j p q o

-- at the first operation whose rows differ, p's comes first
pub record Before (j : Job) (p q : Plan) : Type 0 where
  pub op : ℕ
  pub below : op < j.n
  pub alike : (o : ℕ) → o < op → SameRow j p q o
  pub sooner : (start j p op < start j q op) ⊎ ((start j p op ≡ start j q op) × (inst j p op < inst j q op))

-- ---- the plan to be found

pub record FirstCheapest (j : Job) (p : Plan) (c : ℕ) : Type 0 where
  pub meets : Meets j p
  pub costs : plan_cost j p ≡ c
  -- no plan that meets the rules costs less
  pub least : (q : Plan) → Meets j q → c ≤ plan_cost j q
  -- its rows come first among those that cost as much
  pub first : (q : Plan) → Meets j q → plan_cost j q ≡ c → SameRows j p q ⊎ Before j p q
  -- its selection is the smallest
  pub smallest : (q : Plan) → Meets j q → SameRows j p q → (i : ℕ) → i < inst_count j → Selected j p i → Selected j q i

-- ---- the answers on bytes

-- the job is read, and its walk needs more visits than the budget
pub record Spends (job : List ℕ) (budget : ℕ) (visits : ℕ) : Type 0 where
  pub as_job : Job
  pub job_read : read_job job ≡ record { answer = Read; job = as_job }
  pub over : budget < (walked (board_of as_job)).visits
  pub given : visits ≡ budget

-- the job is read, its walk keeps within the budget, and no plan meets the rules
pub record NoPlan (job : List ℕ) (budget : ℕ) (visits : ℕ) : Type 0 where
  pub as_job : Job
  pub job_read : read_job job ≡ record { answer = Read; job = as_job }
  pub kept : (walked (board_of as_job)).visits ≤ budget
  pub none : (q : Plan) → Meets as_job q → ⊥
  pub given : visits ≡ (walked (board_of as_job)).visits

-- the job is read, its walk keeps within the budget, and the output begins with the sheet of the plan to be found
pub record Finds (job : List ℕ) (budget : ℕ) (before after : List ℕ) (cost visits size : ℕ) : Type 0 where
  pub as_job : Job
  pub job_read : read_job job ≡ record { answer = Read; job = as_job }
  pub kept : (walked (board_of as_job)).visits ≤ budget
  pub as_plan : Plan
  pub plan : FirstCheapest as_job as_plan cost
  pub shape : PlanShape as_plan
  pub sound : plan_record_fault as_plan ≡ 0
  pub fits : size ≤ length before
  pub bytes : after ≡ plan_sheet as_plan ++ drop size before
  pub long : length (plan_sheet as_plan) ≡ size
  pub given : visits ≡ (walked (board_of as_job)).visits

-- the job is read, its walk keeps within the budget, and the sheet of the plan to be found has more bytes than there is room
pub record Short (job : List ℕ) (budget room : ℕ) : Type 0 where
  pub as_job : Job
  pub job_read : read_job job ≡ record { answer = Read; job = as_job }
  pub kept : (walked (board_of as_job)).visits ≤ budget
  pub as_plan : Plan
  pub cost : ℕ
  pub plan : FirstCheapest as_job as_plan cost
  pub shape : PlanShape as_plan
  pub sound : plan_record_fault as_plan ≡ 0
  pub long : room < length (plan_sheet as_plan)

-- the job is refused by its reader, or the output is too short
abbrev pub Refusal : List ℕ → ℕ → ℕ → ℕ → ℕ → Type 0
Refusal job budget room number paper =
    ((read_job job).answer ≡ Unread number paper) ⊎ ((number ≡ output_short) × (paper ≡ paper_request) × Short job budget room)
