-- What the answers of slide and tidy mean, as a person reads them: `Slides` and `Tidies` where a plan is written, `SlideRefusal` and
-- `TidyRefusal` where none is.
use Rattle.std.specs.Prelude.{ℕ, ◌<◌, ◌≤◌, ◌≡◌, false, List, ◌++◌, ◌⊎◌, ℤ, pos, ◌+ℤ◌, length, drop}
use Rattle.basics.specs.Numbers.{distance_far, moved_out, output_short, paper_plan, paper_request}
use Rattle.basics.specs.Tables.{cell}
use Rattle.sheets.specs.JobSheet.{read_job}
use Rattle.sheets.specs.Limits.{max_steps}
use Rattle.sheets.specs.PlanSheet.{PlanShape, read_plan, plan_record_fault, plan_sheet}
use Rattle.sheets.specs.declared.Job.{Job}
use Rattle.sheets.specs.declared.Plan.{Plan}
use Rattle.sheets.specs.Answers.{Read}
use Rattle.rules.specs.Judge.{plan_cost, judge_with, judge}
use Rattle.rules.specs.Meets.{Meets, Passes, Selected, start, inst, delay}
use Rattle.rules.specs.Model.{inst_count, type_of}
use Rattle.rules.specs.Rules.{finish}
use Rattle.rules.specs.Judge.{Passed, Refused as Unfit}
use Rattle.moves.specs.Slide.{steps, backward, moved}

-- ---- the plan written is a record that can be; its sheet begins the output, and the rest stays

pub record SheetWritten (q : Plan) (before after : List ℕ) (size : ℕ) : Type 0 where
  pub shape : PlanShape q
  pub sound : plan_record_fault q ≡ 0
  pub fits : size ≤ length before
  pub long : length (plan_sheet q) ≡ size
  pub bytes : after ≡ plan_sheet q ++ drop size before

-- ---- sliding

-- q is p with the distance added to every start
pub record SlidBy (d : ℤ) (p q : Plan) : Type 0 where
  pub operations : q.n ≡ p.n
  pub instances : q.k ≡ p.k
  pub selection : q.selection ≡ p.selection
  pub starts : (o : ℕ) → o < p.n → pos (cell q.starts o) ≡ pos (cell p.starts o) +ℤ d
  pub insts : q.insts ≡ p.insts

-- the plan lent passes, the distance is from -31 to 31, and the plan written is the one lent, slid; that passes too, at the same cost
pub record Slides (job plan : List ℕ) (d : ℤ) (before after : List ℕ) (size : ℕ) : Type 0 where
  pub cost : ℕ
  pub passes : Passes job plan cost
  pub near : steps d ≤ max_steps
  pub as_plan : Plan
  pub slid : SlidBy d passes.as_plan as_plan
  pub meets : Meets passes.as_job as_plan
  pub costs : plan_cost passes.as_job as_plan ≡ cost
  pub written : SheetWritten as_plan before after size

-- operation o, moved, starts before step 1 or ends behind T
abbrev pub Leaves : ℤ → Job → Plan → ℕ → Type 0
Leaves d j p o =
    let to = moved (backward d) (steps d) (start j p o) in
    (o < p.n) × ((to ≡ 0) ⊎ (j.t < finish to (delay j p o)))

-- the judge refuses the papers lent, the distance is too far, an operation moved leaves its limits, or the output is too short
pub data SlideRefusal (job plan : List ℕ) (d : ℤ) (room number paper : ℕ) : Type 0 where
  unfit : judge job plan ≡ Unfit number paper → SlideRefusal job plan d room number paper
  far : (cost : ℕ) → Passes job plan cost → max_steps < steps d
      → number ≡ distance_far → paper ≡ paper_request → SlideRefusal job plan d room number paper
  out : (cost : ℕ) (w : Passes job plan cost) → steps d ≤ max_steps
      → (o : ℕ) → Leaves d w.as_job w.as_plan o
      → number ≡ moved_out → paper ≡ paper_plan → SlideRefusal job plan d room number paper
  short : (cost : ℕ) (w : Passes job plan cost) → steps d ≤ max_steps
      → (q : Plan) → SlidBy d w.as_plan q → Meets w.as_job q → room < length (plan_sheet q)
      → number ≡ output_short → paper ≡ paper_request → SlideRefusal job plan d room number paper

-- ---- tidying

-- q is p with its selected instances moved: instance i of p has become instance `to i` of q, within its type and in order
pub record TidiedTo (j : Job) (p q : Plan) : Type 0 where
  pub operations : q.n ≡ p.n
  pub instances : q.k ≡ p.k
  pub to : ℕ → ℕ
  pub below : (i : ℕ) → i < inst_count j → Selected j p i → to i < inst_count j
  pub same_type : (i : ℕ) → i < inst_count j → Selected j p i → type_of j (to i) ≡ type_of j i
  pub in_order : (i k : ℕ) → i < k → k < inst_count j → type_of j i ≡ type_of j k → Selected j p i → Selected j p k → to i < to k
  pub taken : (i : ℕ) → i < inst_count j → Selected j p i → Selected j q (to i)
  pub from : ℕ → ℕ
  pub found : (m : ℕ) → m < inst_count j → Selected j q m → (from m < inst_count j) × Selected j p (from m) × (to (from m) ≡ m)
  pub rows : (o : ℕ) → o < j.n → inst j q o ≡ to (inst j p o)
  pub starts : q.starts ≡ p.starts

-- the plan lent breaks no rule but possibly selection order, and the plan written is the one lent, tidied; that passes, at the same cost
pub record Tidies (job plan before after : List ℕ) (size : ℕ) : Type 0 where
  pub cost : ℕ
  pub unbroken : judge_with false job plan ≡ Passed cost
  pub as_job : Job
  pub job_read : read_job job ≡ record { answer = Read; job = as_job }
  pub lent : Plan
  pub plan_read : read_plan plan ≡ record { answer = Read; plan = lent }
  pub as_plan : Plan
  pub tidied : TidiedTo as_job lent as_plan
  pub meets : Meets as_job as_plan
  pub costs : plan_cost as_job as_plan ≡ cost
  pub costs-lent : plan_cost as_job lent ≡ cost
  pub written : SheetWritten as_plan before after size

-- the judge, not asked for selection order, refuses the papers lent; or the output is too short
pub data TidyRefusal (job plan : List ℕ) (room number paper : ℕ) : Type 0 where
  unfit : judge_with false job plan ≡ Unfit number paper → TidyRefusal job plan room number paper
  short : (cost : ℕ) → judge_with false job plan ≡ Passed cost
      → (q : Plan) → TidiedTo (read_job job).job (read_plan plan).plan q → Meets (read_job job).job q → room < length (plan_sheet q)
      → number ≡ output_short → paper ≡ paper_request → TidyRefusal job plan room number paper
