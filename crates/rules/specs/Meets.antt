-- The rules of a plan as a person reads them: `Meets job plan` has a field for each. `Passes` is what a pass of the judge means.
use Rattle.std.specs.Prelude.{ℕ, ◌+◌, ◌-◌, ◌<◌, ◌≤◌, ◌≡◌, ◌⊎◌, List, [], ◌∷◌, length}
use Rattle.basics.specs.Tables.{cell}
use Rattle.sheets.specs.Answers.{Read}
use Rattle.sheets.specs.JobSheet.{read_job}
use Rattle.sheets.specs.PlanSheet.{read_plan}
use Rattle.sheets.specs.declared.Job.{Job}
use Rattle.sheets.specs.declared.Plan.{Plan}
use Rattle.rules.specs.Model.{inst_count, type_of, time_of, delay_of, spacing_of}
use Rattle.rules.specs.Judge.{plan_cost}

-- ---- runs

-- a link of the job leads from a to b
pub record Link (j : Job) (a b : ℕ) : Type 0 where
  pub number : ℕ
  pub below : number < j.e
  pub leaves : cell j.from number ≡ a
  pub enters : cell j.to number ≡ b

-- successive links join the operations of a run
abbrev pub Joined : Job → List ℕ → Type 0
Joined j [] = Unit {0}
Joined j (a ∷ []) = Unit {0}
Joined j (a ∷ b ∷ run) = Link j a b × Joined j (b ∷ run)

-- all of them start in step s
abbrev pub AllIn : (ℕ → ℕ) → ℕ → List ℕ → Type 0
AllIn start s [] = Unit {0}
AllIn start s (o ∷ run) = (start o ≡ s) × AllIn start s run

-- their times, plus one wire for each link
abbrev pub run_total : ℕ → (ℕ → ℕ) → List ℕ → ℕ
run_total wire time [] = 0
run_total wire time (a ∷ []) = time a
run_total wire time (a ∷ b ∷ run) = time a + wire + run_total wire time (b ∷ run)

-- every run of two or more that starts in one step is within the clock (steps are numbered from 1)
unfoldable pub RunsFit : Job → (ℕ → ℕ) → (ℕ → ℕ) → Type 0
RunsFit j start time =
    (s : ℕ) (run : List ℕ) → 1 ≤ s → 2 ≤ length run → Joined j run → AllIn start s run → run_total j.wire time run ≤ j.clock

-- ---- held steps

-- an operation of this start and spacing holds its instance in step s: from start to start + spacing - 1
abbrev pub HeldIn : ℕ → ℕ → ℕ → Type 0
HeldIn start spacing s = (start ≤ s) × (s < start + spacing)

-- no step is held by both of two
abbrev pub Disjoint : ℕ → ℕ → ℕ → ℕ → Type 0
Disjoint start spacing start' spacing' = (s : ℕ) → HeldIn start spacing s → HeldIn start' spacing' s → ⊥

-- ---- the rules

module _ (j : Job) (p : Plan) where
  abbrev pub Selected : ℕ → Type 0
  Selected i = cell p.selection i ≡ 1

  abbrev pub start : ℕ → ℕ
  start o = cell p.starts o

  abbrev pub inst : ℕ → ℕ
  inst o = cell p.insts o

  -- an operation's time, delay and spacing are those on its instance
  abbrev pub time : ℕ → ℕ
  time o = time_of j o (inst o)

  abbrev pub delay : ℕ → ℕ
  delay o = delay_of j o (inst o)

  abbrev pub spacing : ℕ → ℕ
  spacing o = spacing_of j o (inst o)

  pub record Row (o : ℕ) : Type 0 where
    pub instance : inst o < inst_count j
    pub able : 0 < time o
    pub chosen : Selected (inst o)
    pub begins : 1 ≤ start o
    pub ends : start o + delay o - 1 ≤ j.t

  -- two operations on one instance have different starts, and the later start exceeds the earlier by at least the spacing of the
  -- earlier operation
  abbrev pub Resource : Type 0
  Resource = (a b : ℕ) → a < j.n → b < j.n → (a ≡ b → ⊥) → inst a ≡ inst b → start a ≤ start b → (start a < start b) × (start a + spacing a ≤ start b)

  -- in other words, where every row keeps its rule: no two operations hold one instance in one step (`held-exactly` in
  -- proofs/HeldLaws)
  abbrev pub HeldOnce : Type 0
  HeldOnce = (a b : ℕ) → a < j.n → b < j.n → (a ≡ b → ⊥) → inst a ≡ inst b → Disjoint (start a) (spacing a) (start b) (spacing b)

  pub record Meets : Type 0 where
    -- one row for each operation, one selection bit for each instance
    pub operations : p.n ≡ j.n
    pub instances : p.k ≡ inst_count j
    -- within a type no selected instance precedes an unselected one
    pub order : (i k : ℕ) → i < k → k < inst_count j → type_of j i ≡ type_of j k → Selected i → Selected k
    pub rows : (o : ℕ) → o < j.n → Row o
    -- a link's second operation starts when the first has ended, or both start together and both delays are 1
    pub precedence : (a b : ℕ) → Link j a b → (start a + delay a ≤ start b) ⊎ ((start a ≡ start b) × (delay a ≡ 1) × (delay b ≡ 1))
    pub resource : Resource
    pub chains : RunsFit j start time

-- ---- a judgement: the papers are read, the plan meets the rules, and c is the cost of its selection

pub record Passes (job plan : List ℕ) (c : ℕ) : Type 0 where
  pub as_job : Job
  pub as_plan : Plan
  pub job_read : read_job job ≡ record { answer = Read; job = as_job }
  pub plan_read : read_plan plan ≡ record { answer = Read; plan = as_plan }
  pub meets : Meets as_job as_plan
  pub cost : c ≡ plan_cost as_job as_plan

-- the greatest cost: 16 instances at 65,535
abbrev pub max_cost : ℕ
max_cost = 1048560
