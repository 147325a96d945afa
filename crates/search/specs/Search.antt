-- What the search answers for any bytes and any budget, and the output's bytes after it: `search` and `search_out`;
-- `searched_says` gives each case in numbers. `walked` is the walk of document 01, from nothing placed and nothing held.
use Rattle.std.specs.Prelude.{ℕ, Bool, true, false, ◌&&◌, List, leb, length, Result, Ok, Err}
use Rattle.basics.specs.Answers.{refused_says}
use Rattle.basics.specs.Faults.{number_of, paper_of}
use Rattle.basics.specs.Numbers.{budget_spent, no_plan, paper_job, paper_request, outcome_found, outcome_none, outcome_spent}
use Rattle.basics.specs.declared.Answer.{Answer}
use Rattle.basics.specs.declared.refusals.Refusal.{Refusal}
use Rattle.sheets.specs.JobSheet.{read_job}
use Rattle.sheets.specs.PlanSheet.{write_plan, plan_out}
use Rattle.sheets.specs.declared.Job.{Job}
use Rattle.sheets.specs.Answers.{Reading, Read, Unread, Written, Wrote, Refused as Unwritten}
use Rattle.placing.specs.Bound.{State, walk}
use Rattle.placing.specs.Board.{board_of}
use Rattle.placing.specs.Placing.{Placing, cost}
use Rattle.placing.specs.Plans.{plan_from}
use Rattle.placing.specs.Options.{none, children}
use Rattle.placing.specs.declared.Board.{Board}
use Rattle.search.specs.declared.Finding.{Finding}
use Rattle.search.specs.declared.Finding.TheVariants.{Found as IsFound, Nothing as IsNothing, Spent as IsSpent}

-- ---- the walk

-- with d operations to place
abbrev pub walk_from : Board → ℕ → Placing → State Placing → State Placing
walk_from b d p s = walk Placing (cost b) (children b) d p s

abbrev pub begin : State Placing
begin = record { visits = 0; best = record { held = false; cost = 0; node = none } }

unfoldable pub walked : Board → State Placing
walked b = walk_from b b.n none begin

-- ---- the search's answer

pub data Searched : Type 0 where
  Found : (cost visits length : ℕ) → Searched
  Nothing : (visits : ℕ) → Searched
  Spent : (visits : ℕ) → Searched
  Refused : (number paper : ℕ) → Searched

-- as the code has it
abbrev pub found_of : Finding → Searched
found_of (IsFound cost visits length) = Found cost visits length
found_of (IsNothing visits) = Nothing visits
found_of (IsSpent visits) = Spent visits

abbrev pub searched_of : Result Finding Refusal → Searched
searched_of (Ok x) = found_of x
searched_of (Err r) = Refused (number_of r.fault) (paper_of r.paper)

-- ---- the answer of a walk that ended at e, within the budget or not, where writing the best's plan gave w

unfoldable pub wrote : ℕ → ℕ → Written → Searched
wrote cost visits (Wrote length) = Found cost visits length
wrote cost visits (Unwritten number paper) = Refused number paper

unfoldable pub answered : Bool → Bool → ℕ → State Placing → Written → Searched
answered false held budget e w = Spent budget
answered true false budget e w = Nothing e.visits
answered true true budget e w = wrote e.best.cost e.visits w

abbrev pub within : ℕ → State Placing → Bool
within budget e = leb e.visits budget

-- of a job, into an output of `room` bytes
unfoldable pub search_job : Job → ℕ → ℕ → Searched
search_job j budget room =
    let b = board_of j in
    let e = walked b in
    answered (within budget e) e.best.held budget e (write_plan (plan_from b e.best.node) room)

-- the output's bytes after it, where they were `before`
unfoldable pub out_if : Bool → List ℕ → List ℕ → List ℕ
out_if true out before = out
out_if false out before = before

unfoldable pub search_job_out : Job → ℕ → List ℕ → List ℕ
search_job_out j budget before =
    let b = board_of j in
    let e = walked b in
    out_if (within budget e && e.best.held) (plan_out (plan_from b e.best.node) before) before

-- ---- the search: a job that cannot be read ends the question there

unfoldable pub if_read : Reading → Searched → Searched
if_read Read next = next
if_read (Unread number paper) next = Refused number paper

unfoldable pub search : List ℕ → ℕ → ℕ → Searched
search job budget room = if_read (read_job job).answer (search_job (read_job job).job budget room)

unfoldable pub out_if_read : Reading → List ℕ → List ℕ → List ℕ
out_if_read Read out before = out
out_if_read (Unread number paper) out before = before

unfoldable pub search_out : List ℕ → ℕ → List ℕ → List ℕ
search_out job budget before = out_if_read (read_job job).answer (search_job_out (read_job job).job budget before) before

-- ---- each case in its numbers

abbrev pub searched_says : Searched → Answer
searched_says (Found cost visits length) = record { outcome = outcome_found; number = 0; paper = 0; cost = cost; visits = visits; length = length }
searched_says (Nothing visits) = record { outcome = outcome_none; number = no_plan; paper = paper_job; cost = 0; visits = visits; length = 0 }
searched_says (Spent visits) = record { outcome = outcome_spent; number = budget_spent; paper = paper_request; cost = 0; visits = visits; length = 0 }
searched_says (Refused number paper) = refused_says number paper
