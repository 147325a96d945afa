-- What the judge answers for any bytes: `judge`; `judged_says` gives each case in numbers. `judge_with` is told whether selection order
-- is asked, and `lent` has the records beside its answer: what is done with a plan that was judged starts from there. `judged_of` and
-- `papers_of` say what the code's results are called here.
use Rattle.std.specs.Prelude.{ℕ, zero, suc, Bool, true, not, ◌||◌, ◌&&◌, List, eqb, Result, Ok, Err}
use Rattle.basics.specs.Answers.{refused_says}
use Rattle.basics.specs.Faults.{◌or_else◌, fault_unless, number_of, paper_of}
use Rattle.basics.specs.Numbers.{counts_differ, order_broken, precedence_broken, resource_broken, chain_broken, paper_plan, outcome_passed}
use Rattle.basics.specs.declared.Answer.{Answer}
use Rattle.basics.specs.declared.refusals.Refusal.{Refusal}
use Rattle.sheets.specs.Answers.{Reading, Read, Unread}
use Rattle.sheets.specs.JobSheet.{read_job}
use Rattle.sheets.specs.PlanSheet.{no_plan, read_plan}
use Rattle.sheets.specs.declared.Job.{Job}
use Rattle.sheets.specs.declared.Plan.{Plan}
use Rattle.sheets.specs.Limits.{op_cells}
use Rattle.rules.specs.Model.{inst_count, types_of, timing_of}
use Rattle.rules.specs.Selection.{selected, order_ok, selection_cost}
use Rattle.rules.specs.Rules.{rows_fault, precedence_ok, resource_ok, chains_ok}
use Rattle.rules.specs.declared.Spans.{Spans}
use Rattle.rules.specs.declared.Lent.{Lent}

-- ---- the first rule that a plan breaks, 0 where it breaks none

-- a plan of so many operations and instances, for a job of n and k
unfoldable pub counts_fault : ℕ → ℕ → ℕ → ℕ → ℕ
counts_fault ops insts n k = fault_unless (eqb ops n && eqb insts k) counts_differ

-- of precedence, resource and chain, among the operations placed
unfoldable pub placing_fault : ℕ → ℕ → ℕ → ℕ → List ℕ → List ℕ → List ℕ → List ℕ → Spans op_cells → ℕ
placing_fault n e wire clock from to starts insts timing =
    fault_unless (precedence_ok from to e starts timing.delays) precedence_broken or_else
    fault_unless (resource_ok n starts insts timing.spacings) resource_broken or_else
    fault_unless (chains_ok from to e wire clock starts timing.times) chain_broken

-- of all rules, with selection order or without
unfoldable pub fault_with : Bool → Job → Plan → ℕ
fault_with order j p =
    let timing = timing_of j p.insts in
    counts_fault p.n p.k j.n (inst_count j) or_else
    fault_unless (not order || order_ok (types_of j) p.selection (inst_count j)) order_broken or_else
    rows_fault j.n (inst_count j) j.t p.starts p.insts timing.times timing.delays p.selection or_else
    placing_fault j.n j.e j.wire j.clock j.from j.to p.starts p.insts timing

unfoldable pub judge_fault : Job → Plan → ℕ
judge_fault j p = fault_with true j p

unfoldable pub plan_cost : Job → Plan → ℕ
plan_cost j p = selection_cost j.costs (types_of j) (selected p.selection) (inst_count j)

-- ---- the judge

-- passed at a cost, or refused by a number, with the paper at fault
pub data Judged : Type 0 where
  Passed : (cost : ℕ) → Judged
  Refused : (number paper : ℕ) → Judged

-- passed at the cost, or refused by the fault
unfoldable pub pass_or : ℕ → ℕ → Judged
pass_or zero cost = Passed cost
pass_or (suc k) cost = Refused (suc k) paper_plan

unfoldable pub judged_with : Bool → Job → Plan → Judged
judged_with order j p = pass_or (fault_with order j p) (plan_cost j p)

unfoldable pub judged : Job → Plan → Judged
judged j p = judged_with true j p

-- a paper that cannot be read ends the question there
unfoldable pub if_read : Reading → Judged → Judged
if_read Read next = next
if_read (Unread number paper) next = Refused number paper

unfoldable pub judge_with : Bool → List ℕ → List ℕ → Judged
judge_with order job plan =
    if_read (read_job job).answer (if_read (read_plan plan).answer (judged_with order (read_job job).job (read_plan plan).plan))

unfoldable pub judge : List ℕ → List ℕ → Judged
judge job plan = judge_with true job plan

-- the plan beside a job that was read; beside one that was not, no plan is read, and it is zeros
unfoldable pub plan_beside : Reading → List ℕ → Plan
plan_beside Read plan = (read_plan plan).plan
plan_beside (Unread number paper) plan = no_plan

-- the answer, with the records beside it
pub record LentPapers : Type 0 where
  pub judged : Judged
  pub job : Job
  pub plan : Plan

unfoldable pub lent : Bool → List ℕ → List ℕ → LentPapers
lent order job plan = record { judged = judge_with order job plan; job = (read_job job).job; plan = plan_beside (read_job job).answer plan }

-- ---- the code's results

abbrev pub judged_of : Result ℕ Refusal → Judged
judged_of (Ok cost) = Passed cost
judged_of (Err r) = Refused (number_of r.fault) (paper_of r.paper)

abbrev pub papers_of : Lent → LentPapers
papers_of l = record { judged = judged_of l.judged; job = l.job; plan = l.plan }

-- ---- each case in its numbers

abbrev pub judged_says : Judged → Answer
judged_says (Passed cost) = record { outcome = outcome_passed; number = 0; paper = 0; cost = cost; visits = 0; length = 0 }
judged_says (Refused number paper) = refused_says number paper
