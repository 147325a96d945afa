-- Laws of the judge's answer.
use Prim.Native.Nat.{ℕ, zero, suc}
use mathlib.Core.Path.{◌≡◌, refl, sym, ap, ◌∙◌}
use mathlib.Core.Bool.{Bool}
use mathlib.Core.List.{List}
use borrow.Author.Tests.{eqb-true}
use lib.Dec.{eqb, lit<}
use Rattle.std.specs.Prelude.{Result, Ok, Err, IfOk, IfErr}
use Rattle.basics.specs.Answers.{refused_says}
use Rattle.basics.specs.declared.Answer.{Answer}
use Rattle.basics.specs.Faults.{number_of, paper_of}
use Rattle.basics.specs.Numbers.{counts_differ, paper_plan}
use Rattle.basics.specs.declared.refusals.Fault.{Fault}
use Rattle.basics.specs.declared.refusals.Refusal.{Refusal}
use Rattle.basics.proofs.AnswerLaws.{refusal-one}
use Rattle.basics.proofs.CountLaws.{and_both}
use Rattle.basics.proofs.FaultLaws.{number-some, or_else-none, unless-none}
use Rattle.sheets.specs.JobSheet.{JobRead, no_job, read_job, job_read_of}
use Rattle.sheets.specs.PlanSheet.{PlanRead, no_plan, read_plan, plan_read_of}
use Rattle.sheets.specs.declared.Job.{Job}
use Rattle.sheets.specs.declared.Plan.{Plan}
use Rattle.rules.specs.Model.{inst_count, types_of}
use Rattle.rules.specs.Selection.{selected, selection_cost}
use Rattle.rules.specs.Judge.{counts_fault, fault_with, plan_cost, Judged, Passed, Refused, pass_or, judged_with, if_read, judge_with, plan_beside, LentPapers, lent, judged_of, judged_says, papers_of}
use Rattle.rules.specs.declared.Lent.{Lent}

pub counts-agree : (order : Bool) (j : Job) (p : Plan) → fault_with order j p ≡ 0 → (p.n ≡ j.n) × (p.k ≡ inst_count j)
unfolding fault_with counts_fault
counts-agree order j p h =
    let a = and_both (eqb p.n j.n) (eqb p.k (inst_count j)) (unless-none _ counts_differ (lit< tt) (or_else-none _ _ h).0) in
    (eqb-true _ _ a.0, eqb-true _ _ a.1)

-- ---- judged by the first rule that a plan breaks, and where it breaks none by its cost

module _ (order : Bool) (j : Job) (p : Plan) where
  -- the counts agree, so the plan's K instances are the job's
  pub passes-at : (cost : ℕ) → 0 ≡ fault_with order j p → cost ≡ selection_cost j.costs (types_of j) (selected p.selection) p.k
      → Passed cost ≡ judged_with order j p
  unfolding judged_with pass_or plan_cost
  passes-at cost e d =
      let k = d ∙ ap (selection_cost j.costs (types_of j) (selected p.selection)) (counts-agree order j p (sym e)).1 in
      ap (λ (c : ℕ). Passed c) k ∙ ap (λ (f : ℕ). pass_or f (plan_cost j p)) e

  pub refused-at : (fault : Fault) → number_of fault ≡ fault_with order j p → Refused (number_of fault) paper_plan ≡ judged_with order j p
  unfolding judged_with pass_or
  refused-at fault e = go (fault_with order j p) refl
    where
      go : (n : ℕ) → fault_with order j p ≡ n → Refused (number_of fault) paper_plan ≡ pass_or (fault_with order j p) (plan_cost j p)
      go zero h = absurd (number-some fault (e ∙ h))
      go (suc k) h = rw (e, h)

pub ruleset judged_laws = (passes-at, refused-at)

-- ---- two papers read in turn: the first that cannot be read ends the question, and where both are read the plan is judged

module _ (order : Bool) (job plan : List ℕ) where
  pub job-unread : (r : Refusal) → job_read_of (Err r) ≡ read_job job
      → papers_of (record { judged = Err r; job = no_job; plan = no_plan }) ≡ lent order job plan
  unfolding lent judge_with if_read plan_beside
  job-unread r e = rw (← e) refl

  module _ (j : Job) (ej : job_read_of (Ok j) ≡ read_job job) where
    beside-read : (p : PlanRead) → p ≡ read_plan plan → p.plan ≡ plan_beside (read_job job).answer plan
    unfolding plan_beside
    beside-read p e = rw (← ej) (ap (λ (r : PlanRead). r.plan) e)

    lent-as : (v : Judged) (p : PlanRead) → p ≡ read_plan plan → v ≡ if_read p.answer (judged_with order j p.plan)
        → ◌≡◌ {A = LentPapers} (record { judged = v; job = j; plan = p.plan }) (lent order job plan)
    unfolding lent judge_with if_read
    lent-as v p e h =
        let w : v ≡ judge_with order job plan = rw (← ej, ← e) h in
        let k = ap (λ (r : JobRead). r.job) ej in
        let z = beside-read p e in
        λ i. record { judged = w i; job = k i; plan = z i }

    pub plan-unread : (r : Refusal) → plan_read_of (Err r) ≡ read_plan plan
        → papers_of (record { judged = Err r; job = j; plan = no_plan }) ≡ lent order job plan
    unfolding if_read
    plan-unread r e = lent-as (judged_of (Err r)) (plan_read_of (Err r)) e refl

    pub both-read : (p : Plan) → plan_read_of (Ok p) ≡ read_plan plan → (r : Result ℕ Refusal) → judged_of r ≡ judged_with order j p
        → papers_of (record { judged = r; job = j; plan = p }) ≡ lent order job plan
    unfolding if_read
    both-read p ep r e = lent-as (judged_of r) (plan_read_of (Ok p)) ep e

pub ruleset lent_laws = (job-unread, plan-unread, both-read)

-- ---- what an answer says of a result, where a refusal is converted

pub judged-said : (r : Result ℕ Refusal) (a : Answer) → IfOk r (λ cost. a ≡ judged_says (Passed cost))
    → IfErr r (λ x. a ≡ refused_says (number_of x.fault) (paper_of x.paper)) → a ≡ judged_says (judged_of r)
judged-said (Ok cost) a p q = p
judged-said (Err x) a p q = q

-- ---- results that the definitions call alike are equal

pub one_judged : (r r' : Result ℕ Refusal) → judged_of r ≡ judged_of r' → r ≡ r'
one_judged (Ok n) (Ok m) e = let w : n ≡ m = cc in ap (λ (k : ℕ). Ok k) w
one_judged (Err x) (Err y) e =
    let f : number_of x.fault ≡ number_of y.fault = cc in
    let p : paper_of x.paper ≡ paper_of y.paper = cc in
    ap (λ (z : Refusal). Err z) (refusal-one x y f p)
one_judged (Ok n) (Err y) e = cc
one_judged (Err x) (Ok m) e = cc

pub one_lent : (l l' : Lent) → papers_of l ≡ papers_of l' → l ≡ l'
one_lent l l' e =
    let a = one_judged l.judged l'.judged (ap (λ (p : LentPapers). p.judged) e) in
    let j = ap (λ (p : LentPapers). p.job) e in
    let q = ap (λ (p : LentPapers). p.plan) e in
    λ i. record { judged = a i; job = j i; plan = q i }
