-- What is claimed, as the code comes by it: paper by paper, and the first that cannot be read ends the question.
use mathlib.Core.Path.{◌≡◌, refl, sym, ap, ◌∙◌}
use mathlib.Core.List.{List}
use borrow.Author.Tests.{eq-eqb, ne_eqb}
use lib.ListN.{length}
use Prim.Native.Nat.{ℕ}
use Rattle.std.specs.Prelude.{Result, Ok, Err}
use Rattle.basics.specs.Faults.{number_of, paper_of}
use Rattle.basics.specs.declared.refusals.Refusal.{Refusal}
use Rattle.basics.proofs.AnswerLaws.{refusal-one}
use Rattle.sheets.specs.JobSheet.{no_job, read_job, job_read_of}
use Rattle.sheets.specs.PlanSheet.{read_plan, plan_read_of}
use Rattle.sheets.specs.declared.Job.{Job}
use Rattle.sheets.specs.declared.Plan.{Plan}
use Rattle.rules.specs.Judge.{judged, judged_of}
use Rattle.placing.specs.Closing.{Claim}
use Rattle.notes.specs.Check.{Claims, Unclaimed, plan_claim, no_claim, claim_by, if_read, if_lent, claim_of, AskedPapers, asked, claimed_of, papers_of}
use Rattle.notes.specs.declared.Asked.{Asked}

-- ---- of a job that was read

module _ (j : Job) (plan : List ℕ) where
  pub none_lent : length plan ≡ 0 → Claims no_claim ≡ claim_of j plan
  unfolding claim_of if_lent
  none_lent e = rw (eq-eqb (length plan) 0 e)

  module _ (lent : length plan ≡ 0 → ⊥) where
    pub plan-unread : (r : Refusal) → plan_read_of (Err r) ≡ read_plan plan → Unclaimed (number_of r.fault) (paper_of r.paper) ≡ claim_of j plan
    unfolding claim_of if_lent if_read
    plan-unread r e = rw (ne_eqb (length plan) 0 lent, ← e)

    module _ (p : Plan) (ep : plan_read_of (Ok p) ≡ read_plan plan) where
      pub plan-refused : (r : Refusal) → judged_of (Err r) ≡ judged j p → Unclaimed (number_of r.fault) (paper_of r.paper) ≡ claim_of j plan
      unfolding claim_of if_lent if_read claim_by
      plan-refused r e = rw (ne_eqb (length plan) 0 lent, ← ep, ← e)

      pub plan-claimed : (cost : ℕ) → judged_of (Ok cost) ≡ judged j p → Claims (plan_claim cost) ≡ claim_of j plan
      unfolding claim_of if_lent if_read claim_by
      plan-claimed cost e = rw (ne_eqb (length plan) 0 lent, ← ep, ← e)

pub ruleset claim_laws = (none_lent, plan-unread, plan-refused, plan-claimed)

-- ---- of the two papers

module _ (job plan : List ℕ) where
  pub job-unread : (r : Refusal) → job_read_of (Err r) ≡ read_job job → papers_of (record { claimed = Err r; job = no_job }) ≡ asked job plan
  unfolding asked if_read
  job-unread r e = rw (← e) refl

  pub job-asked : (j : Job) → job_read_of (Ok j) ≡ read_job job → (r : Result Claim Refusal) → claimed_of r ≡ claim_of j plan
      → papers_of (record { claimed = r; job = j }) ≡ asked job plan
  unfolding asked if_read
  job-asked j ej r e = rw (← ej) (λ i. record { claimed = e i; job = j })

pub ruleset ask_laws = (job-unread, job-asked)

-- what stands beside the job: a claim, or a refusal
module _ (a : Asked) (papers : AskedPapers) (e : papers_of a ≡ papers) where
  pub papers-claimed : (claim : Claim) → a.claimed ≡ Ok claim → papers ≡ record { claimed = Claims claim; job = a.job }
  papers-claimed claim h = sym e ∙ (λ i. record { claimed = claimed_of (h i); job = a.job })

  pub papers-refused : (r : Refusal) → a.claimed ≡ Err r → papers.claimed ≡ Unclaimed (number_of r.fault) (paper_of r.paper)
  papers-refused r h = sym (ap (λ (p : AskedPapers). p.claimed) e) ∙ ap claimed_of h

-- ---- results that the definitions call alike are equal

one-claimed : (r r' : Result Claim Refusal) → claimed_of r ≡ claimed_of r' → r ≡ r'
one-claimed (Ok c) (Ok d) e = let w : c ≡ d = cc in ap (λ (x : Claim). Ok x) w
one-claimed (Ok c) (Err r) e = cc
one-claimed (Err r) (Ok d) e = cc
one-claimed (Err r) (Err r') e = ap (λ (x : Refusal). Err x) (refusal-one r r' (cc) (cc))

pub one_asked : (a a' : Asked) → papers_of a ≡ papers_of a' → a ≡ a'
one_asked a a' e =
    let c = one-claimed a.claimed a'.claimed (ap (λ (p : AskedPapers). p.claimed) e) in
    let j = ap (λ (p : AskedPapers). p.job) e in
    λ i. record { claimed = c i; job = j i }
