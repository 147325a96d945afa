-- What is claimed of a job: that a plan at cost c is a cheapest one exactly where the plan beside it passes at c (`claimed-passes`),
-- that there is none exactly where no plan is beside a job that is read (`claimed-none`), and nothing else (`claimed-either`); without a
-- claim the job is refused, or the plan beside it (`unclaimed-exactly`). The job that a claim is of was read (`asked-read`).
use Prim.Native.Nat.{ℕ}
use mathlib.Core.Path.{◌≡◌, refl, sym, ap, ◌∙◌}
use mathlib.Core.List.{List, [], ◌∷◌}
use mathlib.Core.Logic.{◌⊎◌, inl, inr, ◌↔◌}
use native.Mathlib.Decide.{ℕ_discrete}
use native.Mathlib.Omega.{arith}
use borrow.Author.Tests.{eq-eqb, ne_eqb}
use lib.ListN.{length}
use Rattle.basics.specs.Faults.{◌or_else◌, fault_unless}
use Rattle.sheets.specs.Groups.{runs_out, form_fault}
use Rattle.sheets.specs.JobSheet.{read_job}
use Rattle.sheets.specs.PlanSheet.{plan_head_fault, plan_fault, plan_answer, read_plan}
use Rattle.sheets.specs.declared.Job.{Job}
use Rattle.sheets.specs.Answers.{Reading, Read, Unread}
use Rattle.rules.specs.Judge.{Judged, Passed, Refused as Unfit, judged, if_read as if_paper, judge_with, judge}
use Rattle.rules.specs.Meets.{Passes}
use Rattle.rules.proofs.JudgeMeets.{judge-passes}
use Rattle.placing.specs.Closing.{Claim}
use Rattle.notes.specs.Check.{Claims, Unclaimed, plan_claim, no_claim, claim_by, if_read, if_lent, claim_of, asked}

-- ---- the ways of a claim apart

not-claimed : {A : Type 0} (number paper : ℕ) (claim : Claim) → Unclaimed number paper ≡ Claims claim → A
not-claimed number paper claim e = absurd (cc)

claim-passed : (r : Judged) (c : ℕ) → claim_by r ≡ Claims (plan_claim c) → r ≡ Passed c
unfolding claim_by
claim-passed (Passed cost) c e = cc
claim-passed (Unfit number paper) c e = cc

claim-plan : (r : Judged) → claim_by r ≡ Claims no_claim → ⊥
unfolding claim_by
claim-plan (Passed cost) e = cc
claim-plan (Unfit number paper) e = cc

claim-judged : (r : Judged) (claim : Claim) → claim_by r ≡ Claims claim → (c : ℕ) × (claim ≡ plan_claim c)
unfolding claim_by
claim-judged (Passed cost) claim e = (cost, cc)
claim-judged (Unfit number paper) claim e = not-claimed number paper claim e

claim-alone : (a : Reading) (claim : Claim) → if_read a (Claims no_claim) ≡ Claims claim → claim ≡ no_claim
unfolding if_read
claim-alone Read claim e = cc
claim-alone (Unread number paper) claim e = cc

unclaimed-judged : (r : Judged) (number paper : ℕ) → claim_by r ≡ Unclaimed number paper → r ≡ Unfit number paper
unfolding claim_by
unclaimed-judged (Passed cost) number paper e = cc
unclaimed-judged (Unfit number' paper') number paper e = cc

unclaimed-read : (a : Reading) (number paper : ℕ) → if_read a (Claims no_claim) ≡ Unclaimed number paper → a ≡ Unread number paper
unfolding if_read
unclaimed-read Read number paper e = cc
unclaimed-read (Unread number' paper') number paper e = cc

-- ---- without a plan, and with one

no_bytes : (plan : List ℕ) → length plan ≡ 0 → plan ≡ []
no_bytes [] h = refl
no_bytes (x ∷ plan) h = absurd (omega arith)

-- a plan of length 0 is not read
empty-unread : (plan : List ℕ) → length plan ≡ 0 → (read_plan plan).answer ≡ Read → ⊥
unfolding read_plan plan_answer plan_fault plan_head_fault form_fault runs_out fault_unless ◌or_else◌
empty-unread [] h e = let z : ◌≡◌ {A = ℕ} 0 1 = cc in omega arith
empty-unread (x ∷ plan) h e = omega arith

same-papers : (a b : Reading) (r : Judged) → if_read a (if_read b (claim_by r)) ≡ claim_by (if_paper a (if_paper b r))
unfolding if_read if_paper claim_by
same-papers Read Read r = refl
same-papers Read (Unread number paper) r = refl
same-papers (Unread number paper) b r = refl

module _ (job plan : List ℕ) where
  alone : length plan ≡ 0 → (asked job plan).claimed ≡ if_read (read_job job).answer (Claims no_claim)
  unfolding asked claim_of if_lent
  alone h = rw (eq-eqb (length plan) 0 h)

  -- a claim beside a plan is the judge's
  pub claimed-judge : (length plan ≡ 0 → ⊥) → (asked job plan).claimed ≡ claim_by (judge job plan)
  unfolding asked claim_of if_lent judge judge_with judged
  claimed-judge h = rw (ne_eqb (length plan) 0 h) (same-papers (read_job job).answer (read_plan plan).answer (judged (read_job job).job (read_plan plan).plan))

  -- ---- the job that a claim is of was read

  pub asked-read : (claim : Claim) → (asked job plan).claimed ≡ Claims claim → read_job job ≡ record { answer = Read; job = (asked job plan).job }
  unfolding asked if_read
  asked-read claim e = go (read_job job).answer refl
    where
      go : (a : Reading) → (read_job job).answer ≡ a → read_job job ≡ record { answer = Read; job = (read_job job).job }
      go Read r = λ i. record { answer = r i; job = (read_job job).job }
      go (Unread number paper) r = not-claimed number paper claim (rw r at e)

  -- ---- a claim that a plan is a cheapest one

  passes-claimed : (c : ℕ) → Passes job plan c → (asked job plan).claimed ≡ Claims (plan_claim c)
  unfolding claim_by
  passes-claimed c w =
      let some : length plan ≡ 0 → ⊥ = λ h. empty-unread plan h (ap (λ r. r.answer) w.plan_read) in
      rw (claimed-judge some, (judge-passes job plan c).1 w)

  claimed-pass : (c : ℕ) → (asked job plan).claimed ≡ Claims (plan_claim c) → Passes job plan c
  unfolding if_read
  claimed-pass c e = go (ℕ_discrete (length plan) 0)
    where
      without : (a : Reading) → if_read a (Claims no_claim) ≡ Claims (plan_claim c) → Passes job plan c
      without Read e = absurd (cc)
      without (Unread number paper) e = absurd (cc)

      go : Dec (length plan ≡ 0) → Passes job plan c
      go (yes h) = without (read_job job).answer (sym (alone h) ∙ e)
      go (no h) = (judge-passes job plan c).0 (claim-passed (judge job plan) c (sym (claimed-judge h) ∙ e))

  pub claimed-passes : (c : ℕ) → ((asked job plan).claimed ≡ Claims (plan_claim c)) ↔ Passes job plan c
  claimed-passes c = (claimed-pass c, passes-claimed c)

  -- ---- a claim that there is none

  claimed-no-plan : (asked job plan).claimed ≡ Claims no_claim → plan ≡ []
  claimed-no-plan e = elim (ℕ_discrete (length plan) 0) [ yes h ↦ no_bytes plan h | no h ↦ absurd (claim-plan (judge job plan) (sym (claimed-judge h) ∙ e)) ]

  none-claimed : plan ≡ [] → (j : Job) → read_job job ≡ record { answer = Read; job = j } → (asked job plan).claimed ≡ Claims no_claim
  unfolding if_read
  none-claimed p j r = alone (ap length p) ∙ rw r

  pub claimed-none : ((asked job plan).claimed ≡ Claims no_claim) ↔ ((plan ≡ []) × ((j : Job) × (read_job job ≡ record { answer = Read; job = j })))
  claimed-none = ((λ e. (claimed-no-plan e, ((asked job plan).job, asked-read no_claim e))), λ w. none-claimed w.0 w.1.0 w.1.1)

  -- ---- there are no other claims

  pub claimed-either : (claim : Claim) → (asked job plan).claimed ≡ Claims claim → ((c : ℕ) × (claim ≡ plan_claim c)) ⊎ (claim ≡ no_claim)
  claimed-either claim e =
      elim (ℕ_discrete (length plan) 0) [
        | yes h ↦ inr (claim-alone (read_job job).answer claim (sym (alone h) ∙ e))
        | no h ↦ inl (claim-judged (judge job plan) claim (sym (claimed-judge h) ∙ e))
      ]

  -- ---- no claim

  module _ (number paper : ℕ) where
    abbrev Unasked : Type 0
    Unasked = ((read_job job).answer ≡ Unread number paper) ⊎ ((length plan ≡ 0 → ⊥) × (judge job plan ≡ Unfit number paper))

    unclaimed-says : (asked job plan).claimed ≡ Unclaimed number paper → Unasked
    unclaimed-says e =
        elim (ℕ_discrete (length plan) 0) [
          | yes h ↦ inl (unclaimed-read (read_job job).answer number paper (sym (alone h) ∙ e))
          | no h ↦ inr (h, unclaimed-judged (judge job plan) number paper (sym (claimed-judge h) ∙ e))
        ]

    says-unclaimed : Unasked → (asked job plan).claimed ≡ Unclaimed number paper
    unfolding asked if_read claim_by
    says-unclaimed (inl r) = rw r
    says-unclaimed (inr w) = claimed-judge w.0 ∙ rw w.1

    pub unclaimed-exactly : ((asked job plan).claimed ≡ Unclaimed number paper) ↔ Unasked
    unclaimed-exactly = (unclaimed-says, says-unclaimed)
