-- What the answers of tidy on bytes mean: `tidy-written`, `tidy-refused`. The judge passes the sheet written: `tidied-judged`.
use Prim.Native.Nat.{ℕ}
use mathlib.Core.Path.{◌≡◌, refl, sym, ap, ◌∙◌}
use mathlib.Core.Bool.{false}
use mathlib.Core.List.{List, ◌++◌}
use lib.ListN.{length, drop}
use Rattle.sheets.specs.Answers.{output}
use Rattle.sheets.specs.JobSheet.{read_job}
use Rattle.sheets.specs.PlanSheet.{PlanShape, read_plan, plan_record_fault, plan_sheet, write_plan}
use Rattle.sheets.specs.declared.Job.{Job}
use Rattle.sheets.specs.declared.Plan.{Plan}
use Rattle.sheets.specs.Answers.{Written, Wrote, Refused}
use Rattle.sheets.proofs.JobRoundTrip.{job-sound}
use Rattle.sheets.proofs.PlanRoundTrip.{plan-read-sound}
use Rattle.rules.specs.Judge.{fault_with, plan_cost, judge_with, judge}
use Rattle.rules.specs.Meets.{Meets}
use Rattle.rules.specs.Judge.{Judged, Passed, Refused as Unfit}
use Rattle.rules.proofs.JudgeMeets.{none-exactly}
use Rattle.moves.specs.Moved.{TidiedTo, Tidies, TidyRefusal}
use Rattle.moves.specs.Moving.{if_passed}
use Rattle.moves.specs.Tidy.{tidied, tidy, tidy_out}
use Rattle.moves.proofs.LentLaws.{plan-read-shape, job-read, plan-read, none-broken, plan-written, plan-short, sheet-passes}
use Rattle.moves.proofs.TidyLaws.{tidied-passes, tidied-cost, tidied-sound, tidied-shape, tidied-to}

-- ---- papers whose plan breaks no rule but possibly selection order

module _ (job plan : List ℕ) (c : ℕ) (passed : judge_with false job plan ≡ Passed c) where
  abbrev j : Job
  j = (read_job job).job

  abbrev p : Plan
  p = (read_plan plan).plan

  none : fault_with false j p ≡ 0
  none = (none-broken false job plan c passed).0

  -- the plan to be written
  abbrev q : Plan
  q = tidied j p

  q-shape : PlanShape q
  q-shape = tidied-shape j p (plan-read-shape plan) (plan-read-sound plan) none

  q-sound : plan_record_fault q ≡ 0
  q-sound = tidied-sound j p (plan-read-shape plan) (plan-read-sound plan) none

  q-tidied : TidiedTo j p q
  q-tidied = tidied-to j p (plan-read-shape plan) (plan-read-sound plan) none

  q-meets : Meets j q
  q-meets =
      (none-exactly j q (job-sound job j (job-read false job plan c passed))).0 (tidied-passes j p (plan-read-shape plan) (plan-read-sound plan) none)

  q-cost : plan_cost j q ≡ c
  q-cost = tidied-cost j p (plan-read-shape plan) (plan-read-sound plan) none ∙ (none-broken false job plan c passed).1

  q-judged : judge job (plan_sheet q) ≡ Passed c
  q-judged = sheet-passes q q-shape q-sound job j c (job-read false job plan c passed) q-meets q-cost

  written-says : (before after : List ℕ) (size : ℕ) → write_plan q (length before) ≡ Wrote size → after ≡ plan_sheet q ++ drop size before
      → Tidies job plan before after size
  written-says before after size e bytes =
      record {
        cost = c;
        unbroken = passed;
        as_job = j;
        job_read = job-read false job plan c passed;
        lent = p;
        plan_read = plan-read false job plan c passed;
        as_plan = q;
        tidied = q-tidied;
        meets = q-meets;
        costs = q-cost;
        costs-lent = (none-broken false job plan c passed).1;
        written = plan-written q q-shape q-sound before after size e bytes;
      }

  refused-says : (room number paper : ℕ) → write_plan q room ≡ Refused number paper → TidyRefusal job plan room number paper
  refused-says room number paper e =
      let w = plan-short q q-shape q-sound room number paper e in
      TidyRefusal.short c passed q q-tidied q-meets w.0 w.1 w.2

-- ---- the answers

pub tidy-written : (job plan before : List ℕ) (size : ℕ) → tidy job plan (length before) ≡ Wrote size
    → Tidies job plan before (tidy_out job plan before) size
unfolding tidy tidy_out if_passed output
tidy-written job plan before size e = go (judge_with false job plan) refl
  where
    go : (v : Judged) → judge_with false job plan ≡ v → Tidies job plan before (tidy_out job plan before) size
    go (Passed c) h =
        let sheet : List ℕ = plan_sheet (tidied (read_job job).job (read_plan plan).plan) in
        written-says job plan c h before (tidy_out job plan before) size (rw h at e) (ap (λ (r : Written). output r sheet before) e)
    go (Unfit number paper) h = let w : Refused number paper ≡ Wrote size = rw h at e in cc

pub tidy-refused : (job plan : List ℕ) (room number paper : ℕ) → tidy job plan room ≡ Refused number paper → TidyRefusal job plan room number paper
unfolding tidy if_passed
tidy-refused job plan room number paper e = go (judge_with false job plan) refl
  where
    go : (v : Judged) → judge_with false job plan ≡ v → TidyRefusal job plan room number paper
    go (Passed c) h = refused-says job plan c h room number paper (rw h at e)
    go (Unfit number' paper') h =
        let w : Refused number' paper' ≡ Refused number paper = rw h at e in
        let a : number' ≡ number = cc in
        let b : paper' ≡ paper = cc in
        TidyRefusal.unfit (rw (← a, ← b) h)

-- the sheet written passes, at the cost of the selection lent
pub tidied-judged : (job plan : List ℕ) (room size : ℕ) → tidy job plan room ≡ Wrote size
    → judge job (plan_sheet (tidied (read_job job).job (read_plan plan).plan)) ≡ judge_with false job plan
unfolding tidy if_passed
tidied-judged job plan room size e = go (judge_with false job plan) refl
  where
    go : (v : Judged) → judge_with false job plan ≡ v → judge job (plan_sheet (tidied (read_job job).job (read_plan plan).plan)) ≡ judge_with false job plan
    go (Passed c) h = q-judged job plan c h ∙ sym h
    go (Unfit number paper) h = let w : Refused number paper ≡ Wrote size = rw h at e in cc
