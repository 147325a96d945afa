-- Laws of answers: how a writer comes to keep its promise, and what follows from one kept.
use Prim.Native.Nat.{ℕ, zero, suc, ◌≤◌, ◌<◌}
use mathlib.Core.Path.{◌≡◌, refl, sym, ap, ◌∙◌}
use mathlib.Core.Bool.{Bool, true, false}
use mathlib.Core.List.{List, ◌++◌}
use borrow.Author.Tests.{le-leb, lt-leb}
use lib.Dec.{leb}
use lib.ListN.{length, take, drop}
use lib.Seq.{take_at}
use Rattle.std.specs.Prelude.{Result, Ok, Err, IfOk, IfErr}
use Rattle.basics.specs.Answers.{Promise, refused_says}
use Rattle.basics.specs.declared.Answer.{Answer}
use Rattle.basics.specs.Faults.{number_of, paper_of, fault_in, blamed}
use Rattle.basics.specs.declared.refusals.Fault.{Fault}
use Rattle.basics.specs.declared.refusals.Paper.{Paper}
use Rattle.basics.specs.declared.refusals.Refusal.{Refusal}
use Rattle.basics.proofs.FaultLaws.{number-some, blamed-none, blamed-fault, blamed-paper}
use Rattle.basics.specs.Numbers.{output_short, paper_request}
use Rattle.basics.proofs.AnswerLaws.{refusal-one}
use Rattle.sheets.specs.JobSheet.{JobRead, job_read_of}
use Rattle.sheets.specs.PlanSheet.{PlanRead, plan_read_of}
use Rattle.sheets.specs.declared.Job.{Job}
use Rattle.sheets.specs.declared.Plan.{Plan}
use Rattle.sheets.specs.Answers.{Read, reading_of, reading_says, Written, Wrote, Refused, written_of, written_says, if_room, written, output}

-- a refusal leaves the output's bytes as they were, of the writers and of all that leave `output`
pub untouched : (answer : Written) (sheet out : List ℕ) (number paper : ℕ) → answer ≡ Refused number paper → output answer sheet out ≡ out
unfolding output
untouched answer sheet out number paper e = rw e

-- ---- what an answer says of a result, where a refusal is converted

pub reading-said : {A : Type 0} (r : Result A Refusal) (a : Answer) → IfOk r (λ x. a ≡ reading_says Read)
    → IfErr r (λ x. a ≡ refused_says (number_of x.fault) (paper_of x.paper)) → a ≡ reading_says (reading_of r)
reading-said (Ok x) a p q = p
reading-said (Err x) a p q = q

pub written-said : (r : Result ℕ Refusal) (a : Answer) → IfOk r (λ n. a ≡ written_says (Wrote n))
    → IfErr r (λ x. a ≡ refused_says (number_of x.fault) (paper_of x.paper)) → a ≡ written_says (written_of r)
written-said (Ok n) a p q = p
written-said (Err x) a p q = q

-- ---- the code's results are told apart by what the definitions call them

pub one_written : (r r' : Result ℕ Refusal) → written_of r ≡ written_of r' → r ≡ r'
one_written (Ok n) (Ok m) e = let w : n ≡ m = cc in ap (λ (k : ℕ). Ok k) w
one_written (Err x) (Err y) e =
    let f : number_of x.fault ≡ number_of y.fault = cc in
    let p : paper_of x.paper ≡ paper_of y.paper = cc in
    ap (λ (z : Refusal). Err z) (refusal-one x y f p)
one_written (Ok n) (Err y) e = cc
one_written (Err x) (Ok m) e = cc

pub one_job-read : (r r' : Result Job Refusal) → job_read_of r ≡ job_read_of r' → r ≡ r'
one_job-read (Ok j) (Ok k) e = ap (λ (w : JobRead). Ok w.job) e
one_job-read (Err x) (Err y) e =
    let a = ap (λ (w : JobRead). w.answer) e in
    let f : number_of x.fault ≡ number_of y.fault = cc in
    let p : paper_of x.paper ≡ paper_of y.paper = cc in
    ap (λ (z : Refusal). Err z) (refusal-one x y f p)
one_job-read (Ok j) (Err y) e = let a = ap (λ (w : JobRead). w.answer) e in cc
one_job-read (Err x) (Ok k) e = let a = ap (λ (w : JobRead). w.answer) e in cc

pub one_plan-read : (r r' : Result Plan Refusal) → plan_read_of r ≡ plan_read_of r' → r ≡ r'
one_plan-read (Ok p) (Ok q) e = ap (λ (w : PlanRead). Ok w.plan) e
one_plan-read (Err x) (Err y) e =
    let a = ap (λ (w : PlanRead). w.answer) e in
    let f : number_of x.fault ≡ number_of y.fault = cc in
    let p : paper_of x.paper ≡ paper_of y.paper = cc in
    ap (λ (z : Refusal). Err z) (refusal-one x y f p)
one_plan-read (Ok p) (Err y) e = let a = ap (λ (w : PlanRead). w.answer) e in cc
one_plan-read (Err x) (Ok q) e = let a = ap (λ (w : PlanRead). w.answer) e in cc

-- the record's fault, its paper, the sheet and its size, and the output
module _ (fault paper size : ℕ) (sheet out : List ℕ) where
  -- the writer has answered r, and left these bytes
  abbrev pub Kept : Written → List ℕ → Type 0
  Kept r after = Promise (written fault paper size (length out)) (output (written fault paper size (length out)) sheet out) r after

  -- ---- a writer's three ways, by the fault that it has found in the record

  first-fault : (k : ℕ) → k ≡ fault → (k ≡ 0 → ⊥) → Kept (Refused k paper) out
  unfolding written output
  first-fault zero e q = absurd (q refl)
  first-fault (suc k) e q = rw (← e) (record { told = refl; bytes = refl })

  module _ (who : Paper) (found : Result (Unit {0}) Fault) (f : fault_in found ≡ fault) where
    pub writes-fault : (r : Refusal) → Err r ≡ blamed who found → paper_of who ≡ paper
        → Kept (written_of (Err r)) out
    writes-fault r e p =
        rw (ap (λ (w : Paper). paper_of w) (blamed-paper who found r e) ∙ p)
        (first-fault (number_of r.fault) (blamed-fault who found r e ∙ f) (number-some r.fault))

    pub writes_short : Ok tt ≡ blamed who found → length out < size
        → Kept (Refused output_short paper_request) out
    unfolding written if_room output
    writes_short e h = rw (← f, blamed-none who found tt e, lt-leb size (length out) h) (record { told = refl; bytes = refl })

    pub writes-sheet : (after : List ℕ) → Ok tt ≡ blamed who found → size ≤ length out → after ≡ sheet ++ drop size out
        → Kept (Wrote size) after
    unfolding written if_room output
    writes-sheet after e h w = rw (← f, blamed-none who found tt e, le-leb size (length out) h) (record { told = refl; bytes = w })

  -- ---- from a promise kept

  -- what was written had no fault
  wrote : (n : ℕ) → Wrote n ≡ written fault paper size (length out) → (fault ≡ 0) × (n ≡ size)
  unfolding written if_room
  wrote n e = go fault (leb size (length out)) refl refl e
    where
      go : (f : ℕ) (b : Bool) → fault ≡ f → leb size (length out) ≡ b → Wrote n ≡ written fault paper size (length out) → (fault ≡ 0) × (n ≡ size)
      go zero true p q e = (p, let w : Wrote n ≡ Wrote size = e ∙ rw (p, q) in cc)
      go zero false p q e = let w : Wrote n ≡ Refused output_short paper_request = e ∙ rw (p, q) in cc
      go (suc k) b p q e = let w : Wrote n ≡ Refused (suc k) paper = e ∙ rw p in cc

  -- and the sheet stands in front
  pub wrote-sheet : (n : ℕ) (after : List ℕ) → length sheet ≡ size → Kept (Wrote n) after
      → (fault ≡ 0) × (take n after ≡ sheet)
  unfolding output
  wrote-sheet n after l w =
      let f = wrote n w.told in
      (f.0, rw (w.bytes, ← w.told) (take_at sheet _ n (l ∙ sym f.1)))

  -- without fault and with room the sheet is written
  pub sheet-wrote : (r : Written) (after : List ℕ) → fault ≡ 0 → length sheet ≡ size → length sheet ≤ length out
      → Kept r after → (r ≡ Wrote (length sheet)) × (after ≡ sheet ++ drop (length sheet) out)
  unfolding written if_room output
  sheet-wrote r after e l h w =
      let q : leb (length sheet) (length out) ≡ true = le-leb (length sheet) (length out) h in
      (rw (e, ← l, q) at w.told, rw (e, ← l, q) at w.bytes)
