-- Laws of a plan's rules and of its reader: what no fault means, and the answer from the faults found.
use Prim.Native.Nat.{ℕ, zero, suc, ◌≤◌}
use mathlib.Core.Path.{◌≡◌, refl, sym, ◌∙◌}
use mathlib.Core.List.{List}
use borrow.Author.Tests.{leb-true}
use lib.Dec.{lit<}
use Rattle.std.specs.Prelude.{Result, Ok, Err}
use Rattle.basics.specs.Faults.{fault_in, number_of, blamed}
use Rattle.basics.specs.declared.refusals.Fault.{Fault}
use Rattle.basics.specs.declared.refusals.Paper.TheVariants.{Plan as PlanPaper}
use Rattle.basics.specs.declared.refusals.Refusal.{Refusal}
use Rattle.basics.specs.Numbers.{outside_limit}
use Rattle.basics.proofs.CountLaws.{and_both}
use Rattle.basics.proofs.FaultLaws.{or_else-none, or_else-go, stopped, went, unless-none, number-some, blamed-none, blamed-fault, blamed-paper}
use Rattle.sheets.specs.Limits.{max_ops, max_insts}
use Rattle.sheets.specs.PlanSheet.{ops_in, insts_in, plan_in, plan_counts_fault, plan_head_fault, plan_body_fault, plan_fault, plan_refused, plan_answer, read_plan, plan_read_of}
use Rattle.sheets.specs.declared.Plan.{Plan}

-- ---- sizes within their limits

pub none-sizes : (n k : ℕ) → plan_counts_fault n k ≡ 0 → (n ≤ max_ops) × (k ≤ max_insts)
unfolding plan_counts_fault
none-sizes n k h =
    let a = and_both _ _ (unless-none _ outside_limit (lit< tt) h) in
    (leb-true _ _ a.0, leb-true _ _ a.1)

pub head-sizes : (s : List ℕ) → plan_head_fault s ≡ 0 → (ops_in s ≤ max_ops) × (insts_in s ≤ max_insts)
unfolding plan_head_fault
head-sizes s h = none-sizes _ _ (or_else-none _ _ (or_else-none _ _ h).1).1

pub head_ops : (s : List ℕ) → plan_head_fault s ≡ 0 → ops_in s ≤ max_ops
head_ops s h = (head-sizes s h).0

pub head_insts : (s : List ℕ) → plan_head_fault s ≡ 0 → insts_in s ≤ max_insts
head_insts s h = (head-sizes s h).1

pub ruleset head_laws = (head_ops, head_insts)

-- ---- the reader's answer

answers-fault : (k : ℕ) (p : Plan) → (k ≡ 0 → ⊥) → plan_answer k p ≡ plan_refused k
unfolding plan_answer
answers-fault zero p q = absurd (q refl)
answers-fault (suc k) p q = refl

-- refused by a fault found in the header, or behind it, and read where none is found
module _ (s : List ℕ) {A : Type 0} (found : Result A Fault) where
  refused : (r : Refusal) → Err r ≡ blamed PlanPaper found → fault_in found ≡ plan_fault s → plan_read_of (Err r) ≡ read_plan s
  unfolding read_plan
  refused r e f =
      let n = blamed-fault PlanPaper found r e in
      rw (← f, ← n, blamed-paper PlanPaper found r e) (sym (answers-fault (number_of r.fault) (plan_in s) (number-some r.fault)))

  pub head-refused : (r : Refusal) → Err r ≡ blamed PlanPaper found → fault_in found ≡ plan_head_fault s → plan_read_of (Err r) ≡ read_plan s
  unfolding plan_fault
  head-refused r e f =
      refused r e (sym (blamed-fault PlanPaper found r e) ∙ stopped _ (plan_body_fault s (plan_in s)) _ (blamed-fault PlanPaper found r e ∙ f) (number-some r.fault))

  pub body-refused : (r : Refusal) (p : Plan) → plan_head_fault s ≡ 0 → p ≡ plan_in s → Err r ≡ blamed PlanPaper found → fault_in found ≡ plan_body_fault s p
      → plan_read_of (Err r) ≡ read_plan s
  unfolding plan_fault
  body-refused r p z w e f = refused r e (went _ _ _ z (rw (← w) f))

  pub plan-read : (x : A) (p : Plan) → plan_head_fault s ≡ 0 → p ≡ plan_in s → Ok x ≡ blamed PlanPaper found → fault_in found ≡ plan_body_fault s p
      → plan_read_of (Ok p) ≡ read_plan s
  unfolding read_plan plan_fault plan_answer
  plan-read x p z w e f = rw (or_else-go _ _ z, ← w, ← f, blamed-none PlanPaper found x e) refl
