-- Laws of a job's rules and of its reader: what no fault means, and the answer from the faults found.
use Prim.Native.Nat.{ℕ, zero, suc, ◌-◌, ◌≤◌}
use mathlib.Core.Path.{◌≡◌, refl, sym, ◌∙◌}
use mathlib.Core.Bool.{Bool, true, false, ◌&&◌, ◌||◌}
use mathlib.Core.List.{List}
use native.Mathlib.Omega.{arith}
use borrow.Author.Tests.{leb-true}
use lib.Dec.{ltb, eqb, lit<}
use Rattle.std.specs.Prelude.{Some, Result, Ok, Err, cond}
use Rattle.std.specs.declared.cmp.Ordering.TheVariants.{Less, Equal, Greater}
use Rattle.std.specs.Ordering.{nat_cmp, is_some_and, is_lt, partial_ordering_then}
use Rattle.basics.specs.Faults.{fault_in, number_of, blamed}
use Rattle.basics.specs.declared.refusals.Fault.{Fault}
use Rattle.basics.specs.declared.refusals.Paper.TheVariants.{Job as JobPaper}
use Rattle.basics.specs.declared.refusals.Refusal.{Refusal}
use Rattle.basics.specs.Numbers.{outside_limit}
use Rattle.basics.specs.Tables.{cell}
use Rattle.basics.proofs.CountLaws.{and_both}
use Rattle.basics.proofs.FaultLaws.{or_else-none, or_else-go, stopped, went, unless-none, number-some, blamed-none, blamed-fault, blamed-paper}
use Rattle.sheets.specs.Limits.{max_ops, max_links, max_types, max_time}
use Rattle.sheets.specs.JobRecord.{job_counts_fault, ascends}
use Rattle.sheets.specs.JobSheet.{n_in, e_in, m_in, clock_in, job_in, job_head_fault, job_body_fault, job_fault, job_refused, job_answer, read_job, job_read_of}
use Rattle.sheets.specs.declared.Job.{Job}

-- a link that is not the first, and the one before it
pub ascends-behind : (from to : List ℕ) (i : ℕ) → (i ≡ 0 → ⊥)
    → ascends from to i
    ≡ (ltb (cell from (i - 1)) (cell from i) || (eqb (cell from (i - 1)) (cell from i) && ltb (cell to (i - 1)) (cell to i)))
unfolding ascends
ascends-behind from to zero h = absurd (h refl)
ascends-behind from to (suc i) h = let e : suc i - 1 ≡ i = omega arith in rw e

-- pairs in order: by the first numbers, then by the second
pairs-by : (p q r s : Bool) → is_some_and is_lt (partial_ordering_then (Some (cond p Less (cond q Equal Greater))) (Some (cond r Less (cond s Equal Greater)))) ≡ (p || (q && r))
pairs-by true q r s = refl
pairs-by false true true s = refl
pairs-by false true false true = refl
pairs-by false true false false = refl
pairs-by false false r s = refl

pub pairs-in_order : (a b c d : ℕ)
    → is_some_and is_lt (partial_ordering_then (Some (nat_cmp a c)) (Some (nat_cmp b d))) ≡ (ltb a c || (eqb a c && ltb b d))
pairs-in_order a b c d = pairs-by (ltb a c) (eqb a c) (ltb b d) (eqb b d)

-- the first link is behind none; another is compared with the one before it
pub ascends-first : (from to : List ℕ) (i : ℕ) → i ≡ 0 → true ≡ ascends from to i
unfolding ascends
ascends-first from to i h = rw h

pub ascends-pair : (from to : List ℕ) (i : ℕ) → (i ≡ 0 → ⊥)
    → is_some_and is_lt (partial_ordering_then (Some (nat_cmp (cell from (i - 1)) (cell from i))) (Some (nat_cmp (cell to (i - 1)) (cell to i))))
    ≡ ascends from to i
ascends-pair from to i h =
    pairs-in_order (cell from (i - 1)) (cell to (i - 1)) (cell from i) (cell to i) ∙ sym (ascends-behind from to i h)

pub ruleset ascends_laws = (ascends-first, ascends-pair)

-- ---- counts within their limits

pub record Counts (n e m clock : ℕ) : Type 0 where
  pub ops : n ≤ max_ops
  pub links : e ≤ max_links
  pub types : m ≤ max_types
  pub some : 1 ≤ clock
  pub short : clock ≤ max_time

pub none-counts : (n e m clock : ℕ) → job_counts_fault n e m clock ≡ 0 → Counts n e m clock
unfolding job_counts_fault
none-counts n e m clock h =
    let a = and_both _ _ (unless-none _ outside_limit (lit< tt) h) in
    let b = and_both _ _ a.0 in
    let d = and_both _ _ b.0 in
    let f = and_both _ _ d.0 in
    record { ops = leb-true _ _ f.0; links = leb-true _ _ f.1; types = leb-true _ _ d.1; some = leb-true _ _ b.1; short = leb-true _ _ a.1 }

pub head-counts : (s : List ℕ) → job_head_fault s ≡ 0 → Counts (n_in s) (e_in s) (m_in s) (clock_in s)
unfolding job_head_fault
head-counts s h = none-counts _ _ _ _ (or_else-none _ _ (or_else-none _ _ h).1).1

pub head_ops : (s : List ℕ) → job_head_fault s ≡ 0 → n_in s ≤ max_ops
head_ops s h = (head-counts s h).ops

pub head_links : (s : List ℕ) → job_head_fault s ≡ 0 → e_in s ≤ max_links
head_links s h = (head-counts s h).links

pub head_types : (s : List ℕ) → job_head_fault s ≡ 0 → m_in s ≤ max_types
head_types s h = (head-counts s h).types

pub ruleset head_laws = (head_ops, head_links, head_types)

-- ---- the reader's answer

pub job-head : (s : List ℕ) → job_fault s ≡ 0 → job_head_fault s ≡ 0
unfolding job_fault
job-head s h = (or_else-none _ _ h).0

answers-fault : (k : ℕ) (j : Job) → (k ≡ 0 → ⊥) → job_answer k j ≡ job_refused k
unfolding job_answer
answers-fault zero j q = absurd (q refl)
answers-fault (suc k) j q = refl

-- refused by a fault found in the header, or behind it, and read where none is found
module _ (s : List ℕ) {A : Type 0} (found : Result A Fault) where
  refused : (r : Refusal) → Err r ≡ blamed JobPaper found → fault_in found ≡ job_fault s → job_read_of (Err r) ≡ read_job s
  unfolding read_job
  refused r e f =
      let n = blamed-fault JobPaper found r e in
      rw (← f, ← n, blamed-paper JobPaper found r e) (sym (answers-fault (number_of r.fault) (job_in s) (number-some r.fault)))

  pub head-refused : (r : Refusal) → Err r ≡ blamed JobPaper found → fault_in found ≡ job_head_fault s → job_read_of (Err r) ≡ read_job s
  unfolding job_fault
  head-refused r e f =
      refused r e (sym (blamed-fault JobPaper found r e) ∙ stopped _ (job_body_fault s (job_in s)) _ (blamed-fault JobPaper found r e ∙ f) (number-some r.fault))

  pub body-refused : (r : Refusal) (j : Job) → job_head_fault s ≡ 0 → j ≡ job_in s → Err r ≡ blamed JobPaper found → fault_in found ≡ job_body_fault s j
      → job_read_of (Err r) ≡ read_job s
  unfolding job_fault
  body-refused r j z w e f = refused r e (went _ _ _ z (rw (← w) f))

  pub job-read : (x : A) (j : Job) → job_head_fault s ≡ 0 → j ≡ job_in s → Ok x ≡ blamed JobPaper found → fault_in found ≡ job_body_fault s j
      → job_read_of (Ok j) ≡ read_job s
  unfolding read_job job_fault job_answer
  job-read x j z w e f = rw (or_else-go _ _ z, ← w, ← f, blamed-none JobPaper found x e) refl
