-- A promise leaves one answer: two that meet it are equal, output bytes too.
use Prim.Native.Nat.{ℕ}
use mathlib.Core.Path.{◌≡◌, refl, sym, ap, ap₂, ◌∙◌}
use mathlib.Core.Bool.{cond}
use mathlib.Core.List.{List}
use lib.Dec.{eqb}
use Rattle.std.specs.Prelude.{Result, Ok, Err}
use Rattle.basics.specs.Answers.{Promise}
use Rattle.basics.specs.Numbers.{bits_run_out, form_differs, outside_limit, link_broken, type_broken, fill_broken, record_broken, counts_differ, order_broken, row_instance, row_kind, row_unselected, row_step, precedence_broken, resource_broken, chain_broken, distance_far, moved_out, output_short, budget_spent, no_plan, note_long, verdict_differs, split_broken, close_broken, cheaper, lengths_differ, paper_job, paper_plan, paper_note, paper_dossier}
use Rattle.basics.specs.Faults.{number_of, paper_of, fault_in}
use Rattle.basics.specs.declared.refusals.Fault.{Fault}
use Rattle.basics.specs.declared.refusals.Fault.TheVariants.{BitsRunOut, FormDiffers, OutsideLimit, LinkBroken, TypeBroken, FillBroken, RecordBroken, CountsDiffer, OrderBroken, RowInstance, RowKind, RowUnselected, RowStep, PrecedenceBroken, ResourceBroken, ChainBroken, DistanceFar, MovedOut, OutputShort, BudgetSpent, NoPlan, NoteLong, VerdictDiffers, SplitBroken, CloseBroken, Cheaper, LengthsDiffer, DossierLong}
use Rattle.basics.specs.declared.refusals.Paper.{Paper}
use Rattle.basics.specs.declared.refusals.Paper.TheVariants.{Job, Plan, Note, Dossier, Request}
use Rattle.basics.specs.declared.refusals.Refusal.{Refusal}
use Rattle.basics.proofs.FaultLaws.{number-some}

-- of an entry without output
pub one_answer : {A : Type 0} (answer r r' : A) → r ≡ answer → r' ≡ answer → r ≡ r'
one_answer answer r r' e e' = e ∙ sym e'

pub one-promise : {A : Type 0} (answer : A) (final : List ℕ) (r r' : A) (after after' : List ℕ)
    → Promise answer final r after → Promise answer final r' after' → (r ≡ r') × (after ≡ after')
one-promise answer final r r' after after' w w' = (one_answer answer r r' w.told w'.told, one_answer final after after' w.bytes w'.bytes)

-- ---- the code's faults and papers: no two have one number, so a promise in numbers leaves one of them too

named : ℕ → Fault
named n =
    cond (eqb n bits_run_out) BitsRunOut (
    cond (eqb n form_differs) FormDiffers (
    cond (eqb n outside_limit) OutsideLimit (
    cond (eqb n link_broken) LinkBroken (
    cond (eqb n type_broken) TypeBroken (
    cond (eqb n fill_broken) FillBroken (
    cond (eqb n record_broken) RecordBroken (
    cond (eqb n counts_differ) CountsDiffer (
    cond (eqb n order_broken) OrderBroken (
    cond (eqb n row_instance) RowInstance (
    cond (eqb n row_kind) RowKind (
    cond (eqb n row_unselected) RowUnselected (
    cond (eqb n row_step) RowStep (
    cond (eqb n precedence_broken) PrecedenceBroken (
    cond (eqb n resource_broken) ResourceBroken (
    cond (eqb n chain_broken) ChainBroken (
    cond (eqb n distance_far) DistanceFar (
    cond (eqb n moved_out) MovedOut (
    cond (eqb n output_short) OutputShort (
    cond (eqb n budget_spent) BudgetSpent (
    cond (eqb n no_plan) NoPlan (
    cond (eqb n note_long) NoteLong (
    cond (eqb n verdict_differs) VerdictDiffers (
    cond (eqb n split_broken) SplitBroken (
    cond (eqb n close_broken) CloseBroken (
    cond (eqb n cheaper) Cheaper (
    cond (eqb n lengths_differ) LengthsDiffer DossierLong))))))))))))))))))))))))))

named-number : (fault : Fault) → named (number_of fault) ≡ fault
unfolding named
named-number BitsRunOut = refl
named-number FormDiffers = refl
named-number OutsideLimit = refl
named-number LinkBroken = refl
named-number TypeBroken = refl
named-number FillBroken = refl
named-number RecordBroken = refl
named-number CountsDiffer = refl
named-number OrderBroken = refl
named-number RowInstance = refl
named-number RowKind = refl
named-number RowUnselected = refl
named-number RowStep = refl
named-number PrecedenceBroken = refl
named-number ResourceBroken = refl
named-number ChainBroken = refl
named-number DistanceFar = refl
named-number MovedOut = refl
named-number OutputShort = refl
named-number BudgetSpent = refl
named-number NoPlan = refl
named-number NoteLong = refl
named-number VerdictDiffers = refl
named-number SplitBroken = refl
named-number CloseBroken = refl
named-number Cheaper = refl
named-number LengthsDiffer = refl
named-number DossierLong = refl

pub number-one : (f g : Fault) → number_of f ≡ number_of g → f ≡ g
number-one f g e = sym (named-number f) ∙ ap (λ (n : ℕ). named n) e ∙ named-number g

on : ℕ → Paper
on n = cond (eqb n paper_job) Job (cond (eqb n paper_plan) Plan (cond (eqb n paper_note) Note (cond (eqb n paper_dossier) Dossier Request)))

on-paper : (paper : Paper) → on (paper_of paper) ≡ paper
unfolding on
on-paper Job = refl
on-paper Plan = refl
on-paper Note = refl
on-paper Dossier = refl
on-paper Request = refl

pub paper-one : (p q : Paper) → paper_of p ≡ paper_of q → p ≡ q
paper-one p q e = sym (on-paper p) ∙ ap (λ (n : ℕ). on n) e ∙ on-paper q

pub refusal-one : (r r' : Refusal) → number_of r.fault ≡ number_of r'.fault → paper_of r.paper ≡ paper_of r'.paper → r ≡ r'
refusal-one r r' e f = ap₂ (λ (x : Fault) (y : Paper). record { fault = x; paper = y }) (number-one r.fault r'.fault e) (paper-one r.paper r'.paper f)

-- of a function that only tests
pub one_fault : (r r' : Result (Unit {0}) Fault) → fault_in r ≡ fault_in r' → r ≡ r'
one_fault (Ok u) (Ok v) e = refl
one_fault (Ok u) (Err g) e = absurd (number-some g (sym e))
one_fault (Err f) (Ok v) e = absurd (number-some f e)
one_fault (Err f) (Err g) e = ap (λ (x : Fault). Err x) (number-one f g e)
