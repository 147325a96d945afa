-- A fault is the number of a refusal, and 0 where there is none. The order of refusals is the order in which faults are
-- joined: `a or_else b` is the first of two, `first fault n` the first of n groups.
use Rattle.std.specs.Prelude.{ℕ, zero, suc, Bool, true, false, Result, Ok, Err}
use Rattle.basics.specs.Numbers.{bits_run_out, form_differs, outside_limit, link_broken, type_broken, fill_broken, record_broken, counts_differ, order_broken, row_instance, row_kind, row_unselected, row_step, precedence_broken, resource_broken, chain_broken, distance_far, moved_out, output_short, budget_spent, no_plan, note_long, verdict_differs, split_broken, close_broken, cheaper, lengths_differ, dossier_long, paper_job, paper_plan, paper_note, paper_dossier, paper_request}
use Rattle.basics.specs.declared.refusals.Fault.{Fault}
use Rattle.basics.specs.declared.refusals.Fault.TheVariants.{BitsRunOut, FormDiffers, OutsideLimit, LinkBroken, TypeBroken, FillBroken, RecordBroken, CountsDiffer, OrderBroken, RowInstance, RowKind, RowUnselected, RowStep, PrecedenceBroken, ResourceBroken, ChainBroken, DistanceFar, MovedOut, OutputShort, BudgetSpent, NoPlan, NoteLong, VerdictDiffers, SplitBroken, CloseBroken, Cheaper, LengthsDiffer, DossierLong}
use Rattle.basics.specs.declared.refusals.Paper.{Paper}
use Rattle.basics.specs.declared.refusals.Paper.TheVariants.{Job, Plan, Note, Dossier, Request}
use Rattle.basics.specs.declared.refusals.Refusal.{Refusal}

infixr 30 ◌or_else◌
-- the fault a, or where there is none the fault b
unfoldable pub ◌or_else◌ : ℕ → ℕ → ℕ
zero or_else b = b
suc a or_else b = suc a

-- the fault `number` where the test fails
unfoldable pub fault_unless : Bool → ℕ → ℕ
fault_unless true number = 0
fault_unless false number = number

-- the first fault of groups 0 to n - 1
unfoldable pub first : (ℕ → ℕ) → ℕ → ℕ
first fault zero = 0
first fault (suc n) = first fault n or_else fault n

-- ---- the code's faults and papers, by their numbers

abbrev pub number_of : Fault → ℕ
number_of BitsRunOut = bits_run_out
number_of FormDiffers = form_differs
number_of OutsideLimit = outside_limit
number_of LinkBroken = link_broken
number_of TypeBroken = type_broken
number_of FillBroken = fill_broken
number_of RecordBroken = record_broken
number_of CountsDiffer = counts_differ
number_of OrderBroken = order_broken
number_of RowInstance = row_instance
number_of RowKind = row_kind
number_of RowUnselected = row_unselected
number_of RowStep = row_step
number_of PrecedenceBroken = precedence_broken
number_of ResourceBroken = resource_broken
number_of ChainBroken = chain_broken
number_of DistanceFar = distance_far
number_of MovedOut = moved_out
number_of OutputShort = output_short
number_of BudgetSpent = budget_spent
number_of NoPlan = no_plan
number_of NoteLong = note_long
number_of VerdictDiffers = verdict_differs
number_of SplitBroken = split_broken
number_of CloseBroken = close_broken
number_of Cheaper = cheaper
number_of LengthsDiffer = lengths_differ
number_of DossierLong = dossier_long

abbrev pub paper_of : Paper → ℕ
paper_of Job = paper_job
paper_of Plan = paper_plan
paper_of Note = paper_note
paper_of Dossier = paper_dossier
paper_of Request = paper_request

-- the number of the fault in a result, 0 where there is none
abbrev pub fault_in : {A : Type 0} → Result A Fault → ℕ
fault_in (Ok x) = 0
fault_in (Err fault) = number_of fault

-- what was found, with the paper at fault
abbrev pub blamed : {A : Type 0} → Paper → Result A Fault → Result A Refusal
blamed paper (Ok x) = Ok x
blamed paper (Err fault) = Err (record { fault = fault; paper = paper })
