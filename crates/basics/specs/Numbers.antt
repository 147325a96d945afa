-- Document 01's numbers of refusals and papers, and the numbers of outcomes for C.
use Rattle.std.specs.Prelude.{ℕ}

-- ---- refusals

abbrev pub bits_run_out : ℕ
bits_run_out = 1

abbrev pub form_differs : ℕ
form_differs = 2

-- N, E, M, K or clock
abbrev pub outside_limit : ℕ
outside_limit = 3

abbrev pub link_broken : ℕ
link_broken = 4

abbrev pub type_broken : ℕ
type_broken = 5

-- fill not zero, or bytes follow
abbrev pub fill_broken : ℕ
fill_broken = 6

-- of a record: T, wire, a kind, a selection cell or a row's number too wide for its field, or an unused cell not zero
abbrev pub record_broken : ℕ
record_broken = 7

-- the plan's N or K differs from the job's
abbrev pub counts_differ : ℕ
counts_differ = 10

-- within a type a selected instance precedes an unselected one
abbrev pub order_broken : ℕ
order_broken = 11

-- of a row: the instance is not below K, cannot do the kind, is not selected; start or finish outside 1 to T
abbrev pub row_instance : ℕ
row_instance = 12

abbrev pub row_kind : ℕ
row_kind = 13

abbrev pub row_unselected : ℕ
row_unselected = 14

abbrev pub row_step : ℕ
row_step = 15

abbrev pub precedence_broken : ℕ
precedence_broken = 16

abbrev pub resource_broken : ℕ
resource_broken = 17

abbrev pub chain_broken : ℕ
chain_broken = 18

-- a slide's distance outside −31 to 31
abbrev pub distance_far : ℕ
distance_far = 20

-- a moved start below 1, or its finish behind T
abbrev pub moved_out : ℕ
moved_out = 21

abbrev pub output_short : ℕ
output_short = 22

-- the search needs more visits than its budget
abbrev pub budget_spent : ℕ
budget_spent = 30

-- no plan meets the rules
abbrev pub no_plan : ℕ
no_plan = 31

-- a note over 60,000 bytes
abbrev pub note_long : ℕ
note_long = 40

-- verdict 1 without a plan, or 0 with one
abbrev pub verdict_differs : ℕ
verdict_differs = 41

-- a split on a number not below N, or on an operation already placed
abbrev pub split_broken : ℕ
split_broken = 42

-- bit 0 where it is not allowed
abbrev pub close_broken : ℕ
close_broken = 43

-- all placed, and cheaper than the claim or under verdict 0
abbrev pub cheaper : ℕ
cheaper = 44

-- a dossier's lengths do not total its bytes
abbrev pub lengths_differ : ℕ
lengths_differ = 50

-- a dossier over 65,536 bytes
abbrev pub dossier_long : ℕ
dossier_long = 51

-- ---- papers

abbrev pub paper_job : ℕ
paper_job = 0

abbrev pub paper_plan : ℕ
paper_plan = 1

abbrev pub paper_note : ℕ
paper_note = 2

abbrev pub paper_dossier : ℕ
paper_dossier = 3

abbrev pub paper_request : ℕ
paper_request = 4

-- ---- outcomes

abbrev pub outcome_refused : ℕ
outcome_refused = 0

abbrev pub outcome_passed : ℕ
outcome_passed = 1

abbrev pub outcome_found : ℕ
outcome_found = 2

abbrev pub outcome_none : ℕ
outcome_none = 3

abbrev pub outcome_spent : ℕ
outcome_spent = 4

abbrev pub outcome_cheapest : ℕ
outcome_cheapest = 5

abbrev pub outcome_written : ℕ
outcome_written = 6

abbrev pub outcome_read : ℕ
outcome_read = 7
