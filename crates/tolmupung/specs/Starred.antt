-- The starred cases of document 01 ("Sheets tried by hand"), one table: what is asked of an entry for C, in bytes, what it
-- answers and the output's bytes after it. `Hold` is the one statement about them.
use Rattle.std.specs.Prelude.{ℕ, ◌≡◌, List, [], ◌∷◌, ◌++◌, length, replicate}
use Rattle.basics.specs.Answers.{refused_says}
use Rattle.basics.specs.Numbers.{paper_job, paper_plan, paper_request, outcome_passed, outcome_found, outcome_none, outcome_spent, counts_differ, order_broken, resource_broken, chain_broken, budget_spent, no_plan}
use Rattle.basics.specs.declared.Answer.{Answer}
use Rattle.rules.specs.Judge.{judge, judged_says}
use Rattle.search.specs.Search.{search as search_of, search_out, searched_says}

-- ---- what is asked, what the entry's definition answers, and the whole output after it

-- judging: job and plan; searching: job, budget and the output's bytes before
pub data Request : Type 0 where
  judging : List ℕ → List ℕ → Request
  searching : List ℕ → ℕ → List ℕ → Request

abbrev pub answer_to : Request → Answer
answer_to (judging job plan) = judged_says (judge job plan)
answer_to (searching job budget before) = searched_says (search_of job budget (length before))

-- judging has no output
abbrev pub written_for : Request → List ℕ
written_for (judging job plan) = []
written_for (searching job budget before) = search_out job budget before

pub record Case : Type 0 where
  pub number : ℕ
  pub request : Request
  pub answer : Answer
  pub output : List ℕ

-- every case comes out as the table says
abbrev pub Hold : List Case → Type 0
Hold [] = Unit {0}
Hold (case ∷ cases) = (answer_to case.request ≡ case.answer) × (written_for case.request ≡ case.output) × Hold cases

abbrev pub passed_at : ℕ → Answer
passed_at cost = record { outcome = outcome_passed; number = 0; paper = 0; cost = cost; visits = 0; length = 0 }

abbrev pub refused_by : ℕ → Answer
refused_by number = refused_says number paper_plan

abbrev pub found_at : ℕ → ℕ → ℕ → Answer
found_at cost visits size = record { outcome = outcome_found; number = 0; paper = 0; cost = cost; visits = visits; length = size }

abbrev pub none_after : ℕ → Answer
none_after visits = record { outcome = outcome_none; number = no_plan; paper = paper_job; cost = 0; visits = visits; length = 0 }

abbrev pub spent_at : ℕ → Answer
spent_at visits = record { outcome = outcome_spent; number = budget_spent; paper = paper_request; cost = 0; visits = visits; length = 0 }

-- ---- job sheets

-- job P but for its first six bytes (N 3, E 2, M 2, deadline, clock 100, wire, operation 0's kind) and the multiplier's time
-- and interval
abbrev pub like_p : List ℕ → List ℕ → List ℕ
like_p head multiply =
    head ++ (0x20 ∷ 0x02 ∷ 0x08 ∷ 0x80 ∷ 0x02 ∷ 0x90 ∷ 0x50 ∷ 0x14 ∷ [])
    ++ replicate 19 0x00 ++ (0xf1 ∷ 0x00 ∷ 0x00 ∷ []) ++ multiply ++ replicate 15 0x00

abbrev pub job_p : List ℕ
job_p = like_p (0x11 ∷ 0x82 ∷ 0x21 ∷ 0x8c ∷ 0x80 ∷ 0x29 ∷ []) (0x01 ∷ 0x68 ∷ 0x5a ∷ [])

-- T 2; then multiply 55/55 too; then wire 6 too
abbrev pub hasty_p : List ℕ
hasty_p = like_p (0x11 ∷ 0x82 ∷ 0x21 ∷ 0x0c ∷ 0x80 ∷ 0x29 ∷ []) (0x01 ∷ 0x68 ∷ 0x5a ∷ [])

abbrev pub short_p : List ℕ
short_p = like_p (0x11 ∷ 0x82 ∷ 0x21 ∷ 0x0c ∷ 0x80 ∷ 0x29 ∷ []) (0x00 ∷ 0xdc ∷ 0x37 ∷ [])

abbrev pub wired_p : List ℕ
wired_p = like_p (0x11 ∷ 0x82 ∷ 0x21 ∷ 0x0c ∷ 0x80 ∷ 0x31 ∷ []) (0x00 ∷ 0xdc ∷ 0x37 ∷ [])

-- one unit (cost 10), clock 100, T 4, no links: operation 0 adds, 100/100, operation 1 multiplies, 300/300
abbrev pub one_unit : List ℕ
one_unit =
    0x11 ∷ 0x00 ∷ 0x12 ∷ 0x0c ∷ 0x80 ∷ 0x00 ∷ 0x20 ∷ 0x01 ∷ 0x44 ∷ 0x64 ∷ 0x19 ∷ 0x12 ∷ 0xc4 ∷ 0xb0
    ∷ replicate 15 0x00

-- no operations, no types, T 0, clock 1
abbrev pub no_ops : List ℕ
no_ops = 0x10 ∷ 0x00 ∷ 0x00 ∷ 0x00 ∷ 0x20 ∷ 0x00 ∷ []

-- one operation, T 0; one unit that can do it (cost 10, 100/100), clock 100
abbrev pub no_steps : List ℕ
no_steps = 0x10 ∷ 0x80 ∷ 0x10 ∷ 0x0c ∷ 0x80 ∷ 0x00 ∷ 0x00 ∷ 0x0a ∷ 0x23 ∷ 0x20 ∷ 0xc8 ∷ replicate 18 0x00

-- ---- plan sheets

-- selection 0 1 1, rows (1,2) (2,2) (3,1)
abbrev pub plan1 : List ℕ
plan1 = 0x21 ∷ 0x8d ∷ 0x84 ∷ 0x84 ∷ 0x43 ∷ 0x10 ∷ []

-- the same with selection 1 0 1
abbrev pub plan4 : List ℕ
plan4 = 0x21 ∷ 0x8e ∷ 0x84 ∷ 0x84 ∷ 0x43 ∷ 0x10 ∷ []

-- K 3, selection 0 1 1, no rows
abbrev pub plan5 : List ℕ
plan5 = 0x20 ∷ 0x0d ∷ 0x80 ∷ []

-- selection 0 1 1, rows (1,2) (2,2) (2,1)
abbrev pub plan6 : List ℕ
plan6 = 0x21 ∷ 0x8d ∷ 0x84 ∷ 0x84 ∷ 0x42 ∷ 0x10 ∷ []

-- selection 1: the multiply at 1 and the add at 2; the add at 1 and the multiply at 2
abbrev pub multiply_first : List ℕ
multiply_first = 0x21 ∷ 0x06 ∷ 0x20 ∷ 0x08 ∷ 0x00 ∷ []

abbrev pub add_first : List ℕ
add_first = 0x21 ∷ 0x06 ∷ 0x10 ∷ 0x10 ∷ 0x00 ∷ []

-- N 0, K 0
abbrev pub plan9 : List ℕ
plan9 = 0x20 ∷ 0x00 ∷ []

-- ---- the table

-- what stands in the output before a search: a byte more than the longest sheet written there
abbrev pub unwritten : List ℕ
unwritten = replicate 7 0xff

abbrev pub starred : List Case
starred =
    record { number = 1; request = judging job_p plan1; answer = passed_at 40; output = [] }
    ∷ record { number = 1; request = searching job_p 14 unwritten; answer = found_at 40 14 6; output = plan1 ++ replicate 1 0xff }
    ∷ record { number = 2; request = searching job_p 13 unwritten; answer = spent_at 13; output = unwritten }
    ∷ record { number = 2; request = searching job_p 0 unwritten; answer = spent_at 0; output = unwritten }
    ∷ record { number = 3; request = searching hasty_p 5 unwritten; answer = none_after 5; output = unwritten }
    ∷ record { number = 4; request = judging job_p plan4; answer = refused_by order_broken; output = [] }
    ∷ record { number = 5; request = judging job_p plan5; answer = refused_by counts_differ; output = [] }
    ∷ record { number = 6; request = judging short_p plan6; answer = passed_at 40; output = [] }
    ∷ record { number = 7; request = judging wired_p plan6; answer = refused_by chain_broken; output = [] }
    ∷ record { number = 8; request = judging one_unit multiply_first; answer = refused_by resource_broken; output = [] }
    ∷ record { number = 8; request = judging one_unit add_first; answer = passed_at 10; output = [] }
    ∷ record { number = 9; request = searching no_ops 1 unwritten; answer = found_at 0 1 2; output = plan9 ++ replicate 5 0xff }
    ∷ record { number = 10; request = searching no_steps 1 unwritten; answer = none_after 1; output = unwritten }
    ∷ []
