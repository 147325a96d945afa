-- The answers of readers and writers: which case the code's result is (`reading_of`, `written_of`), what each case says in
-- numbers (`reading_says`, `written_says`), which case a writer gives (`written`), and the bytes that it leaves (`output`).
use Rattle.std.specs.Prelude.{ℕ, zero, suc, Bool, true, false, List, ◌++◌, leb, drop, Result, Ok, Err}
use Rattle.basics.specs.Answers.{refused_says}
use Rattle.basics.specs.Faults.{number_of, paper_of}
use Rattle.basics.specs.Numbers.{output_short, paper_request, outcome_read, outcome_written}
use Rattle.basics.specs.declared.Answer.{Answer}
use Rattle.basics.specs.declared.refusals.Refusal.{Refusal}

-- a reader's answer, which stands beside the record: read, or refused by a number, with the paper at fault
pub data Reading : Type 0 where
  Read : Reading
  Unread : (number paper : ℕ) → Reading

-- a writer's answer: written, a sheet of so many bytes, or refused
pub data Written : Type 0 where
  Wrote : (size : ℕ) → Written
  Refused : (number paper : ℕ) → Written

-- ---- the code's results

abbrev pub reading_of : {A : Type 0} → Result A Refusal → Reading
reading_of (Ok x) = Read
reading_of (Err r) = Unread (number_of r.fault) (paper_of r.paper)

abbrev pub written_of : Result ℕ Refusal → Written
written_of (Ok size) = Wrote size
written_of (Err r) = Refused (number_of r.fault) (paper_of r.paper)

-- ---- each case in its numbers

abbrev pub reading_says : Reading → Answer
reading_says Read = record { outcome = outcome_read; number = 0; paper = 0; cost = 0; visits = 0; length = 0 }
reading_says (Unread number paper) = refused_says number paper

abbrev pub written_says : Written → Answer
written_says (Wrote size) = record { outcome = outcome_written; number = 0; paper = 0; cost = 0; visits = 0; length = size }
written_says (Refused number paper) = refused_says number paper

-- ---- the case that a writer gives: a fault's number is its first, 0 being none

unfoldable pub if_room : Bool → ℕ → Written
if_room true size = Wrote size
if_room false size = Refused output_short paper_request

-- the record's fault, then whether the output's `room` bytes hold the sheet's `size`
unfoldable pub written : ℕ → ℕ → ℕ → ℕ → Written
written zero paper size room = if_room (leb size room) size
written (suc k) paper size room = Refused (suc k) paper

-- the output's bytes after it: the sheet and what stood behind it, or all as it was
unfoldable pub output : Written → List ℕ → List ℕ → List ℕ
output (Wrote size) sheet out = sheet ++ drop size out
output (Refused k paper) sheet out = out
