-- The answer of every entry in its six numbers; one that does not belong to the outcome is 0. Beside each kind of answer
-- stands a definition, as `reading_says`, that gives the numbers of each of its cases. `Promise` is that of every entry that
-- has an output.
use Rattle.std.specs.Prelude.{ℕ, ◌≡◌, List}
use Rattle.basics.specs.Numbers.{outcome_refused}
use Rattle.basics.specs.declared.Answer.{Answer}

abbrev pub refused_says : ℕ → ℕ → Answer
refused_says number paper = record { outcome = outcome_refused; number = number; paper = paper; cost = 0; visits = 0; length = 0 }

-- an entry that is to answer `answer` and leave the output at `final`: its answer r, and the output's bytes `after`
pub record Promise {A : Type 0} (answer : A) (final : List ℕ) (r : A) (after : List ℕ) : Type 0 where
  pub told : r ≡ answer
  pub bytes : after ≡ final
