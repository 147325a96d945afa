-- Tables and the fields that hold them: `column_at` and `pair_at` are what stands in a sheet, `single` and `double` what is written.
use Rattle.std.specs.Prelude.{ℕ, ◌+◌, ◌*◌, ◌/◌, ◌%◌, ◌^◌, ◌<◌, ◌≤◌, List, [], ◌∷◌}
use Rattle.basics.specs.Tables.{cell}
use Rattle.bits.specs.Bits.{field}
use Rattle.bits.specs.Sheet.{Field, of}
use Rattle.sheets.specs.Limits.{kind_count, time_bits, pair_bits, type_bits}

-- a column whose first bit, stride and width are small enough that no position overflows
pub record InReach (at stride w : ℕ) : Type 0 where
  pub at_bound : at < 2 ^ 24
  pub stride_bound : stride < 2 ^ 16
  pub width_bound : w ≤ 16

-- the i-th of fields of w bits, the first at bit `at`, each `stride` bits behind the one before
abbrev pub column_at : List ℕ → ℕ → ℕ → ℕ → ℕ → ℕ
column_at s at stride w i = field s (at + stride * i) w

-- one time or interval for each kind of each type: cell c is that of kind c % kind_count at type c / kind_count
abbrev pub pair_at : List ℕ → ℕ → ℕ → ℕ
pair_at s at c = field s (at + type_bits * (c / kind_count) + pair_bits * (c % kind_count)) time_bits

-- a table's cell i in w bits
abbrev pub single : ℕ → List ℕ → ℕ → List Field
single w table i = of w (cell table i) ∷ []

-- cell `first + i` of two tables, one after the other
abbrev pub double : ℕ → List ℕ → ℕ → List ℕ → ℕ → ℕ → List Field
double w table w' table' first i = of w (cell table (first + i)) ∷ of w' (cell table' (first + i)) ∷ []
