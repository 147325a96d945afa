-- The line that the program writes: `line` of an answer, in bytes. Numbers are decimal, with no zero in front.
use Rattle.std.specs.Prelude.{ℕ, List, ◌++◌, codes, decimal}
use Rattle.notes.specs.Check.{Checked, Cheapest, Nothing, Refused}

unfoldable pub line : Checked → List ℕ
line (Cheapest cost) = codes "cheapest " ++ decimal cost ++ codes "\n"
line Nothing = codes "none\n"
line (Refused number paper) = codes "refused " ++ (decimal paper ++ (codes " " ++ (decimal number ++ codes "\n")))

-- ---- how long it is

-- the most digits that a number of 32 bits has
abbrev pub most_digits : ℕ
most_digits = 10

-- the program's room for a line
abbrev pub line_bytes : ℕ
line_bytes = 32
