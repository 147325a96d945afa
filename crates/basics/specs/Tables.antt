-- Tables of a record: `cell` reads one, `cells` is a table with unused cells, `within` and `blank` are what is asked of one.
use Rattle.std.specs.Prelude.{◌≡◌, ℕ, zero, suc, ◌<◌, ◌≤◌, Bool, ◌||◌, List, leb, ltb, eqb, length, get_or, set, replicate}
use Rattle.basics.specs.Counting.{all_to}

-- cell i of a table, and 0 past its end
abbrev pub cell : List ℕ → ℕ → ℕ
cell table i = get_or table i 0

-- the table with f 0, f 1, .. f (n - 1) in its first n cells
unfoldable pub filled : List ℕ → (ℕ → ℕ) → ℕ → List ℕ
filled table f zero = table
filled table f (suc n) = set (filled table f n) n (f n)

-- a table of `size` cells: the first n hold f 0, f 1, .. f (n - 1), and the others 0
abbrev pub cells : (ℕ → ℕ) → ℕ → ℕ → List ℕ
cells f n size = filled (replicate size 0) f n

-- cell i is behind the first n, or at most the limit
abbrev pub cell_within : List ℕ → ℕ → ℕ → ℕ → Bool
cell_within table limit n i = leb n i || leb (cell table i) limit

-- the first n cells are at most the limit
unfoldable pub within : List ℕ → ℕ → ℕ → Bool
within table limit n = all_to (cell_within table limit n) (length table)

-- cell i is one of the first n, or 0
abbrev pub cell_blank : List ℕ → ℕ → ℕ → Bool
cell_blank table n i = ltb i n || eqb (cell table i) 0

-- the cells behind the first n are 0
unfoldable pub blank : List ℕ → ℕ → Bool
blank table n = all_to (cell_blank table n) (length table)

-- the table holds in each of its first n cells what `gives` allows there, and 0 in the others
pub record HoldsCells (gives : ℕ → ℕ → Type 0) (n size : ℕ) (table : List ℕ) : Type 0 where
  pub long : length table ≡ size
  pub each : (i : ℕ) → i < n → i < size → gives i (cell table i)
  pub others : (i : ℕ) → n ≤ i → cell table i ≡ 0
