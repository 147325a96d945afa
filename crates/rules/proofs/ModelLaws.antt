-- Laws of the model: what the tables hold.
use Prim.Native.Nat.{ℕ, zero, suc, ◌+◌, ◌-◌, ◌*◌, ◌/◌, ◌%◌, ◌<◌, ◌≤◌, min}
use mathlib.Core.Path.{◌≡◌, refl, sym, ap, ◌∙◌}
use mathlib.Core.List.{List}
use native.Mathlib.Decide.{dec_lt}
use native.Mathlib.Nat.{div-le_of_le-mul, div-eq_of_lt, div-eq_of_lt-le, div-zero, le-div_iff_mul-le}
use native.Mathlib.Omega.{arith}
use borrow.Author.Tests.{le-leb, lt-leb}
use lib.Dec.{leb}
use lib.ListN.{length, get_or-eq_default}
use Rattle.std.specs.Int.{div_ceil}
use Rattle.std.proofs.lemmas.Grind.{div_ceil_times}
use Rattle.basics.specs.Counting.{sum_to, only}
use Rattle.basics.specs.Tables.{cell, cells}
use Rattle.basics.proofs.CountLaws.{sum_to-more, sum_to-below, sum_to-rises}
use Rattle.basics.proofs.TableLaws.{cell-cells, cell-unused, cells-cong, blank-each}
use Rattle.sheets.specs.Limits.{kind_count, inst_cells, op_cells, pair_cells}
use Rattle.sheets.specs.declared.Job.{Job}
use Rattle.sheets.proofs.RecordLaws.{JobSound}
use Rattle.rules.specs.Model.{behind, type_at, types_in, types_of, type_of, span_of, time_of, interval_of, spacing_of, in_steps, steps_at, row_at, row_table, timing_in, unit_cells, unit_at, unit_table, tables_of}
use Rattle.rules.specs.declared.Spans.{Spans}

-- ---- the type of an instance, one type after another

pub none-counted : (copies : List ℕ) → sum_to (cell copies) 0 ≡ 0
unfolding sum_to
none-counted copies = refl

pub more-counted : (copies : List ℕ) (y : ℕ) → sum_to (cell copies) (y + 1) ≡ sum_to (cell copies) y + cell copies y
more-counted copies y = sum_to-more (cell copies) y

pub none-behind : (copies : List ℕ) (i : ℕ) → type_at copies 0 i ≡ 0
unfolding type_at sum_to
none-behind copies i = refl

behind-is : (copies : List ℕ) (i y : ℕ) → behind copies i y ≡ only (leb (sum_to (cell copies) y + cell copies y) i) 1
unfolding behind sum_to
behind-is copies i y = refl

type-more : (copies : List ℕ) (i y : ℕ) → type_at copies (y + 1) i ≡ type_at copies y i + behind copies i y
unfolding type_at
type-more copies i y = sum_to-more (behind copies i) y

pub one-behind : (copies : List ℕ) (i y : ℕ) → sum_to (cell copies) y + cell copies y ≤ i → type_at copies (y + 1) i ≡ type_at copies y i + 1
unfolding only
one-behind copies i y h =
    type-more copies i y ∙ (rw (behind-is copies i y, le-leb (sum_to (cell copies) y + cell copies y) i h) refl)

pub not-behind : (copies : List ℕ) (i y : ℕ) → i < sum_to (cell copies) y + cell copies y → type_at copies (y + 1) i ≡ type_at copies y i
unfolding only
not-behind copies i y h =
    type-more copies i y ∙ (rw (behind-is copies i y, lt-leb (sum_to (cell copies) y + cell copies y) i h) (omega arith))

pub ruleset type_laws = (none-counted, more-counted, none-behind, one-behind, not-behind)

-- ---- instances are numbered type by type

behind-rises : (copies : List ℕ) (i k y : ℕ) → i ≤ k → behind copies i y ≤ behind copies k y
unfolding behind only
behind-rises copies i k y h =
    elim (dec_lt i (sum_to (cell copies) (suc y))) [
      | yes l ↦ rw (lt-leb (sum_to (cell copies) (suc y)) i l) (omega arith)
      | no l ↦ rw (le-leb (sum_to (cell copies) (suc y)) i (omega arith), le-leb (sum_to (cell copies) (suc y)) k (omega arith)) (omega arith)
    ]

type-rises : (copies : List ℕ) (m i k : ℕ) → i ≤ k → type_at copies m i ≤ type_at copies m k
unfolding type_at
type-rises copies m i k h = sum_to-below (behind copies i) (behind copies k) m (λ y l. behind-rises copies i k y h)

pub type-cell : (copies : List ℕ) (m i : ℕ) → i < inst_cells → cell (types_in copies m) i ≡ type_at copies m i
unfolding types_in
type-cell copies m i l = cell-cells (type_at copies m) inst_cells inst_cells i l (omega arith)

pub types-rise : (copies : List ℕ) (m i k : ℕ) → i ≤ k → k < inst_cells → cell (types_in copies m) i ≤ cell (types_in copies m) k
types-rise copies m i k h l = rw (type-cell copies m i (omega arith), type-cell copies m k l) (type-rises copies m i k h)

-- copy c of type y comes behind the copies of the types before it
module _ (copies : List ℕ) (y c : ℕ) (few : c < cell copies y) where
  abbrev place : ℕ
  place = sum_to (cell copies) y + c

  behind-before : (z : ℕ) → z < y → behind copies place z ≡ 1
  unfolding behind only
  behind-before z l = rw (le-leb (sum_to (cell copies) (suc z)) place (omega (arith, sum_to-rises (cell copies) (suc z) y l)))

  behind-after : (z : ℕ) → y ≤ z → behind copies place z ≡ 0
  unfolding behind only sum_to
  behind-after z l = rw (lt-leb (sum_to (cell copies) (suc z)) place (omega (arith, sum_to-rises (cell copies) (suc y) (suc z) (omega arith))))

  behind-count : (m : ℕ) → sum_to (behind copies place) m ≡ min m y
  unfolding sum_to
  behind-count zero = omega arith
  behind-count (suc m) =
      elim (dec_lt m y) [ yes l ↦ omega (arith, behind-count m, behind-before m l) | no l ↦ omega (arith, behind-count m, behind-after m (omega arith)) ]

  pub type-of-copy : (m : ℕ) → y < m → place < inst_cells → cell (types_in copies m) place ≡ y
  unfolding type_at
  type-of-copy m l q = type-cell copies m place q ∙ behind-count m ∙ (omega arith)

-- ---- a quotient rounded up

-- an operation that takes time takes a step
pub some-step : (clock span : ℕ) → 1 ≤ clock → 0 < span → 1 ≤ in_steps clock span
unfolding in_steps
some-step clock span c s = (le-div_iff_mul-le {k = clock} {x = 1} {y = span + (clock - 1)} c).1 (omega arith)

-- document 01's own example
pub rounded-163 : in_steps 55 163 ≡ 3
unfolding in_steps
rounded-163 = refl

pub rounded-small : (a b : ℕ) → (a + (b - 1)) / b ≤ a
rounded-small a zero = omega (arith, div-zero (a + (0 - 1)))
rounded-small zero (suc b) =
    let e : 0 + (suc b - 1) ≡ b = omega arith in
    let d : b / suc b ≡ 0 = div-eq_of_lt (omega arith) in
    rw e (omega arith)
rounded-small (suc a) (suc b) = div-le_of_le-mul (suc b) (omega arith)

-- as the library's `div_ceil` rounds
pub rounded-up : (clock span : ℕ) → 0 < clock → div_ceil span clock ≡ in_steps clock span
unfolding in_steps
rounded-up clock span l =
    let t = div_ceil_times span clock l in sym (div-eq_of_lt-le clock (omega (arith, t.1)) (omega (arith, t.0, l)))

-- where the clock is 0
pub rounded-none : (clock span : ℕ) → clock ≡ 0 → 0 ≡ in_steps clock span
unfolding in_steps
rounded-none clock span e = rw (e, div-zero)

pub in_steps-small : (clock span : ℕ) → in_steps clock span ≤ span
unfolding in_steps
in_steps-small clock span = rounded-small span clock

pub ruleset steps_laws = (rounded-up, rounded-none, in_steps-small)

rounded-some : (a b : ℕ) → 1 ≤ a → 1 ≤ b → 1 ≤ (a + (b - 1)) / b
rounded-some a b l m = (le-div_iff_mul-le m).1 (omega arith)

-- an operation that an instance can do holds it for a step or more
pub able-holds : (j : Job) → JobSound j → (o i : ℕ) → 0 < time_of j o i → 1 ≤ spacing_of j o i
unfolding in_steps
able-holds j sound o i l = rounded-some (interval_of j o i) j.clock (go (dec_lt place (kind_count * j.m))) sound.counts.some
  where
    place : ℕ
    place = kind_count * type_of j i + cell j.kinds o

    unused : kind_count * j.m ≤ place → cell j.times place ≡ 0
    unused q =
        elim (dec_lt place (length j.times)) [
          | yes r ↦ blank-each j.times (kind_count * j.m) sound.unused_times place q r
          | no r ↦ get_or-eq_default j.times 0 (omega arith)
        ]

    go : Dec (place < kind_count * j.m) → 1 ≤ cell j.intervals place
    go (yes q) = (sound.pairs place q).able l
    go (no q) = absurd (omega (arith, unused (omega arith)))

-- ---- a table in steps

-- of a table that a function fills
steps-table : (f : ℕ → ℕ) (clock n : ℕ) (g : ℕ → ℕ) → ((c : ℕ) → g c ≡ in_steps clock (f c)) → cells (steps_at clock (cells f n n)) n n ≡ cells g n n
steps-table f clock n g h =
    cells-cong (steps_at clock (cells f n n)) g n n (λ c l. ap (in_steps clock) (cell-cells f n n c l (omega arith)) ∙ sym (h c))

-- of a table of so many cells, behind which nothing takes any step
steps-cell : (spans : List ℕ) (clock n : ℕ) → length spans ≡ n → (c : ℕ) → cell (cells (steps_at clock spans) n n) c ≡ in_steps clock (cell spans c)
unfolding in_steps
steps-cell spans clock n e c =
    elim (dec_lt c n) [
      | yes l ↦ cell-cells (steps_at clock spans) n n c l (omega arith)
      | no l ↦
          let z : cell spans c ≡ 0 = get_or-eq_default spans 0 (omega arith) in
          let s = rounded-small 0 clock in
          cell-unused (steps_at clock spans) n n c (omega arith) ∙ rw z (omega arith)
    ]

-- ---- what is made of a job

pub timing-is : (types : List ℕ) (clock : ℕ) (kinds times intervals insts : List ℕ) (row_times row_intervals delays spacings : List ℕ)
    → row_times ≡ row_table (span_of types kinds times) insts → row_intervals ≡ row_table (span_of types kinds intervals) insts
    → delays ≡ cells (steps_at clock row_times) op_cells op_cells → spacings ≡ cells (steps_at clock row_intervals) op_cells op_cells
    → ◌≡◌ {A = Spans op_cells} (record { times = row_times; delays = delays; spacings = spacings }) (timing_in types clock kinds times intervals insts)
unfolding timing_in
timing-is types clock kinds times intervals insts row_times row_intervals delays spacings a b d s =
    let d' = d ∙ ap (λ (t : List ℕ). cells (steps_at clock t) op_cells op_cells) a ∙ steps-table (row_at (span_of types kinds times) insts) clock op_cells _ (λ c. refl) in
    let s' = s ∙ ap (λ (t : List ℕ). cells (steps_at clock t) op_cells op_cells) b ∙ steps-table (row_at (span_of types kinds intervals) insts) clock op_cells _ (λ c. refl) in
    λ i. record { times = a i; delays = d' i; spacings = s' i }

-- a table of spans in steps, over spans in steps
unit-steps : (types kinds pairs : List ℕ) (clock : ℕ) (f : ℕ → ℕ → ℕ) → length pairs ≡ pair_cells → ((o i : ℕ) → f o i ≡ in_steps clock (span_of types kinds pairs o i))
    → unit_table (span_of types kinds (cells (steps_at clock pairs) pair_cells pair_cells)) ≡ unit_table f
unit-steps types kinds pairs clock f e h =
    cells-cong _ (unit_at f) unit_cells unit_cells (λ c l. steps-cell pairs clock pair_cells e _ ∙ sym (h (c / inst_cells) (c % inst_cells)))

pub tables-are : (j : Job) (types delays spacings times' delays' spacings' : List ℕ)
    → length j.times ≡ pair_cells → length j.intervals ≡ pair_cells
    → types ≡ types_of j
    → delays ≡ cells (steps_at j.clock j.times) pair_cells pair_cells → spacings ≡ cells (steps_at j.clock j.intervals) pair_cells pair_cells
    → times' ≡ unit_table (span_of types j.kinds j.times) → delays' ≡ unit_table (span_of types j.kinds delays) → spacings' ≡ unit_table (span_of types j.kinds spacings)
    → ◌≡◌ {A = Spans unit_cells} (record { times = times'; delays = delays'; spacings = spacings' }) (tables_of j)
unfolding tables_of
tables-are j types delays spacings times' delays' spacings' lt li t d s et ed es =
    let t' = rw t at et in
    let d' = (rw (t, d) at ed) ∙ unit-steps (types_of j) j.kinds j.times j.clock _ lt (λ o i. refl) in
    let s' = (rw (t, s) at es) ∙ unit-steps (types_of j) j.kinds j.intervals j.clock _ li (λ o i. refl) in
    λ i. record { times = t' i; delays = d' i; spacings = s' i }

-- a table over every operation and instance, read
pub unit-cell : (f : ℕ → ℕ → ℕ) (o i : ℕ) → o < op_cells → i < inst_cells → cell (unit_table f) (inst_cells * o + i) ≡ f o i
unit-cell f o i lo li =
    let q : (inst_cells * o + i) / inst_cells ≡ o = omega arith in
    let r : (inst_cells * o + i) % inst_cells ≡ i = omega arith in
    cell-cells (unit_at f) unit_cells unit_cells (inst_cells * o + i) (omega arith) (omega arith) ∙ rw (q, r)
