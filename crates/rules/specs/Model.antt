-- What a job says of its instances, which are numbered type by type: `inst_count` is K, `types_of` their types; `time_of`,
-- `delay_of` and `spacing_of` are an operation's on an instance, `timing_of` has those of a plan's rows, `tables_of` all of them.
use Rattle.std.specs.Prelude.{ℕ, suc, ◌+◌, ◌-◌, ◌*◌, ◌/◌, ◌%◌, List, leb}
use Rattle.basics.specs.Counting.{sum_to, only}
use Rattle.basics.specs.Tables.{cell, cells}
use Rattle.sheets.specs.Limits.{kind_count, inst_cells, op_cells}
use Rattle.sheets.specs.declared.Job.{Job}
use Rattle.rules.specs.declared.Spans.{Spans}

-- ---- instances

abbrev pub inst_count : Job → ℕ
inst_count j = sum_to (cell j.copies) j.m

-- 1 where instance i is behind every instance of type y, else 0
unfoldable pub behind : List ℕ → ℕ → ℕ → ℕ
behind copies i y = only (leb (sum_to (cell copies) (suc y)) i) 1

-- the type of instance i, where there are m types: how many of them it is behind
unfoldable pub type_at : List ℕ → ℕ → ℕ → ℕ
type_at copies m i = sum_to (behind copies i) m

-- the types of all instances
unfoldable pub types_in : List ℕ → ℕ → List ℕ
types_in copies m = cells (type_at copies m) inst_cells inst_cells

abbrev pub types_of : Job → List ℕ
types_of j = types_in j.copies j.m

abbrev pub type_of : Job → ℕ → ℕ
type_of j i = cell (types_of j) i

-- ---- what operation o takes on instance i

-- out of `pairs`, the times or the intervals of each kind at each type
abbrev pub span_of : List ℕ → List ℕ → List ℕ → ℕ → ℕ → ℕ
span_of types kinds pairs o i = cell pairs (kind_count * cell types i + cell kinds o)

-- its time in ns, 0 where the instance cannot do it
abbrev pub time_of : Job → ℕ → ℕ → ℕ
time_of j o i = span_of (types_of j) j.kinds j.times o i

abbrev pub interval_of : Job → ℕ → ℕ → ℕ
interval_of j o i = span_of (types_of j) j.kinds j.intervals o i

-- a span of ns in steps of the clock: their quotient, rounded up
unfoldable pub in_steps : ℕ → ℕ → ℕ
in_steps clock span = (span + (clock - 1)) / clock

-- of operation o on instance i; of cell c in a table of spans
abbrev pub steps_of : ℕ → (ℕ → ℕ → ℕ) → ℕ → ℕ → ℕ
steps_of clock span o i = in_steps clock (span o i)

abbrev pub steps_at : ℕ → List ℕ → ℕ → ℕ
steps_at clock spans c = in_steps clock (cell spans c)

-- operation o's delay on instance i, and its spacing
abbrev pub delay_of : Job → ℕ → ℕ → ℕ
delay_of j o i = steps_of j.clock (time_of j) o i

abbrev pub spacing_of : Job → ℕ → ℕ → ℕ
spacing_of j o i = steps_of j.clock (interval_of j) o i

-- ---- the same for every operation on the instance that a row gives it

-- cell o of a table of `of o i`
abbrev pub row_at : (ℕ → ℕ → ℕ) → List ℕ → ℕ → ℕ
row_at of insts o = of o (cell insts o)

abbrev pub row_table : (ℕ → ℕ → ℕ) → List ℕ → List ℕ
row_table of insts = cells (row_at of insts) op_cells op_cells

-- times, delays and spacings
unfoldable pub timing_in : List ℕ → ℕ → List ℕ → List ℕ → List ℕ → List ℕ → Spans op_cells
timing_in types clock kinds times intervals insts =
    record {
      times = row_table (span_of types kinds times) insts;
      delays = row_table (steps_of clock (span_of types kinds times)) insts;
      spacings = row_table (steps_of clock (span_of types kinds intervals)) insts;
    }

abbrev pub timing_of : Job → List ℕ → Spans op_cells
timing_of j insts = timing_in (types_of j) j.clock j.kinds j.times j.intervals insts

-- ---- the same for every operation on every instance: operation o on instance i has cell inst_cells * o + i (`unit-cell`)

abbrev pub unit_cells : ℕ
unit_cells = op_cells * inst_cells

-- cell c of a table of `of o i`
abbrev pub unit_at : (ℕ → ℕ → ℕ) → ℕ → ℕ
unit_at of c = of (c / inst_cells) (c % inst_cells)

abbrev pub unit_table : (ℕ → ℕ → ℕ) → List ℕ
unit_table of = cells (unit_at of) unit_cells unit_cells

unfoldable pub tables_of : Job → Spans unit_cells
tables_of j = record { times = unit_table (time_of j); delays = unit_table (delay_of j); spacings = unit_table (spacing_of j) }
