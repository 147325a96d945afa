-- What is asked of a job's numbers, wherever they stand: `job_counts_fault` (3), `link_fault` (4), `type_fault` (5) of a sheet or a
-- record, `job_fits` of a record (7); and `job_record_fault`, the first fault of a record to be written.
use Rattle.std.specs.Prelude.{ℕ, zero, suc, ◌+◌, ◌*◌, ◌^◌, ◌<◌, ◌≡◌, Bool, true, ◌&&◌, ◌||◌, List, ltb, leb, eqb, length}
use Rattle.basics.specs.Counting.{all_to, sum_to}
use Rattle.basics.specs.Faults.{◌or_else◌, fault_unless, first}
use Rattle.basics.specs.Numbers.{outside_limit, link_broken, type_broken, record_broken}
use Rattle.basics.specs.Tables.{cell, within, blank}
use Rattle.sheets.specs.Limits.{op_cells, link_cells, type_cells, max_ops, max_links, max_types, max_copies, max_insts, kind_count, max_kind, max_steps, max_time, pair_cells, cost_bits}
use Rattle.sheets.specs.declared.Job.{Job}

-- what the record's types say: the sizes of its tables, and that a cost has 16 bits
pub record JobShape (j : Job) : Type 0 where
  pub kinds : length j.kinds ≡ op_cells
  pub from : length j.from ≡ link_cells
  pub to : length j.to ≡ link_cells
  pub costs : length j.costs ≡ type_cells
  pub copies : length j.copies ≡ type_cells
  pub times : length j.times ≡ pair_cells
  pub intervals : length j.intervals ≡ pair_cells
  pub cost_bound : (y : ℕ) → cell j.costs y < 2 ^ cost_bits

-- ---- N, E, M and the clock

unfoldable pub job_counts_fault : ℕ → ℕ → ℕ → ℕ → ℕ
job_counts_fault n e m clock =
    fault_unless (leb n max_ops && leb e max_links && leb m max_types && leb 1 clock && leb clock max_time) outside_limit

-- ---- a link (a, b): a < b < N, and links ascend strictly by a, then b

-- link i is behind the one before it
unfoldable pub ascends : List ℕ → List ℕ → ℕ → Bool
ascends from to zero = true
ascends from to (suc i) =
    ltb (cell from i) (cell from (suc i)) || (eqb (cell from i) (cell from (suc i)) && ltb (cell to i) (cell to (suc i)))

unfoldable pub link_fault : List ℕ → List ℕ → ℕ → ℕ → ℕ
link_fault from to n i =
    fault_unless (ltb (cell from i) (cell to i) && ltb (cell to i) n && ascends from to i) link_broken

-- ---- a type: copies 1 to 7, no more than 16 so far; time 0 has interval 0, any other time an interval from 1 to the time

abbrev pub pair_ok : ℕ → ℕ → Bool
pair_ok time interval = (eqb time 0 && eqb interval 0) || (leb 1 interval && leb interval time && leb time max_time)

-- kind k of type y
unfoldable pub pair_sound : List ℕ → List ℕ → ℕ → ℕ → Bool
pair_sound times intervals y k = pair_ok (cell times (kind_count * y + k)) (cell intervals (kind_count * y + k))

abbrev pub copies_ok : List ℕ → ℕ → Bool
copies_ok copies y = leb 1 (cell copies y) && leb (cell copies y) max_copies && leb (sum_to (cell copies) y + cell copies y) max_insts

unfoldable pub type_fault : List ℕ → List ℕ → List ℕ → ℕ → ℕ
type_fault copies times intervals y =
    fault_unless (copies_ok copies y && all_to (pair_sound times intervals y) kind_count) type_broken

-- ---- a record: its numbers fit their fields, and its unused cells are 0

unfoldable pub graph_blank : Job → Bool
graph_blank j = blank j.kinds j.n && blank j.from j.e && blank j.to j.e

unfoldable pub units_blank : Job → Bool
units_blank j =
    blank j.costs j.m && blank j.copies j.m
    && blank j.times (kind_count * j.m) && blank j.intervals (kind_count * j.m)

unfoldable pub job_fits : Job → Bool
job_fits j =
    leb j.t max_steps && leb j.wire max_time && within j.kinds max_kind j.n && graph_blank j && units_blank j

-- ---- the first fault of a record to be written

-- of its links, then of its types
unfoldable pub job_rules_fault : Job → ℕ
job_rules_fault j =
    first (link_fault j.from j.to j.n) j.e or_else
    first (type_fault j.copies j.times j.intervals) j.m

unfoldable pub job_record_fault : Job → ℕ
job_record_fault j =
    job_counts_fault j.n j.e j.m j.clock or_else
    job_rules_fault j or_else
    fault_unless (job_fits j) record_broken
