-- The job sheet: `job_in` is the record that its bytes spell, `job_fault` its first fault, `read_job` the reader's answer;
-- `job_sheet` is a record's sheet, `write_job` the writer's answer and `job_out` what it leaves.
use Rattle.std.specs.Prelude.{ℕ, zero, suc, ◌+◌, ◌*◌, ◌^◌, ◌<◌, ◌≤◌, List, [], ◌∷◌, ◌++◌, length, replicate, Result, Ok, Err}
use Rattle.basics.specs.Faults.{◌or_else◌, first, number_of, paper_of}
use Rattle.basics.specs.Numbers.{paper_job}
use Rattle.basics.specs.Tables.{cell, cells}
use Rattle.basics.specs.declared.refusals.Refusal.{Refusal}
use Rattle.bits.specs.Bits.{field}
use Rattle.bits.specs.Sheet.{Field, of, bytes_for, pack, many}
use Rattle.sheets.specs.Limits.{max_ops, max_links, max_types, max_steps, max_time, op_cells, link_cells, type_cells, job_form, pair_cells, kind_count, form_bits, op_bits, link_count_bits, type_count_bits, step_bits, time_bits, kind_bits, cost_bits, copies_bits, n_at, e_at, m_at, t_at, clock_at, wire_at, job_head, link_bits, type_head, type_bits}
use Rattle.sheets.specs.Answers.{Reading, Read, Unread, Written, written, output}
use Rattle.sheets.specs.Groups.{runs_out, form_fault, fill_fault}
use Rattle.sheets.specs.Columns.{column_at, pair_at, single, double}
use Rattle.sheets.specs.JobRecord.{job_counts_fault, link_fault, type_fault, job_record_fault}
use Rattle.sheets.specs.declared.Job.{Job}

-- ---- where each group starts

abbrev pub links_at : ℕ → ℕ
links_at n = job_head + kind_bits * n

abbrev pub types_at : ℕ → ℕ → ℕ
types_at n e = links_at n + link_bits * e

abbrev pub job_end : ℕ → ℕ → ℕ → ℕ
job_end n e m = types_at n e + type_bits * m

-- ---- what the bytes spell

abbrev pub n_in : List ℕ → ℕ
n_in s = field s n_at op_bits

abbrev pub e_in : List ℕ → ℕ
e_in s = field s e_at link_count_bits

abbrev pub m_in : List ℕ → ℕ
m_in s = field s m_at type_count_bits

abbrev pub clock_in : List ℕ → ℕ
clock_in s = field s clock_at time_bits

-- the record of n operations, e links and m types
unfoldable pub job_of : List ℕ → ℕ → ℕ → ℕ → Job
job_of s n e m =
    record {
      n = n;
      e = e;
      m = m;
      t = field s t_at step_bits;
      clock = clock_in s;
      wire = field s wire_at time_bits;
      kinds = cells (column_at s job_head kind_bits kind_bits) n op_cells;
      from = cells (column_at s (links_at n) link_bits op_bits) e link_cells;
      to = cells (column_at s (links_at n + op_bits) link_bits op_bits) e link_cells;
      costs = cells (column_at s (types_at n e) type_bits cost_bits) m type_cells;
      copies = cells (column_at s (types_at n e + cost_bits) type_bits copies_bits) m type_cells;
      times = cells (pair_at s (types_at n e + type_head)) (kind_count * m) pair_cells;
      intervals = cells (pair_at s (types_at n e + type_head + time_bits)) (kind_count * m) pair_cells;
    }

abbrev pub job_in : List ℕ → Job
job_in s = job_of s (n_in s) (e_in s) (m_in s)

-- ---- its first fault, in stream order

unfoldable pub job_head_fault : List ℕ → ℕ
job_head_fault s =
    form_fault s job_form or_else
    runs_out (length s) job_head or_else
    job_counts_fault (n_in s) (e_in s) (m_in s) (clock_in s)

unfoldable pub link_group : ℕ → List ℕ → List ℕ → ℕ → ℕ → ℕ
link_group bytes from to n i = runs_out bytes (links_at n + link_bits * (i + 1)) or_else link_fault from to n i

unfoldable pub type_group : ℕ → ℕ → List ℕ → List ℕ → List ℕ → ℕ → ℕ
type_group bytes at copies times intervals y = runs_out bytes (at + type_bits * (y + 1)) or_else type_fault copies times intervals y

-- of links, then of types
unfoldable pub job_tables_fault : ℕ → Job → ℕ
job_tables_fault bytes j =
    first (link_group bytes j.from j.to j.n) j.e or_else
    first (type_group bytes (types_at j.n j.e) j.copies j.times j.intervals) j.m

-- of kinds, links, types and fill, in a sheet that spells j
unfoldable pub job_body_fault : List ℕ → Job → ℕ
job_body_fault s j =
    runs_out (length s) (links_at j.n) or_else
    job_tables_fault (length s) j or_else
    fill_fault s (job_end j.n j.e j.m)

unfoldable pub job_fault : List ℕ → ℕ
job_fault s = job_head_fault s or_else job_body_fault s (job_in s)

-- ---- the reader: its answer, and the record, of zeros where the sheet is refused

pub record JobRead : Type 0 where
  pub answer : Reading
  pub job : Job

unfoldable pub no_job : Job
no_job =
    record {
      n = 0;
      e = 0;
      m = 0;
      t = 0;
      clock = 0;
      wire = 0;
      kinds = replicate op_cells 0;
      from = replicate link_cells 0;
      to = replicate link_cells 0;
      costs = replicate type_cells 0;
      copies = replicate type_cells 0;
      times = replicate pair_cells 0;
      intervals = replicate pair_cells 0;
    }

abbrev pub job_refused : ℕ → JobRead
job_refused fault = record { answer = Unread fault paper_job; job = no_job }

-- the code's result
abbrev pub job_read_of : Result Job Refusal → JobRead
job_read_of (Ok x) = record { answer = Read; job = x }
job_read_of (Err r) = record { answer = Unread (number_of r.fault) (paper_of r.paper); job = no_job }

-- the answer where the first fault is the one given and the bytes spell j
unfoldable pub job_answer : ℕ → Job → JobRead
job_answer zero j = record { answer = Read; job = j }
job_answer (suc k) j = job_refused (suc k)

unfoldable pub read_job : List ℕ → JobRead
read_job s = job_answer (job_fault s) (job_in s)

-- ---- the writer

abbrev pub job_count_fields : ℕ → ℕ → ℕ → List Field
job_count_fields n e m = of form_bits job_form ∷ of op_bits n ∷ of link_count_bits e ∷ of type_count_bits m ∷ []

abbrev pub job_time_fields : ℕ → ℕ → ℕ → List Field
job_time_fields t clock wire = of step_bits t ∷ of time_bits clock ∷ of time_bits wire ∷ []

abbrev pub job_head_fields : Job → List Field
job_head_fields j = job_count_fields j.n j.e j.m ++ job_time_fields j.t j.clock j.wire

unfoldable pub type_fields : List ℕ → List ℕ → List ℕ → List ℕ → ℕ → List Field
type_fields costs copies times intervals y =
    of cost_bits (cell costs y) ∷ of copies_bits (cell copies y) ∷ many (double time_bits times time_bits intervals (kind_count * y)) kind_count

abbrev pub graph_fields : Job → List Field
graph_fields j = many (single kind_bits j.kinds) j.n ++ many (double op_bits j.from op_bits j.to 0) j.e

abbrev pub unit_fields : Job → List Field
unit_fields j = many (type_fields j.costs j.copies j.times j.intervals) j.m

abbrev pub job_fields : Job → List Field
job_fields j = job_head_fields j ++ graph_fields j ++ unit_fields j

unfoldable pub job_sheet : Job → List ℕ
job_sheet j = pack (job_fields j)

-- into an output of `room` bytes
unfoldable pub write_job : Job → ℕ → Written
write_job j room = written (job_record_fault j) paper_job (bytes_for (job_end j.n j.e j.m)) room

-- the output's bytes after it, where they were `before`
unfoldable pub job_out : Job → List ℕ → List ℕ
job_out j before = output (write_job j (length before)) (job_sheet j) before

-- ---- inside the writer

-- what is asked of a job before its fields are put: each number fits its field
pub record FieldsFit (j : Job) : Type 0 where
  pub ops : j.n ≤ max_ops
  pub links : j.e ≤ max_links
  pub types : j.m ≤ max_types
  pub steps : j.t ≤ max_steps
  pub clock : j.clock ≤ max_time
  pub wire : j.wire ≤ max_time
  pub kinds_fit : (i : ℕ) → i < j.n → cell j.kinds i < 2 ^ kind_bits
  pub from_fit : (i : ℕ) → i < j.e → cell j.from i < 2 ^ op_bits
  pub to_fit : (i : ℕ) → i < j.e → cell j.to i < 2 ^ op_bits
  pub copies_fit : (y : ℕ) → y < j.m → cell j.copies y < 2 ^ copies_bits
  pub times_fit : (c : ℕ) → c < kind_count * j.m → cell j.times c < 2 ^ time_bits
  pub intervals_fit : (c : ℕ) → c < kind_count * j.m → cell j.intervals c < 2 ^ time_bits
