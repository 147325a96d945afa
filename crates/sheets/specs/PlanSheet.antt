-- The plan sheet: `plan_in` is the record that its bytes spell, `plan_fault` its first fault, `read_plan` the reader's answer;
-- `plan_sheet` is a record's sheet, `write_plan` the writer's answer and `plan_out` what it leaves.
use Rattle.std.specs.Prelude.{ℕ, zero, suc, ◌+◌, ◌*◌, ◌^◌, ◌≡◌, ◌<◌, ◌≤◌, Bool, ◌&&◌, List, [], ◌∷◌, ◌++◌, leb, length, replicate, Result, Ok, Err}
use Rattle.basics.specs.Faults.{◌or_else◌, fault_unless, number_of, paper_of}
use Rattle.basics.specs.Numbers.{outside_limit, record_broken, paper_plan}
use Rattle.basics.specs.Tables.{cell, cells, within, blank}
use Rattle.basics.specs.declared.refusals.Refusal.{Refusal}
use Rattle.bits.specs.Bits.{field}
use Rattle.bits.specs.Sheet.{Field, of, bytes_for, pack, many}
use Rattle.sheets.specs.Limits.{op_cells, inst_cells, plan_form, max_ops, max_insts, max_inst, max_steps, max_select, form_bits, op_bits, inst_count_bits, step_bits, inst_bits, select_bits, n_at, k_at, plan_head, row_bits}
use Rattle.sheets.specs.Answers.{Reading, Read, Unread, Written, written, output}
use Rattle.sheets.specs.Groups.{runs_out, form_fault, fill_fault}
use Rattle.sheets.specs.Columns.{column_at, single, double}
use Rattle.sheets.specs.declared.Plan.{Plan}

-- what the record's types say: the sizes of its tables
pub record PlanShape (p : Plan) : Type 0 where
  pub selection : length p.selection ≡ inst_cells
  pub starts : length p.starts ≡ op_cells
  pub insts : length p.insts ≡ op_cells

-- ---- where each group starts

abbrev pub rows_at : ℕ → ℕ
rows_at k = plan_head + select_bits * k

abbrev pub plan_end : ℕ → ℕ → ℕ
plan_end n k = rows_at k + row_bits * n

-- ---- what the bytes spell

abbrev pub ops_in : List ℕ → ℕ
ops_in s = field s n_at op_bits

abbrev pub insts_in : List ℕ → ℕ
insts_in s = field s k_at inst_count_bits

-- the record of n operations and k instances
unfoldable pub plan_of : List ℕ → ℕ → ℕ → Plan
plan_of s n k =
    record {
      n = n;
      k = k;
      selection = cells (column_at s plan_head select_bits select_bits) k inst_cells;
      starts = cells (column_at s (rows_at k) row_bits step_bits) n op_cells;
      insts = cells (column_at s (rows_at k + step_bits) row_bits inst_bits) n op_cells;
    }

abbrev pub plan_in : List ℕ → Plan
plan_in s = plan_of s (ops_in s) (insts_in s)

-- ---- its first fault, in stream order

unfoldable pub plan_counts_fault : ℕ → ℕ → ℕ
plan_counts_fault n k = fault_unless (leb n max_ops && leb k max_insts) outside_limit

unfoldable pub plan_head_fault : List ℕ → ℕ
plan_head_fault s =
    form_fault s plan_form or_else
    runs_out (length s) plan_head or_else
    plan_counts_fault (ops_in s) (insts_in s)

-- of selection, rows and fill, in a sheet that spells p
unfoldable pub plan_body_fault : List ℕ → Plan → ℕ
plan_body_fault s p = runs_out (length s) (plan_end p.n p.k) or_else fill_fault s (plan_end p.n p.k)

unfoldable pub plan_fault : List ℕ → ℕ
plan_fault s = plan_head_fault s or_else plan_body_fault s (plan_in s)

-- ---- the reader: its answer, and the record, of zeros where the sheet is refused

pub record PlanRead : Type 0 where
  pub answer : Reading
  pub plan : Plan

unfoldable pub no_plan : Plan
no_plan =
    record { n = 0; k = 0; selection = replicate inst_cells 0; starts = replicate op_cells 0; insts = replicate op_cells 0 }

abbrev pub plan_refused : ℕ → PlanRead
plan_refused fault = record { answer = Unread fault paper_plan; plan = no_plan }

-- the code's result
abbrev pub plan_read_of : Result Plan Refusal → PlanRead
plan_read_of (Ok x) = record { answer = Read; plan = x }
plan_read_of (Err r) = record { answer = Unread (number_of r.fault) (paper_of r.paper); plan = no_plan }

-- the answer where the first fault is the one given and the bytes spell p
unfoldable pub plan_answer : ℕ → Plan → PlanRead
plan_answer zero p = record { answer = Read; plan = p }
plan_answer (suc k) p = plan_refused (suc k)

unfoldable pub read_plan : List ℕ → PlanRead
read_plan s = plan_answer (plan_fault s) (plan_in s)

-- ---- a record: its numbers fit their fields, and its unused cells are 0

unfoldable pub plan_fits : Plan → Bool
plan_fits p =
    within p.selection max_select p.k && within p.starts max_steps p.n && within p.insts max_inst p.n
    && blank p.selection p.k && blank p.starts p.n && blank p.insts p.n

unfoldable pub plan_record_fault : Plan → ℕ
plan_record_fault p = plan_counts_fault p.n p.k or_else fault_unless (plan_fits p) record_broken

-- ---- the writer

abbrev pub plan_count_fields : ℕ → ℕ → List Field
plan_count_fields n k = of form_bits plan_form ∷ of op_bits n ∷ of inst_count_bits k ∷ []

abbrev pub plan_fields : Plan → List Field
plan_fields p =
    plan_count_fields p.n p.k
    ++ many (single select_bits p.selection) p.k
    ++ many (double step_bits p.starts inst_bits p.insts 0) p.n

unfoldable pub plan_sheet : Plan → List ℕ
plan_sheet p = pack (plan_fields p)

-- into an output of `room` bytes
unfoldable pub write_plan : Plan → ℕ → Written
write_plan p room = written (plan_record_fault p) paper_plan (bytes_for (plan_end p.n p.k)) room

-- the output's bytes after it, where they were `before`
unfoldable pub plan_out : Plan → List ℕ → List ℕ
plan_out p before = output (write_plan p (length before)) (plan_sheet p) before

-- ---- inside the writer

-- what is asked of a plan before its fields are put: each number fits its field
pub record FieldsFit (p : Plan) : Type 0 where
  pub ops : p.n ≤ max_ops
  pub insts : p.k ≤ max_insts
  pub selection_fit : (i : ℕ) → i < p.k → cell p.selection i < 2 ^ select_bits
  pub starts_fit : (i : ℕ) → i < p.n → cell p.starts i < 2 ^ step_bits
  pub insts_fit : (i : ℕ) → i < p.n → cell p.insts i < 2 ^ inst_bits
