-- Reading and writing a job's sheet undo each other: `job-read-written`, `job-written-read`; and so of the entries'
-- promises: `job-read-output`, `job-write-input`.
use Prim.Native.Nat.{ℕ, zero, suc, ◌+◌, ◌*◌, ◌/◌, ◌%◌, ◌^◌, ◌≤◌, ◌<◌}
use mathlib.Core.Path.{◌≡◌, refl, sym, ap, subst, ◌∙◌}
use mathlib.Core.Bool.{true}
use mathlib.Core.List.{List, ◌++◌}
use native.Mathlib.Decide.{dec_lt}
use native.Mathlib.Omega.{arith}
use borrow.Author.Tests.{le-leb}
use lib.ListN.{length, take, drop}
use Rattle.basics.specs.Answers.{Promise}
use Rattle.basics.specs.Numbers.{paper_job, record_broken}
use Rattle.basics.specs.Tables.{cell, cells}
use Rattle.basics.proofs.CountLaws.{both-and}
use Rattle.basics.proofs.FaultLaws.{or_else-none, none-or_else, none-unless, or_else-go}
use Rattle.basics.proofs.TableLaws.{cell-cells, cell-unused, cells-cong, cells-blank, blank-cells, each_within}
use Rattle.bits.specs.Bits.{Bytes, field}
use Rattle.bits.specs.Sheet.{Field, total, bytes_for, fill, pack, many}
use Rattle.bits.proofs.FieldLaws.{field_lt}
use Rattle.bits.proofs.SheetLaws.{Holds, holds-pack, pack-holds, fill-pack, length-pack, holds-append, append-holds, holds-many, many-holds}
use Rattle.sheets.specs.Limits.{form_bits, op_cells, link_cells, type_cells, job_form, pair_cells, kind_count, max_kind, max_steps, max_time, op_bits, step_bits, time_bits, kind_bits, cost_bits, copies_bits, t_at, wire_at, job_head, link_bits, pair_bits, type_head, type_bits}
use Rattle.sheets.specs.Columns.{column_at, pair_at, single, double}
use Rattle.sheets.specs.JobRecord.{JobShape, graph_blank, units_blank, job_fits, job_record_fault}
use Rattle.sheets.specs.Answers.{Read, Unread, Written, Wrote}
use Rattle.sheets.specs.JobSheet.{JobRead, links_at, types_at, job_end, n_in, e_in, m_in, clock_in, job_of, job_in, job_head_fault, job_body_fault, job_fault, job_answer, read_job, type_fields, graph_fields, unit_fields, job_fields, job_sheet, write_job, job_out}
use Rattle.sheets.specs.declared.Job.{Job}
use Rattle.sheets.proofs.GroupLaws.{whole-none, form-none, none-form, fill_none, none-fill}
use Rattle.sheets.proofs.ColumnLaws.{total-double, read-single, read-double, read-double', single-read, double-read}
use Rattle.sheets.proofs.AnswerLaws.{wrote-sheet, sheet-wrote}
use Rattle.sheets.proofs.JobLaws.{Counts, head-counts, job-head}
use Rattle.sheets.proofs.RecordLaws.{JobSound, none-record, tables-rules}
use Rattle.sheets.proofs.JobFieldLaws.{total-type, total-kinds, total_graph, total-job, fields-fit, fit-job}

sheet-length : (j : Job) → length (job_sheet j) ≡ bytes_for (job_end j.n j.e j.m)
unfolding job_sheet
sheet-length j = length-pack (job_fields j) ∙ ap (λ (k : ℕ). bytes_for k) (total-job j)

-- the fields of a sheet that spells j, from the header on
record Spelt (s : List ℕ) (j : Job) : Type 0 where
  form : field s 0 form_bits ≡ job_form
  ops : n_in s ≡ j.n
  links : e_in s ≡ j.e
  types : m_in s ≡ j.m
  steps : field s t_at step_bits ≡ j.t
  clock : clock_in s ≡ j.clock
  wire : field s wire_at time_bits ≡ j.wire
  tables : Holds s job_head (graph_fields j ++ unit_fields j)

-- ---- what is read of a record's sheet

module _ (j : Job) (t : JobShape j) (z : job_record_fault j ≡ 0) where
  sound : JobSound j
  sound = none-record j z

  held : Spelt (job_sheet j) j
  unfolding job_sheet Holds
  held =
      let h = holds-pack (job_fields j) (fit-job j (fields-fit j sound) t.cost_bound) in
      record {
        form = h.0;
        ops = h.1.0;
        links = h.1.1.0;
        types = h.1.1.1.0;
        steps = h.1.1.1.1.0;
        clock = h.1.1.1.1.1.0;
        wire = h.1.1.1.1.1.1.0;
        tables = h.1.1.1.1.1.1.1;
      }

  -- kinds, links and types, each where it starts
  graph-units : Holds (job_sheet j) job_head (graph_fields j) × Holds (job_sheet j) (types_at j.n j.e) (unit_fields j)
  unfolding Holds
  graph-units =
      let r = holds-append (job_sheet j) job_head (graph_fields j) (unit_fields j) held.tables in
      let e : job_head + total (graph_fields j) ≡ types_at j.n j.e = omega (arith, total_graph j) in
      (r.0, subst (λ (k : ℕ). Holds (job_sheet j) k (unit_fields j)) e r.1)

  kinds-links : Holds (job_sheet j) job_head (many (single kind_bits j.kinds) j.n)
      × Holds (job_sheet j) (links_at j.n) (many (double op_bits j.from op_bits j.to 0) j.e)
  kinds-links =
      let links : List Field = many (double op_bits j.from op_bits j.to 0) j.e in
      let r = holds-append (job_sheet j) job_head (many (single kind_bits j.kinds) j.n) links graph-units.0 in
      (r.0, subst (λ (k : ℕ). Holds (job_sheet j) (job_head + k) links) (total-kinds j) r.1)

  -- type y, and kind k of it
  type-there : (y : ℕ) → y < j.m → Holds (job_sheet j) (types_at j.n j.e + type_bits * y) (type_fields j.costs j.copies j.times j.intervals y)
  type-there y l =
      holds-many (type_fields j.costs j.copies j.times j.intervals) type_bits (total-type j.costs j.copies j.times j.intervals)
      (job_sheet j) (types_at j.n j.e) j.m graph-units.1 y l

  pair-there : (y k : ℕ) → y < j.m → k < kind_count
      → Holds (job_sheet j) (types_at j.n j.e + type_bits * y + cost_bits + copies_bits + pair_bits * k) (double time_bits j.times time_bits j.intervals (kind_count * y) k)
  unfolding type_fields Holds
  pair-there y k l m =
      holds-many (double time_bits j.times time_bits j.intervals (kind_count * y)) pair_bits (total-double time_bits j.times time_bits j.intervals (kind_count * y))
      (job_sheet j) (types_at j.n j.e + type_bits * y + cost_bits + copies_bits) kind_count (type-there y l).1.1 k m

  costs-there : cells (column_at (job_sheet j) (types_at j.n j.e) type_bits cost_bits) j.m type_cells ≡ j.costs
  unfolding type_fields Holds
  costs-there =
      cells-cong (column_at (job_sheet j) (types_at j.n j.e) type_bits cost_bits) (cell j.costs) j.m type_cells (λ y l. (type-there y l).0)
      ∙ cells-blank j.costs j.m type_cells t.costs sound.counts.types sound.unused_costs

  copies-there : cells (column_at (job_sheet j) (types_at j.n j.e + cost_bits) type_bits copies_bits) j.m type_cells ≡ j.copies
  unfolding type_fields Holds
  copies-there =
      let at : ℕ = types_at j.n j.e in
      cells-cong (column_at (job_sheet j) (at + cost_bits) type_bits copies_bits) (cell j.copies) j.m type_cells
      (λ y l.
      let e : at + cost_bits + type_bits * y ≡ at + type_bits * y + cost_bits = omega arith in
      ap (λ (k : ℕ). field (job_sheet j) k copies_bits) e ∙ (type-there y l).1.0)
      ∙ cells-blank j.copies j.m type_cells t.copies sound.counts.types sound.unused_copies

  times-there : cells (pair_at (job_sheet j) (types_at j.n j.e + type_head)) (kind_count * j.m) pair_cells ≡ j.times
  unfolding Holds
  times-there =
      let at : ℕ = types_at j.n j.e in
      let few = sound.counts.types in
      cells-cong (pair_at (job_sheet j) (at + type_head)) (cell j.times) (kind_count * j.m) pair_cells
      (λ c l.
      let e : at + type_head + type_bits * (c / kind_count) + pair_bits * (c % kind_count)
      ≡ at + type_bits * (c / kind_count) + cost_bits + copies_bits + pair_bits * (c % kind_count) = omega arith in
      let q : kind_count * (c / kind_count) + c % kind_count ≡ c = omega arith in
      ap (λ (k : ℕ). field (job_sheet j) k time_bits) e ∙ (pair-there (c / kind_count) (c % kind_count) (omega arith) (omega arith)).0 ∙ ap (cell j.times) q)
      ∙ cells-blank j.times (kind_count * j.m) pair_cells t.times (omega arith) sound.unused_times

  intervals-there : cells (pair_at (job_sheet j) (types_at j.n j.e + type_head + time_bits)) (kind_count * j.m) pair_cells ≡ j.intervals
  unfolding Holds
  intervals-there =
      let at : ℕ = types_at j.n j.e in
      let few = sound.counts.types in
      cells-cong (pair_at (job_sheet j) (at + type_head + time_bits)) (cell j.intervals) (kind_count * j.m) pair_cells
      (λ c l.
      let e : at + type_head + time_bits + type_bits * (c / kind_count) + pair_bits * (c % kind_count)
      ≡ at + type_bits * (c / kind_count) + cost_bits + copies_bits + pair_bits * (c % kind_count) + time_bits = omega arith in
      let q : kind_count * (c / kind_count) + c % kind_count ≡ c = omega arith in
      ap (λ (k : ℕ). field (job_sheet j) k time_bits) e ∙ (pair-there (c / kind_count) (c % kind_count) (omega arith) (omega arith)).1.0 ∙ ap (cell j.intervals) q)
      ∙ cells-blank j.intervals (kind_count * j.m) pair_cells t.intervals (omega arith) sound.unused_intervals

  job-there : job_of (job_sheet j) j.n j.e j.m ≡ j
  unfolding job_of Holds
  job-there =
      let s : List ℕ = job_sheet j in
      let q = sound.counts in
      let a = read-single s job_head kind_bits j.n op_cells j.kinds t.kinds q.ops sound.unused_kinds kinds-links.0 in
      let b = read-double s (links_at j.n) op_bits j.e link_cells j.from t.from q.links sound.unused_from op_bits j.to kinds-links.1 in
      let c = read-double' s (links_at j.n) op_bits j.e link_cells j.to t.to q.links sound.unused_to op_bits j.from kinds-links.1 in
      λ i. record {
        n = j.n;
        e = j.e;
        m = j.m;
        t = held.steps i;
        clock = held.clock i;
        wire = held.wire i;
        kinds = a i;
        from = b i;
        to = c i;
        costs = costs-there i;
        copies = copies-there i;
        times = times-there i;
        intervals = intervals-there i;
      }

  job-in : job_in (job_sheet j) ≡ j
  unfolding Holds
  job-in = rw (held.ops, held.links, held.types) job-there

  sheet-fill : field (job_sheet j) (job_end j.n j.e j.m) (fill (job_end j.n j.e j.m)) ≡ 0
  unfolding job_sheet
  sheet-fill = subst (λ (k : ℕ). field (pack (job_fields j)) k (fill k) ≡ 0) (total-job j) (fill-pack (job_fields j) (fit-job j (fields-fit j sound) t.cost_bound))

  head-none : job_head_fault (job_sheet j) ≡ 0
  unfolding job_head_fault job_record_fault Holds
  head-none =
      let l = sheet-length j in
      none-or_else _ _ (form-none (job_sheet j) job_form held.form (omega arith))
      (none-or_else _ _ (whole-none (length (job_sheet j)) job_head (omega arith))
      (rw (held.ops, held.links, held.types, held.clock) (or_else-none _ _ z).0))

  body-none : job_body_fault (job_sheet j) j ≡ 0
  unfolding job_body_fault job_record_fault
  body-none =
      let l = sheet-length j in
      none-or_else _ _ (whole-none (length (job_sheet j)) (links_at j.n) (omega arith))
      (none-or_else _ _ (tables-rules j (length (job_sheet j)) (omega arith) ∙ (or_else-none _ _ (or_else-none _ _ z).1).0)
      (fill_none (job_sheet j) (job_end j.n j.e j.m) l sheet-fill))

  pub job-read-written : read_job (job_sheet j) ≡ record { answer = Read; job = j }
  unfolding read_job job_fault job_answer
  job-read-written =
      let q : job_fault (job_sheet j) ≡ 0 = or_else-go _ _ head-none ∙ ap (job_body_fault (job_sheet j)) job-in ∙ body-none in
      rw (q, job-in)

-- ---- what is written of a record read

module _ (s : List ℕ) (z : job_fault s ≡ 0) where
  heads : job_head_fault s ≡ 0
  heads = job-head s z

  counts : Counts (n_in s) (e_in s) (m_in s) (clock_in s)
  counts = head-counts s heads

  bodies : job_body_fault s (job_in s) ≡ 0
  unfolding job_fault
  bodies = (or_else-none _ _ z).1

  behind : (length s ≡ bytes_for (job_end (n_in s) (e_in s) (m_in s))) × (field s (job_end (n_in s) (e_in s) (m_in s)) (fill (job_end (n_in s) (e_in s) (m_in s))) ≡ 0)
  unfolding job_body_fault job_of
  behind = none-fill s (job_end (n_in s) (e_in s) (m_in s)) (or_else-none _ _ (or_else-none _ _ bodies).1).1

  -- the types' fields
  types-spelt : Holds s (types_at (n_in s) (e_in s)) (unit_fields (job_in s))
  unfolding Holds job_of type_fields
  types-spelt =
      let at : ℕ = types_at (n_in s) (e_in s) in
      let m : ℕ = m_in s in
      let few = counts.types in
      let costs : List ℕ = cells (column_at s at type_bits cost_bits) m type_cells in
      let copies : List ℕ = cells (column_at s (at + cost_bits) type_bits copies_bits) m type_cells in
      let times : List ℕ = cells (pair_at s (at + type_head)) (kind_count * m) pair_cells in
      let intervals : List ℕ = cells (pair_at s (at + type_head + time_bits)) (kind_count * m) pair_cells in
      many-holds (type_fields costs copies times intervals) type_bits (total-type costs copies times intervals) s at m (λ y l.
      let a : at + type_bits * y + cost_bits ≡ at + cost_bits + type_bits * y = omega arith in (
        sym (cell-cells (column_at s at type_bits cost_bits) m type_cells y l few),
        (
          ap (λ (k : ℕ). field s k copies_bits) a ∙ sym (cell-cells (column_at s (at + cost_bits) type_bits copies_bits) m type_cells y l few),
          many-holds (double time_bits times time_bits intervals (kind_count * y)) pair_bits (total-double time_bits times time_bits intervals (kind_count * y))
              s (at + type_bits * y + cost_bits + copies_bits) kind_count (λ k h.
              let c : ℕ = kind_count * y + k in
              let y' : c / kind_count ≡ y = omega arith in
              let k' : c % kind_count ≡ k = omega arith in
              let e : at + type_bits * y + cost_bits + copies_bits + pair_bits * k ≡ at + type_head + type_bits * (c / kind_count) + pair_bits * (c % kind_count) = omega arith in
              let e' : at + type_bits * y + cost_bits + copies_bits + pair_bits * k + time_bits
              ≡ at + type_head + time_bits + type_bits * (c / kind_count) + pair_bits * (c % kind_count) = omega arith in
              let l' : c < kind_count * m = omega arith in
              let f : kind_count * m ≤ pair_cells = omega arith in (
                ap (λ (i : ℕ). field s i time_bits) e ∙ sym (cell-cells (pair_at s (at + type_head)) (kind_count * m) pair_cells c l' f),
                (ap (λ (i : ℕ). field s i time_bits) e' ∙ sym (cell-cells (pair_at s (at + type_head + time_bits)) (kind_count * m) pair_cells c l' f), tt),
              )),
        ),
      ))

  graph-spelt : Holds s job_head (graph_fields (job_in s))
  unfolding job_of
  graph-spelt =
      let kinds : List ℕ = cells (column_at s job_head kind_bits kind_bits) (n_in s) op_cells in
      let links : List Field = many (double op_bits (job_in s).from op_bits (job_in s).to 0) (e_in s) in
      append-holds s job_head (many (single kind_bits kinds) (n_in s)) links (single-read s job_head kind_bits (n_in s) op_cells counts.ops)
      (subst (λ (k : ℕ). Holds s (job_head + k) links) (sym (total-kinds (job_in s))) (double-read s (links_at (n_in s)) op_bits op_bits (e_in s) link_cells counts.links))

  spelt : Holds s 0 (job_fields (job_in s))
  unfolding Holds job_head_fault job_of
  spelt =
      let e : types_at (n_in s) (e_in s) ≡ job_head + total (graph_fields (job_in s)) = omega (arith, total_graph (job_in s)) in (
        none-form s job_form (or_else-none _ _ heads).0,
        (
          refl,
          (
            refl,
            (
              refl,
              (
                refl,
                (
                  refl,
                  (
                    refl,
                    append-holds s job_head (graph_fields (job_in s)) (unit_fields (job_in s)) graph-spelt
                        (subst (λ (k : ℕ). Holds s k (unit_fields (job_in s))) e types-spelt),
                  ),
                ),
              ),
            ),
          ),
        ),
      )

  sheet-again : Bytes s → job_sheet (job_in s) ≡ s
  unfolding job_sheet job_of
  sheet-again hs =
      let e = total-job (job_in s) in
      pack-holds s (job_fields (job_in s)) hs (behind.0 ∙ ap (λ (k : ℕ). bytes_for k) (sym e))
      (subst (λ (k : ℕ). field s k (fill k) ≡ 0) (sym e) behind.1) spelt

  fits-none : job_fits (job_in s) ≡ true
  unfolding job_fits graph_blank units_blank job_of
  fits-none =
      let n : ℕ = n_in s in
      let e : ℕ = e_in s in
      let m : ℕ = m_in s in
      let kinds = each_within (cells (column_at s job_head kind_bits kind_bits) n op_cells) max_kind n (λ i l.
      rw (cell-cells (column_at s job_head kind_bits kind_bits) n op_cells i l counts.ops) (omega (arith, field_lt s (job_head + kind_bits * i) kind_bits))) in
      let steps = le-leb (field s t_at step_bits) max_steps (omega (arith, field_lt s t_at step_bits)) in
      let wire = le-leb (field s wire_at time_bits) max_time (omega (arith, field_lt s wire_at time_bits)) in
      let types : ℕ = types_at n e in
      both-and _ _ (both-and _ _ (both-and _ _ (both-and _ _ steps wire) kinds)
      (both-and _ _ (both-and _ _ (blank-cells (column_at s job_head kind_bits kind_bits) n op_cells)
      (blank-cells (column_at s (links_at n) link_bits op_bits) e link_cells))
      (blank-cells (column_at s (links_at n + op_bits) link_bits op_bits) e link_cells)))
      (both-and _ _ (both-and _ _ (both-and _ _ (blank-cells (column_at s types type_bits cost_bits) m type_cells)
      (blank-cells (column_at s (types + cost_bits) type_bits copies_bits) m type_cells))
      (blank-cells (pair_at s (types + type_head)) (kind_count * m) pair_cells))
      (blank-cells (pair_at s (types + type_head + time_bits)) (kind_count * m) pair_cells))

  record-none : job_record_fault (job_in s) ≡ 0
  unfolding job_record_fault job_head_fault job_body_fault job_of
  record-none =
      let l = behind.0 in
      none-or_else _ _ (or_else-none _ _ (or_else-none _ _ heads).1).1
      (none-or_else _ _ (sym (tables-rules (job_in s) (length s) (omega arith)) ∙ (or_else-none _ _ (or_else-none _ _ bodies).1).0)
      (none-unless _ record_broken fits-none))

-- a sheet that is read has no fault
read-job : (s : List ℕ) (j : Job) → read_job s ≡ record { answer = Read; job = j } → (job_fault s ≡ 0) × (j ≡ job_in s)
unfolding read_job job_answer
read-job s j e = go (job_fault s) refl e
  where
    go : (k : ℕ) → job_fault s ≡ k → job_answer (job_fault s) (job_in s) ≡ record { answer = Read; job = j } → (job_fault s ≡ 0) × (j ≡ job_in s)
    go zero q e = (q, sym (ap (λ (r : JobRead). r.job) (rw q at e)))
    go (suc k) q e = let w : Unread (suc k) paper_job ≡ Read = ap (λ (r : JobRead). r.answer) (rw q at e) in cc

pub job-written-read : (s : List ℕ) (j : Job) → Bytes s → read_job s ≡ record { answer = Read; job = j } → (job_sheet j ≡ s) × (job_record_fault j ≡ 0)
job-written-read s j hs e =
    let r = read-job s j e in
    rw r.1 (sheet-again s r.0 hs, record-none s r.0)

-- what a job that is read keeps
pub job-sound : (s : List ℕ) (j : Job) → read_job s ≡ record { answer = Read; job = j } → JobSound j
job-sound s j e =
    let r = read-job s j e in
    rw r.1 (none-record (job_in s) (record-none s r.0))

pub job-costs : (s : List ℕ) (j : Job) → read_job s ≡ record { answer = Read; job = j } → (y : ℕ) → cell j.costs y < 2 ^ cost_bits
unfolding job_of
job-costs s j e y =
    let r = read-job s j e in
    let at : ℕ = types_at (n_in s) (e_in s) in
    let few = (head-counts s (job-head s r.0)).types in
    rw r.1 (elim (dec_lt y (m_in s)) [
      | yes l ↦ rw (cell-cells (column_at s at type_bits cost_bits) (m_in s) type_cells y l few) (field_lt s (at + type_bits * y) cost_bits)
      | no l ↦ rw (cell-unused (column_at s at type_bits cost_bits) (m_in s) type_cells y (omega arith)) (omega arith)
    ])

-- ---- the same of the entries' promises

-- what the writer has written is read as the record
pub job-read-output : (j : Job) → JobShape j → (before after : List ℕ) (size : ℕ) → Promise (write_job j (length before)) (job_out j before) (Wrote size) after
    → read_job (take size after) ≡ record { answer = Read; job = j }
unfolding write_job job_out
job-read-output j t before after size w =
    let f = wrote-sheet (job_record_fault j) paper_job (bytes_for (job_end j.n j.e j.m)) (job_sheet j) before size after (sheet-length j) w in
    rw f.1 (job-read-written j t f.0)

-- what the reader has read is written as the sheet, wherever it fits
pub job-write-input : (s : List ℕ) (j : Job) (before after : List ℕ) (r : Written) → Bytes s → read_job s ≡ record { answer = Read; job = j }
    → length s ≤ length before → Promise (write_job j (length before)) (job_out j before) r after → (r ≡ Wrote (length s)) × (after ≡ s ++ drop (length s) before)
unfolding write_job job_out
job-write-input s j before after r hs e l w =
    let q = job-written-read s j hs e in
    let l' : length (job_sheet j) ≤ length before = rw q.0 l in
    rw q.0 at (sheet-wrote (job_record_fault j) paper_job (bytes_for (job_end j.n j.e j.m)) (job_sheet j) before r after q.1 (sheet-length j) l' w)
