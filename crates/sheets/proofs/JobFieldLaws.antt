-- A job's fields: their widths, that they fit where the record has no fault, and that putting them makes the sheet.
use Prim.Native.Nat.{ℕ, ◌+◌, ◌*◌, ◌^◌, ◌≤◌, ◌<◌}
use mathlib.Core.Path.{◌≡◌, refl, sym, ap, ap₂, subst, ◌∙◌}
use mathlib.Core.List.{List, ◌++◌}
use native.Mathlib.Omega.{arith}
use lib.Dec.{lit<}
use lib.ListN.{length, drop}
use Rattle.basics.specs.Tables.{cell}
use Rattle.std.specs.Prelude.{Result, Ok}
use Rattle.basics.specs.Faults.{fault_in, blamed}
use Rattle.basics.specs.declared.refusals.Fault.{Fault}
use Rattle.basics.specs.declared.refusals.Paper.{Paper}
use Rattle.basics.proofs.FaultLaws.{blamed-none}
use Rattle.sheets.specs.JobRecord.{job_record_fault}
use Rattle.bits.specs.Bits.{Bytes, put_field}
use Rattle.bits.specs.Sheet.{Field, total, bytes_for, fill, pack, many, put_all}
use Rattle.bits.proofs.SheetLaws.{Fit, total-append, total-many, fit_append, fit-many, put-append, put-many, put-pack}
use Rattle.sheets.specs.Limits.{kind_count, op_bits, time_bits, kind_bits, cost_bits, copies_bits, job_head, link_bits, type_head, type_bits, pair_bits}
use Rattle.sheets.specs.Columns.{single, double}
use Rattle.sheets.specs.JobSheet.{links_at, types_at, job_end, job_head_fields, type_fields, graph_fields, unit_fields, job_fields, job_sheet, FieldsFit}
use Rattle.sheets.specs.declared.Job.{Job}
use Rattle.sheets.proofs.ColumnLaws.{total-single, total-double, none-put}
use Rattle.sheets.proofs.RecordLaws.{JobSound, none-record}

-- ---- widths

pub total-type : (costs copies times intervals : List ℕ) (y : ℕ) → total (type_fields costs copies times intervals y) ≡ type_bits
unfolding type_fields total
total-type costs copies times intervals y =
    omega (arith, total-many (double time_bits times time_bits intervals (kind_count * y)) pair_bits (total-double time_bits times time_bits intervals (kind_count * y)) kind_count)

module _ (j : Job) where
  pub total-kinds : total (many (single kind_bits j.kinds) j.n) ≡ kind_bits * j.n
  total-kinds = total-many (single kind_bits j.kinds) kind_bits (total-single kind_bits j.kinds) j.n

  pub total-links : total (many (double op_bits j.from op_bits j.to 0) j.e) ≡ link_bits * j.e
  total-links = total-many (double op_bits j.from op_bits j.to 0) link_bits (total-double op_bits j.from op_bits j.to 0) j.e

  pub total_graph : total (graph_fields j) ≡ kind_bits * j.n + link_bits * j.e
  total_graph =
      total-append (many (single kind_bits j.kinds) j.n) (many (double op_bits j.from op_bits j.to 0) j.e)
      ∙ ap₂ (λ (a b : ℕ). a + b) total-kinds total-links

  pub total-units : total (unit_fields j) ≡ type_bits * j.m
  total-units =
      total-many (type_fields j.costs j.copies j.times j.intervals) type_bits (total-type j.costs j.copies j.times j.intervals) j.m

  pub total-job : total (job_fields j) ≡ job_end j.n j.e j.m
  unfolding total
  total-job = omega (arith, total-append (graph_fields j) (unit_fields j), total_graph, total-units)

-- ---- values fit

pub fields-fit : (j : Job) → JobSound j → FieldsFit j
fields-fit j h =
    let q = h.counts in
    record {
      ops = q.ops;
      links = q.links;
      types = q.types;
      steps = h.steps;
      clock = q.short;
      wire = h.wire;
      kinds_fit = λ i l. omega (arith, h.kinds i l);
      from_fit = λ i l. omega (arith, h.links i l);
      to_fit = λ i l. omega (arith, h.links i l);
      copies_fit = λ y l. omega (arith, h.copies y l);
      times_fit = λ c l. omega (arith, (h.pairs c l).short);
      intervals_fit = λ c l. omega (arith, (h.pairs c l).within);
    }

-- as the writer learns it
pub fields_fit : (j : Job) (who : Paper) (found : Result (Unit {0}) Fault) → fault_in found ≡ job_record_fault j → Ok tt ≡ blamed who found → FieldsFit j
fields_fit j who found f e = fields-fit j (none-record j (sym f ∙ blamed-none who found tt e))

-- ---- what is put

-- cost, copies, then the pairs
put-type : (s : List ℕ) (here : ℕ) (costs copies times intervals : List ℕ) (y : ℕ)
    → put_all (put_field (put_field s here cost_bits (cell costs y)) (here + cost_bits) copies_bits (cell copies y)) (here + type_head)
    (many (double time_bits times time_bits intervals (kind_count * y)) kind_count)
    ≡ put_all s here (type_fields costs copies times intervals y)
unfolding type_fields put_all
put-type s here costs copies times intervals y =
    let e : here + type_head ≡ here + cost_bits + copies_bits = omega arith in
    ap (λ (k : ℕ). put_all (put_field (put_field s here cost_bits (cell costs y)) (here + cost_bits) copies_bits (cell copies y)) k
    (many (double time_bits times time_bits intervals (kind_count * y)) kind_count)) e

module _ (j : Job) (s : List ℕ) where
  -- kinds, then links
  pub graph-put : (t u : List ℕ) → t ≡ put_all s job_head (many (single kind_bits j.kinds) j.n)
      → u ≡ put_all t (links_at j.n) (many (double op_bits j.from op_bits j.to 0) j.e)
      → u ≡ put_all s job_head (graph_fields j)
  graph-put t u p q =
      q ∙ rw (p, put-append s job_head (many (single kind_bits j.kinds) j.n) (many (double op_bits j.from op_bits j.to 0) j.e), total-kinds j) refl

  -- one type more: cost, copies, then the pairs
  pub unit-put : (at y : ℕ) (t a b u : List ℕ) → t ≡ put_all s at (many (type_fields j.costs j.copies j.times j.intervals) y)
      → a ≡ put_field t (at + type_bits * y) cost_bits (cell j.costs y)
      → b ≡ put_field a (at + type_bits * y + cost_bits) copies_bits (cell j.copies y)
      → u ≡ put_all b (at + type_bits * y + type_head) (many (double time_bits j.times time_bits j.intervals (kind_count * y)) kind_count)
      → u ≡ put_all s at (many (type_fields j.costs j.copies j.times j.intervals) (y + 1))
  unit-put at y t a b u e p q r =
      let f : ℕ → List Field = type_fields j.costs j.copies j.times j.intervals in
      r ∙ rw (q, p, e)
      (put-type (put_all s at (many f y)) (at + type_bits * y) j.costs j.copies j.times j.intervals y
      ∙ put-many f type_bits (total-type j.costs j.copies j.times j.intervals) s at y)

  -- head, graph and units, one behind the other
  pub parts-put : (a b u : List ℕ) → a ≡ put_all s 0 (job_head_fields j) → b ≡ put_all a job_head (graph_fields j) → u ≡ put_all b (types_at j.n j.e) (unit_fields j)
      → u ≡ put_all s 0 (job_fields j)
  unfolding total
  parts-put a b u p q r =
      let at : job_head + total (graph_fields j) ≡ types_at j.n j.e = omega (arith, total_graph j) in
      r ∙ rw (q, ← at, p)
      (sym (put-append (put_all s 0 (job_head_fields j)) job_head (graph_fields j) (unit_fields j))
      ∙ sym (put-append s 0 (job_head_fields j) (graph_fields j ++ unit_fields j)))

pub ruleset job_put_laws = (none-put, graph-put, unit-put, parts-put)

-- ---- the sheet

module _ (j : Job) (h : FieldsFit j) (k : (y : ℕ) → cell j.costs y < 2 ^ cost_bits) where
  type-fit : (y : ℕ) → y < j.m → Fit (type_fields j.costs j.copies j.times j.intervals y)
  unfolding type_fields Fit
  type-fit y l = (
    k y,
    (
      h.copies_fit y l,
      fit-many (double time_bits j.times time_bits j.intervals (kind_count * y)) kind_count
          (λ i q. (h.times_fit (kind_count * y + i) (omega arith), (h.intervals_fit (kind_count * y + i) (omega arith), tt))),
    ),
  )

  link-fit : (i : ℕ) → i < j.e → Fit (double op_bits j.from op_bits j.to 0 i)
  unfolding Fit
  link-fit i l =
      let e : 0 + i ≡ i = omega arith in
      rw e (h.from_fit i l, (h.to_fit i l, tt))

  pub fit-job : Fit (job_fields j)
  unfolding Fit
  fit-job = (
    lit< tt,
    (
      omega (arith, h.ops),
      (
        omega (arith, h.links),
        (
          omega (arith, h.types),
          (
            omega (arith, h.steps),
            (
              omega (arith, h.clock),
              (
                omega (arith, h.wire),
                fit_append (graph_fields j) (unit_fields j)
                    (fit_append (many (single kind_bits j.kinds) j.n) (many (double op_bits j.from op_bits j.to 0) j.e)
                    (fit-many (single kind_bits j.kinds) j.n (λ i l. (h.kinds_fit i l, tt)))
                    (fit-many (double op_bits j.from op_bits j.to 0) j.e link-fit))
                    (fit-many (type_fields j.costs j.copies j.times j.intervals) j.m type-fit),
              ),
            ),
          ),
        ),
      ),
    ),
  )

  -- all fields, and the fill
  pub put-job : (out : List ℕ) → Bytes out → bytes_for (job_end j.n j.e j.m) ≤ length out
      → put_field (put_all out 0 (job_fields j)) (job_end j.n j.e j.m) (fill (job_end j.n j.e j.m)) 0
      ≡ job_sheet j ++ drop (bytes_for (job_end j.n j.e j.m)) out
  unfolding job_sheet
  put-job out hs l =
      subst (λ (k : ℕ). put_field (put_all out 0 (job_fields j)) k (fill k) 0 ≡ pack (job_fields j) ++ drop (bytes_for k) out) (total-job j)
      (put-pack out (job_fields j) hs fit-job (subst (λ (k : ℕ). bytes_for k ≤ length out) (sym (total-job j)) l))
