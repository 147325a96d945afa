-- Reading and writing a plan's sheet undo each other: `plan-read-written`, `plan-written-read`; and so of the entries'
-- promises: `plan-read-output`, `plan-write-input`.
use Prim.Native.Nat.{ℕ, zero, suc, ◌+◌, ◌*◌, ◌≤◌}
use mathlib.Core.Path.{◌≡◌, refl, sym, ap, ap₂, subst, ◌∙◌}
use mathlib.Core.Bool.{true}
use mathlib.Core.List.{List, ◌++◌}
use native.Mathlib.Omega.{arith}
use lib.ListN.{length, take, drop}
use Rattle.basics.specs.Answers.{Promise}
use Rattle.basics.specs.Numbers.{paper_plan, record_broken}
use Rattle.basics.specs.Counting.{all_to}
use Rattle.basics.specs.Faults.{◌or_else◌, fault_unless}
use Rattle.basics.specs.Tables.{cells, within, blank}
use Rattle.basics.proofs.CountLaws.{both-and}
use Rattle.basics.proofs.FaultLaws.{or_else-none, none-or_else, none-unless, or_else-go}
use Rattle.basics.proofs.TableLaws.{cell-cells, blank-cells, each_within}
use Rattle.bits.specs.Bits.{Bytes, field}
use Rattle.bits.specs.Sheet.{Field, bytes_for, fill, pack, many}
use Rattle.bits.proofs.FieldLaws.{field_lt}
use Rattle.bits.proofs.SheetLaws.{Holds, holds-pack, pack-holds, fill-pack, length-pack, holds-append, append-holds}
use Rattle.sheets.specs.Limits.{op_cells, inst_cells, plan_form, max_ops, max_insts, max_select, max_steps, max_inst, select_bits, step_bits, inst_bits, row_bits, plan_head}
use Rattle.sheets.specs.Columns.{column_at, single, double}
use Rattle.sheets.specs.Answers.{Read, Unread, Written, Wrote}
use Rattle.sheets.specs.PlanSheet.{PlanRead, PlanShape, rows_at, plan_end, ops_in, insts_in, plan_of, plan_in, plan_counts_fault, plan_head_fault, plan_body_fault, plan_fault, no_plan, plan_answer, read_plan, plan_fits, plan_record_fault, plan_fields, plan_sheet, write_plan, plan_out}
use Rattle.sheets.specs.declared.Plan.{Plan}
use Rattle.sheets.proofs.GroupLaws.{whole-none, form-none, none-form, fill_none, none-fill}
use Rattle.sheets.proofs.ColumnLaws.{read-single, read-double, read-double', single-read, double-read}
use Rattle.sheets.proofs.AnswerLaws.{wrote-sheet, sheet-wrote}
use Rattle.sheets.proofs.PlanLaws.{head-sizes}
use Rattle.sheets.proofs.PlanFieldLaws.{PlanSound, none-plan, total-marks, total-plan, fields-fit, fit-plan}

pub sheet-length : (p : Plan) → length (plan_sheet p) ≡ bytes_for (plan_end p.n p.k)
unfolding plan_sheet
sheet-length p = length-pack (plan_fields p) ∙ ap (λ (k : ℕ). bytes_for k) (total-plan p)

-- ---- what is read of a record's sheet

module _ (p : Plan) (t : PlanShape p) (z : plan_record_fault p ≡ 0) where
  sound : PlanSound p
  sound = none-plan p z

  held : Holds (plan_sheet p) 0 (plan_fields p)
  unfolding plan_sheet
  held = holds-pack (plan_fields p) (fit-plan p (fields-fit p sound))

  -- selection and rows, each where it starts
  tables : Holds (plan_sheet p) plan_head (many (single select_bits p.selection) p.k)
      × Holds (plan_sheet p) (rows_at p.k) (many (double step_bits p.starts inst_bits p.insts 0) p.n)
  unfolding Holds
  tables =
      let marks : List Field = many (single select_bits p.selection) p.k in
      let rows : List Field = many (double step_bits p.starts inst_bits p.insts 0) p.n in
      let r = holds-append (plan_sheet p) plan_head marks rows held.1.1.1 in
      (r.0, subst (λ (k : ℕ). Holds (plan_sheet p) (plan_head + k) rows) (total-marks p) r.1)

  plan-there : plan_of (plan_sheet p) p.n p.k ≡ p
  unfolding plan_of
  plan-there =
      let s : List ℕ = plan_sheet p in
      let a = read-single s plan_head select_bits p.k inst_cells p.selection t.selection sound.insts sound.unused_marks tables.0 in
      let b = read-double s (rows_at p.k) step_bits p.n op_cells p.starts t.starts sound.ops sound.unused_starts inst_bits p.insts tables.1 in
      let c = read-double' s (rows_at p.k) inst_bits p.n op_cells p.insts t.insts sound.ops sound.unused_rows step_bits p.starts tables.1 in
      λ i. record { n = p.n; k = p.k; selection = a i; starts = b i; insts = c i }

  plan-in : plan_in (plan_sheet p) ≡ p
  unfolding Holds
  plan-in = ap₂ (plan_of (plan_sheet p)) held.1.0 held.1.1.0 ∙ plan-there

  sheet-fill : field (plan_sheet p) (plan_end p.n p.k) (fill (plan_end p.n p.k)) ≡ 0
  unfolding plan_sheet
  sheet-fill = subst (λ (k : ℕ). field (pack (plan_fields p)) k (fill k) ≡ 0) (total-plan p) (fill-pack (plan_fields p) (fit-plan p (fields-fit p sound)))

  head-none : plan_head_fault (plan_sheet p) ≡ 0
  unfolding plan_head_fault plan_record_fault Holds
  head-none =
      let l = sheet-length p in
      none-or_else _ _ (form-none (plan_sheet p) plan_form held.0 (omega arith))
      (none-or_else _ _ (whole-none (length (plan_sheet p)) plan_head (omega arith))
      (ap₂ plan_counts_fault held.1.0 held.1.1.0 ∙ (or_else-none _ _ z).0))

  body-none : plan_body_fault (plan_sheet p) p ≡ 0
  unfolding plan_body_fault
  body-none =
      let l = sheet-length p in
      none-or_else _ _ (whole-none (length (plan_sheet p)) (plan_end p.n p.k) (omega arith)) (fill_none (plan_sheet p) (plan_end p.n p.k) l sheet-fill)

  pub plan-read-written : read_plan (plan_sheet p) ≡ record { answer = Read; plan = p }
  unfolding read_plan plan_fault plan_answer
  plan-read-written =
      let q : plan_fault (plan_sheet p) ≡ 0 = or_else-go _ _ head-none ∙ ap (plan_body_fault (plan_sheet p)) plan-in ∙ body-none in
      rw (q, plan-in)

-- ---- what is written of a record read

module _ (s : List ℕ) (z : plan_fault s ≡ 0) where
  heads : plan_head_fault s ≡ 0
  unfolding plan_fault
  heads = (or_else-none _ _ z).0

  sizes : (ops_in s ≤ max_ops) × (insts_in s ≤ max_insts)
  sizes = head-sizes s heads

  behind : (length s ≡ bytes_for (plan_end (ops_in s) (insts_in s))) × (field s (plan_end (ops_in s) (insts_in s)) (fill (plan_end (ops_in s) (insts_in s))) ≡ 0)
  unfolding plan_fault plan_body_fault plan_of
  behind = none-fill s (plan_end (ops_in s) (insts_in s)) (or_else-none _ _ (or_else-none _ _ z).1).1

  spelt : Holds s 0 (plan_fields (plan_in s))
  unfolding Holds plan_of plan_head_fault
  spelt =
      let marks : List Field = many (single select_bits (plan_in s).selection) (insts_in s) in
      let rows : List Field = many (double step_bits (plan_in s).starts inst_bits (plan_in s).insts 0) (ops_in s) in (
        none-form s plan_form (or_else-none _ _ heads).0,
        (
          refl,
          (
            refl,
            append-holds s plan_head marks rows (single-read s plan_head select_bits (insts_in s) inst_cells sizes.1)
                (subst (λ (k : ℕ). Holds s (plan_head + k) rows) (sym (total-marks (plan_in s))) (double-read s (rows_at (insts_in s)) step_bits inst_bits (ops_in s) op_cells sizes.0)),
          ),
        ),
      )

  sheet-again : Bytes s → plan_sheet (plan_in s) ≡ s
  unfolding plan_sheet plan_of
  sheet-again hs =
      let e = total-plan (plan_in s) in
      pack-holds s (plan_fields (plan_in s)) hs (behind.0 ∙ ap (λ (k : ℕ). bytes_for k) (sym e))
      (subst (λ (k : ℕ). field s k (fill k) ≡ 0) (sym e) behind.1) spelt

  small : (at stride w n size limit : ℕ) → n ≤ size → ((i : ℕ) → column_at s at stride w i ≤ limit) → within (cells (column_at s at stride w) n size) limit n ≡ true
  small at stride w n size limit hn h =
      each_within (cells (column_at s at stride w) n size) limit n (λ i l. rw (cell-cells (column_at s at stride w) n size i l hn) (h i))

  record-none : plan_record_fault (plan_in s) ≡ 0
  unfolding plan_record_fault plan_fits plan_head_fault plan_of
  record-none =
      let n : ℕ = ops_in s in
      let k : ℕ = insts_in s in
      let a = small plan_head select_bits select_bits k inst_cells max_select sizes.1 (λ i. omega (arith, field_lt s (plan_head + select_bits * i) select_bits)) in
      let b = small (rows_at k) row_bits step_bits n op_cells max_steps sizes.0 (λ i. omega (arith, field_lt s (rows_at k + row_bits * i) step_bits)) in
      let d = small (rows_at k + step_bits) row_bits inst_bits n op_cells max_inst sizes.0 (λ i. omega (arith, field_lt s (rows_at k + step_bits + row_bits * i) inst_bits)) in
      none-or_else _ _ (or_else-none _ _ (or_else-none _ _ heads).1).1
      (none-unless _ record_broken (both-and _ _ (both-and _ _ (both-and _ _ (both-and _ _ (both-and _ _ a b) d)
      (blank-cells (column_at s plan_head select_bits select_bits) k inst_cells))
      (blank-cells (column_at s (rows_at k) row_bits step_bits) n op_cells))
      (blank-cells (column_at s (rows_at k + step_bits) row_bits inst_bits) n op_cells)))

-- a sheet that is read has no fault
read-plan : (s : List ℕ) (p : Plan) → read_plan s ≡ record { answer = Read; plan = p } → (plan_fault s ≡ 0) × (p ≡ plan_in s)
unfolding read_plan plan_answer
read-plan s p e = go (plan_fault s) refl e
  where
    go : (k : ℕ) → plan_fault s ≡ k → plan_answer (plan_fault s) (plan_in s) ≡ record { answer = Read; plan = p } → (plan_fault s ≡ 0) × (p ≡ plan_in s)
    go zero q e = (q, sym (ap (λ (r : PlanRead). r.plan) (rw q at e)))
    go (suc k) q e = let w : Unread (suc k) paper_plan ≡ Read = ap (λ (r : PlanRead). r.answer) (rw q at e) in cc

pub plan-written-read : (s : List ℕ) (p : Plan) → Bytes s → read_plan s ≡ record { answer = Read; plan = p } → (plan_sheet p ≡ s) × (plan_record_fault p ≡ 0)
plan-written-read s p hs e =
    let r = read-plan s p e in
    rw r.1 (sheet-again s r.0 hs, record-none s r.0)

-- what any bytes are read as, a plan or zeros, can be written
none-sound : plan_record_fault no_plan ≡ 0
unfolding plan_record_fault plan_counts_fault plan_fits no_plan within blank all_to fault_unless ◌or_else◌
none-sound = refl

pub plan-read-sound : (s : List ℕ) → plan_record_fault (read_plan s).plan ≡ 0
unfolding read_plan plan_answer
plan-read-sound s = go (plan_fault s) refl
  where
    go : (k : ℕ) → plan_fault s ≡ k → plan_record_fault (plan_answer k (plan_in s)).plan ≡ 0
    go zero q = record-none s q
    go (suc k) q = none-sound

-- ---- the same of the entries' promises

-- what the writer has written is read as the record
pub plan-read-output : (p : Plan) → PlanShape p → (before after : List ℕ) (size : ℕ) → Promise (write_plan p (length before)) (plan_out p before) (Wrote size) after
    → read_plan (take size after) ≡ record { answer = Read; plan = p }
unfolding write_plan plan_out
plan-read-output p t before after size w =
    let f = wrote-sheet (plan_record_fault p) paper_plan (bytes_for (plan_end p.n p.k)) (plan_sheet p) before size after (sheet-length p) w in
    rw f.1 (plan-read-written p t f.0)

-- what the reader has read is written as the sheet, wherever it fits
pub plan-write-input : (s : List ℕ) (p : Plan) (before after : List ℕ) (r : Written) → Bytes s → read_plan s ≡ record { answer = Read; plan = p }
    → length s ≤ length before → Promise (write_plan p (length before)) (plan_out p before) r after → (r ≡ Wrote (length s)) × (after ≡ s ++ drop (length s) before)
unfolding write_plan plan_out
plan-write-input s p before after r hs e l w =
    let q = plan-written-read s p hs e in
    let l' : length (plan_sheet p) ≤ length before = rw q.0 l in
    rw q.0 at (sheet-wrote (plan_record_fault p) paper_plan (bytes_for (plan_end p.n p.k)) (plan_sheet p) before r after q.1 (sheet-length p) l' w)
