-- A plan's fields: their widths, that they fit where the record has no fault, and that putting them makes the sheet.
use Prim.Native.Nat.{ℕ, ◌+◌, ◌*◌, ◌≤◌, ◌<◌}
use mathlib.Core.Path.{◌≡◌, refl, sym, subst, ◌∙◌}
use mathlib.Core.Bool.{true}
use mathlib.Core.List.{List, ◌++◌}
use native.Mathlib.Omega.{arith}
use lib.Dec.{lit<}
use lib.ListN.{length, drop}
use Rattle.std.specs.Prelude.{Result, Ok}
use Rattle.basics.specs.Faults.{fault_in, blamed}
use Rattle.basics.specs.declared.refusals.Fault.{Fault}
use Rattle.basics.specs.declared.refusals.Paper.{Paper}
use Rattle.basics.specs.Numbers.{record_broken}
use Rattle.basics.specs.Tables.{cell, blank}
use Rattle.basics.proofs.CountLaws.{and_both}
use Rattle.basics.proofs.FaultLaws.{or_else-none, unless-none, blamed-none}
use Rattle.basics.proofs.TableLaws.{within-each}
use Rattle.bits.specs.Bits.{Bytes, put_field}
use Rattle.bits.specs.Sheet.{Field, total, bytes_for, fill, pack, many, put_all}
use Rattle.bits.proofs.SheetLaws.{Fit, total-append, total-many, fit_append, fit-many, put-append, put-pack}
use Rattle.sheets.specs.Limits.{max_ops, max_insts, max_select, max_steps, max_inst, form_bits, plan_form, n_at, k_at, op_bits, inst_count_bits, plan_head, select_bits, step_bits, inst_bits, row_bits}
use Rattle.sheets.specs.Columns.{single, double}
use Rattle.sheets.specs.PlanSheet.{FieldsFit, rows_at, plan_count_fields, plan_end, plan_fits, plan_record_fault, plan_fields, plan_sheet}
use Rattle.sheets.specs.declared.Plan.{Plan}
use Rattle.sheets.proofs.ColumnLaws.{total-single, total-double}
use Rattle.sheets.proofs.PlanLaws.{none-sizes}

-- ---- a record without fault

pub record PlanSound (p : Plan) : Type 0 where
  pub ops : p.n ≤ max_ops
  pub insts : p.k ≤ max_insts
  pub marks : (i : ℕ) → i < p.k → cell p.selection i ≤ max_select
  pub starts : (i : ℕ) → i < p.n → cell p.starts i ≤ max_steps
  pub rows : (i : ℕ) → i < p.n → cell p.insts i ≤ max_inst
  pub unused_marks : blank p.selection p.k ≡ true
  pub unused_starts : blank p.starts p.n ≡ true
  pub unused_rows : blank p.insts p.n ≡ true

pub none-plan : (p : Plan) → plan_record_fault p ≡ 0 → PlanSound p
unfolding plan_record_fault plan_fits
none-plan p h =
    let r = or_else-none _ _ h in
    let s = none-sizes _ _ r.0 in
    let a = and_both _ _ (unless-none _ record_broken (lit< tt) r.1) in
    let b = and_both _ _ a.0 in
    let d = and_both _ _ b.0 in
    let f = and_both _ _ d.0 in
    let g = and_both _ _ f.0 in
    record {
      ops = s.0;
      insts = s.1;
      marks = within-each p.selection max_select p.k g.0;
      starts = within-each p.starts max_steps p.n g.1;
      rows = within-each p.insts max_inst p.n f.1;
      unused_marks = d.1;
      unused_starts = b.1;
      unused_rows = a.1;
    }

-- ---- widths

module _ (p : Plan) where
  pub total-marks : total (many (single select_bits p.selection) p.k) ≡ select_bits * p.k
  total-marks = total-many (single select_bits p.selection) select_bits (total-single select_bits p.selection) p.k

  pub total-rows : total (many (double step_bits p.starts inst_bits p.insts 0) p.n) ≡ row_bits * p.n
  total-rows = total-many (double step_bits p.starts inst_bits p.insts 0) row_bits (total-double step_bits p.starts inst_bits p.insts 0) p.n

  pub total-plan : total (plan_fields p) ≡ plan_end p.n p.k
  unfolding total
  total-plan =
      omega (arith, total-append (many (single select_bits p.selection) p.k) (many (double step_bits p.starts inst_bits p.insts 0) p.n), total-marks, total-rows)

-- ---- values fit

pub fields-fit : (p : Plan) → PlanSound p → FieldsFit p
fields-fit p h =
    record {
      ops = h.ops;
      insts = h.insts;
      selection_fit = λ i l. omega (arith, h.marks i l);
      starts_fit = λ i l. omega (arith, h.starts i l);
      insts_fit = λ i l. omega (arith, h.rows i l);
    }

-- as the writer learns it
pub fields_fit : (p : Plan) (who : Paper) (found : Result (Unit {0}) Fault) → fault_in found ≡ plan_record_fault p → Ok tt ≡ blamed who found → FieldsFit p
fields_fit p who found f e = fields-fit p (none-plan p (sym f ∙ blamed-none who found tt e))

-- ---- what is put

-- sizes, then selection, then rows, each behind the one before
pub plan-put : (p : Plan) (s a b d t u : List ℕ)
    → a ≡ put_field s 0 form_bits plan_form → b ≡ put_field a n_at op_bits p.n → d ≡ put_field b k_at inst_count_bits p.k
    → t ≡ put_all d plan_head (many (single select_bits p.selection) p.k)
    → u ≡ put_all t (rows_at p.k) (many (double step_bits p.starts inst_bits p.insts 0) p.n)
    → u ≡ put_all s 0 (plan_fields p)
unfolding put_all
plan-put p s a b d t u x y z q r =
    let marks : List Field = many (single select_bits p.selection) p.k in
    let rows : List Field = many (double step_bits p.starts inst_bits p.insts 0) p.n in
    r ∙ rw (q, z, y, x) (rw (put-append (put_all s 0 (plan_count_fields p.n p.k)) plan_head marks rows, total-marks p) refl)

pub ruleset plan_put_laws = (plan-put)

-- ---- the sheet

module _ (p : Plan) (h : FieldsFit p) where
  row-fit : (i : ℕ) → i < p.n → Fit (double step_bits p.starts inst_bits p.insts 0 i)
  unfolding Fit
  row-fit i l =
      let e : 0 + i ≡ i = omega arith in
      rw e (h.starts_fit i l, (h.insts_fit i l, tt))

  pub fit-plan : Fit (plan_fields p)
  unfolding Fit
  fit-plan = (
    lit< tt,
    (
      omega (arith, h.ops),
      (
        omega (arith, h.insts),
        fit_append (many (single select_bits p.selection) p.k) (many (double step_bits p.starts inst_bits p.insts 0) p.n)
            (fit-many (single select_bits p.selection) p.k (λ i l. (h.selection_fit i l, tt)))
            (fit-many (double step_bits p.starts inst_bits p.insts 0) p.n row-fit),
      ),
    ),
  )

  -- all fields, and the fill
  pub put-plan : (out : List ℕ) → Bytes out → bytes_for (plan_end p.n p.k) ≤ length out
      → put_field (put_all out 0 (plan_fields p)) (plan_end p.n p.k) (fill (plan_end p.n p.k)) 0
      ≡ plan_sheet p ++ drop (bytes_for (plan_end p.n p.k)) out
  unfolding plan_sheet
  put-plan out hs l =
      subst (λ (k : ℕ). put_field (put_all out 0 (plan_fields p)) k (fill k) 0 ≡ pack (plan_fields p) ++ drop (bytes_for k) out) (total-plan p)
      (put-pack out (plan_fields p) hs fit-plan (subst (λ (k : ℕ). bytes_for k ≤ length out) (sym (total-plan p)) l))
