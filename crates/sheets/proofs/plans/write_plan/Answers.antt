-- A fault or a short output stops before the first put; else the fields and the fill make the sheet.
use mathlib.Core.Path.{◌≡◌, refl}
use borrow.Author.Rules.{rules}
use Rattle.std.specs.Prelude.{Err}
use Rattle.bits.specs.Bits.{Bytes}
use Rattle.sheets.proofs.AnswerLaws.{writes-fault, writes_short, writes-sheet}
use Rattle.sheets.proofs.PlanFieldLaws.{fields_fit, put-plan}
use Rattle.sheets.specs.PlanSheet.{plan_sheet, write_plan, plan_out}
use Rattle.sheets.proofs.plans.write_plan.Goals as goal

pub returns-in_err-blame-clause-written : goal.returns-in_err-blame-clause-written
unfolding write_plan plan_out
returns-in_err-blame-clause-written c =
    let e : c.from_residual.result ≡ Err c.in_err-blame.field-0.0 = search rules in
    rw e (writes-fault _ _ _ (plan_sheet c.args.plan.now) c.args.out.now _ _ c.plan_record_fault.ensures _ c.in_err-blame.ensures refl)

pub returns-in_err-length-clause-written : goal.returns-in_err-length-clause-written
unfolding write_plan plan_out
returns-in_err-length-clause-written c =
    let r = c.in_err-length.ensures.short in
    let e : c.from_residual-in_err-length.result ≡ Err c.in_err-length.field-0.0 = search rules in
    rw (e, r.1) (writes_short _ _ _ (plan_sheet c.args.plan.now) c.args.out.now _ _ c.plan_record_fault.ensures c.in_ok-blame.ensures (rw (← c.plan_end-end.ensures) r.0))

pub put_plan-requires-clause-fit : goal.put_plan-requires-clause-fit
put_plan-requires-clause-fit c = fields_fit _ _ _ c.plan_record_fault.ensures c.in_ok-blame.ensures

pub returns-clause-written : goal.returns-clause-written
unfolding write_plan plan_out
returns-clause-written c =
    let p = c.args.plan.now in
    let l = c.in_ok-length.ensures.ok in
    let d = c.plan_end-end.ensures in
    let fit = fields_fit p _ _ c.plan_record_fault.ensures c.in_ok-blame.ensures in
    let b : Bytes c.args.out.now = search rules in
    rw (l.0, d) (writes-sheet _ _ _ (plan_sheet p) c.args.out.now _ _ c.plan_record_fault.ensures _ c.in_ok-blame.ensures (rw (l.0, d) at l.1)
    (rw (c.put.ensures, c.put_plan.ensures, l.0, d) (put-plan p fit c.args.out.now b (rw (l.0, d) at l.1))))
