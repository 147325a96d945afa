-- A fault or a short output stops before the first put; else the fields and the fill make the sheet.
use mathlib.Core.Path.{◌≡◌, refl}
use borrow.Author.Rules.{rules}
use Rattle.std.specs.Prelude.{Err}
use Rattle.bits.specs.Bits.{Bytes}
use Rattle.sheets.proofs.AnswerLaws.{writes-fault, writes_short, writes-sheet}
use Rattle.sheets.proofs.JobFieldLaws.{fields_fit, put-job}
use Rattle.sheets.specs.JobRecord.{JobShape}
use Rattle.sheets.specs.JobSheet.{job_sheet, write_job, job_out}
use Rattle.sheets.proofs.jobs.write_job.Goals as goal

pub returns-in_err-blame-clause-written : goal.returns-in_err-blame-clause-written
unfolding write_job job_out
returns-in_err-blame-clause-written c =
    let e : c.from_residual.result ≡ Err c.in_err-blame.field-0.0 = search rules in
    rw e (writes-fault _ _ _ (job_sheet c.args.job.now) c.args.out.now _ _ c.job_record_fault.ensures _ c.in_err-blame.ensures refl)

pub returns-in_err-length-clause-written : goal.returns-in_err-length-clause-written
unfolding write_job job_out
returns-in_err-length-clause-written c =
    let r = c.in_err-length.ensures.short in
    let e : c.from_residual-in_err-length.result ≡ Err c.in_err-length.field-0.0 = search rules in
    rw (e, r.1) (writes_short _ _ _ (job_sheet c.args.job.now) c.args.out.now _ _ c.job_record_fault.ensures c.in_ok-blame.ensures (rw (← c.job_end-end.ensures) r.0))

pub put_job-requires-clause-fit : goal.put_job-requires-clause-fit
put_job-requires-clause-fit c = fields_fit _ _ _ c.job_record_fault.ensures c.in_ok-blame.ensures

pub returns-clause-written : goal.returns-clause-written
unfolding write_job job_out
returns-clause-written c =
    let j = c.args.job.now in
    let l = c.in_ok-length.ensures.ok in
    let d = c.job_end-end.ensures in
    let fit = fields_fit j _ _ c.job_record_fault.ensures c.in_ok-blame.ensures in
    let b : Bytes c.args.out.now = search rules in
    let t : JobShape j = search rules in
    rw (l.0, d) (writes-sheet _ _ _ (job_sheet j) c.args.out.now _ _ c.job_record_fault.ensures _ c.in_ok-blame.ensures (rw (l.0, d) at l.1)
    (rw (c.put.ensures, c.put_job.ensures, l.0, d) (put-job j fit t.cost_bound c.args.out.now b (rw (l.0, d) at l.1))))
