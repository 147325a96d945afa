-- A fault of the header or behind it stops; else the job is the one spelt.
use mathlib.Core.Path.{◌≡◌, sym, ◌∙◌}
use borrow.Author.Rules.{rules}
use Rattle.std.specs.Prelude.{Err}
use Rattle.basics.proofs.FaultLaws.{blamed-none}
use Rattle.sheets.proofs.JobLaws.{head-refused, body-refused, job-read}
use Rattle.sheets.proofs.jobs.read_job.Goals as goal

pub returns-in_err-blame-clause-read : goal.returns-in_err-blame-clause-read
returns-in_err-blame-clause-read c =
    let e : c.from_residual.result ≡ Err c.in_err-blame.field-0.0 = search rules in
    rw e (head-refused _ _ _ c.in_err-blame.ensures c.job_head_fault.ensures)

pub returns-in_err-blame-2-clause-read : goal.returns-in_err-blame-2-clause-read
returns-in_err-blame-2-clause-read c =
    let e : c.from_residual-in_err-blame-2.result ≡ Err c.in_err-blame-2.field-0.0 = search rules in
    let z = sym c.job_head_fault.ensures ∙ blamed-none _ _ _ c.in_ok-blame.ensures in
    rw e (body-refused _ _ _ _ z c.job_in-job.ensures c.in_err-blame-2.ensures c.job_body_fault.ensures)

pub returns-clause-read : goal.returns-clause-read
returns-clause-read c =
    let z = sym c.job_head_fault.ensures ∙ blamed-none _ _ _ c.in_ok-blame.ensures in
    job-read _ _ _ _ z c.job_in-job.ensures c.in_ok-blame-2.ensures c.job_body_fault.ensures
