-- A fault of the header or behind it stops; else the plan is the one spelt.
use mathlib.Core.Path.{◌≡◌, sym, ◌∙◌}
use borrow.Author.Rules.{rules}
use Rattle.std.specs.Prelude.{Err}
use Rattle.basics.proofs.FaultLaws.{blamed-none}
use Rattle.sheets.proofs.PlanLaws.{head-refused, body-refused, plan-read}
use Rattle.sheets.proofs.plans.read_plan.Goals as goal

pub returns-in_err-blame-clause-read : goal.returns-in_err-blame-clause-read
returns-in_err-blame-clause-read c =
    let e : c.from_residual.result ≡ Err c.in_err-blame.field-0.0 = search rules in
    rw e (head-refused _ _ _ c.in_err-blame.ensures c.plan_head_fault.ensures)

pub returns-in_err-blame-2-clause-read : goal.returns-in_err-blame-2-clause-read
returns-in_err-blame-2-clause-read c =
    let e : c.from_residual-in_err-blame-2.result ≡ Err c.in_err-blame-2.field-0.0 = search rules in
    let z = sym c.plan_head_fault.ensures ∙ blamed-none _ _ _ c.in_ok-blame.ensures in
    rw e (body-refused _ _ _ _ z c.plan_in-plan.ensures c.in_err-blame-2.ensures c.plan_body_fault.ensures)

pub returns-clause-read : goal.returns-clause-read
returns-clause-read c =
    let z = sym c.plan_head_fault.ensures ∙ blamed-none _ _ _ c.in_ok-blame.ensures in
    plan-read _ _ _ _ z c.plan_in-plan.ensures c.in_ok-blame-2.ensures c.plan_body_fault.ensures
