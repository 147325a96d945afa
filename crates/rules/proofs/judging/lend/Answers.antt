-- Each paper is read in turn, and the first that cannot be read ends the question.
use Rattle.rules.proofs.JudgeLaws.{job-unread, plan-unread, both-read}
use Rattle.rules.proofs.judging.lend.Goals as goal

pub returns-in-Err : goal.returns-in-Err
returns-in-Err c = rw (c.default.ensures, c.default-in-Err.ensures) (job-unread c.args.order c.args.job.now c.args.plan.now c.in-Err.refusal c.in-Err.ensures.read)

pub returns-in-Err-read_plan : goal.returns-in-Err-read_plan
returns-in-Err-read_plan c =
    rw c.default-in-Err-read_plan.ensures
    (plan-unread c.args.order c.args.job.now c.args.plan.now c.in-Ok.job c.in-Ok.ensures.read c.in-Err-read_plan.refusal c.in-Err-read_plan.ensures.read)

pub returns : goal.returns
returns c =
    both-read c.args.order c.args.job.now c.args.plan.now c.in-Ok.job c.in-Ok.ensures.read c.in-Ok-read_plan.plan c.in-Ok-read_plan.ensures.read _ c.judged_with.ensures
