use Rattle.std.proofs.Common.{ap, length, arith}
use Rattle.placing.proofs.LinkSteps.{next-none, next-some}
use Rattle.placing.proofs.links.LinkedIterator.next.Goals as goal

pub returns-then-o-self-clause-steps : goal.returns-then-o-self-clause-steps
returns-then-o-self-clause-steps c =
    let s = c.args.self.now in next-some s.near.now s.op s.leads s.from s.reach _ s.begins c.near_at-o.ensures c.if-o-self.true

pub returns-then-o-self-clause-goes : goal.returns-then-o-self-clause-goes
returns-then-o-self-clause-goes c = let e = ap length (returns-then-o-self-clause-steps c) in record { on = λ _. (tt, tt, omega (arith, e)); keeps = tt; rests = λ _. tt }

pub returns-else-o-self-clause-steps : goal.returns-else-o-self-clause-steps
returns-else-o-self-clause-steps c =
    let s = c.args.self.now in
    let e = next-none s.near.now s.op s.leads s.from s.reach _ s.begins c.near_at-o.ensures c.if-o-self.false in
    (e, e)
