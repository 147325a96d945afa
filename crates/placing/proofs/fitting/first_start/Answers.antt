-- Those yielded are those that are linked.
use Prim.Native.Nat.{ℕ, max}
use lib.ListN.{length}
use Rattle.std.specs.List.{fold}
use Rattle.std.proofs.lemmas.Iterator.Consumers.{YieldsList-turn, YieldsList-end}
use Rattle.std.proofs.lemmas.List.{map-id}
use Rattle.placing.proofs.LinkSteps.{first-over, linked-below, linked-road}
use Rattle.placing.specs.Fitting.{end_of}
use mathlib.Core.Path.{◌∙◌, ap, sym}
use native.Mathlib.Omega.{arith}
use Rattle.placing.proofs.fitting.first_start.Goals as goal

pub end_of-requires : goal.end_of-requires
end_of-requires c =
    let a = c.args in
    let l = c.loop-o in
    let w = YieldsList-turn (linked-road c.into_iter-o-iterator.ensures.into_iter_gives c.below-o-items.ensures) l.yielded l.o-iterator l.yielded_by _ c.next.new.self c.in-Some.o c.in-Some.is c.next.ensures.steps in
    omega (arith, w.1, linked-below a.near.now a.op 0 a.op (length l.yielded) c.in-Some.o w.0)

pub returns : goal.returns
returns c =
    let a = c.args in
    let l = c.loop-o in
    let later = λ (first o : ℕ). max first (end_of a.delays.now a.starts.now a.insts.now o) in
    let w = YieldsList-end (linked-road c.into_iter-o-iterator.ensures.into_iter_gives c.below-o-items.ensures) l.yielded l.o-iterator l.yielded_by _ c.next.new.self c.in-None.is c.next.ensures.steps in
    l.invariant ∙ ap (fold later 1) (sym (map-id l.yielded) ∙ w.0) ∙ first-over a.near.now a.op a.delays.now a.starts.now a.insts.now a.op
