-- The distance is tested, then the starts; then the plan is written.
use mathlib.Core.Path.{◌∙◌}
use Rattle.moves.proofs.DistanceLaws.{steps-far, near-cast, near-is}
use Rattle.moves.proofs.MoveSteps.{plan-sizes, slide-far, slide-out, slide-writes}
use Rattle.moves.proofs.sliding.slide_plan.Goals as goal

pub returns-then-unsigned_abs : goal.returns-then-unsigned_abs
returns-then-unsigned_abs c =
    let e = c.unsigned_abs.ensures.value ∙ steps-far c.args.distance c.ranges.distance in
    slide-far _ _ _ _ (rw (← e) c.if-unsigned_abs.true)

pub overflow_cast-distance : goal.overflow_cast-distance
overflow_cast-distance c =
    let e = c.unsigned_abs.ensures.value ∙ steps-far c.args.distance c.ranges.distance in
    near-cast _ c.ranges.distance (rw (← e) c.if-unsigned_abs.false)

pub moved_starts-starts-requires : goal.moved_starts-starts-requires
moved_starts-starts-requires c =
    let e = c.unsigned_abs.ensures.value ∙ steps-far c.args.distance c.ranges.distance in
    let n = near-is c.args.distance c.ranges.distance (rw (← e) c.if-unsigned_abs.false) in
    (rw (n, ← e) c.if-unsigned_abs.false, (plan-sizes c.args.plan.now c.requires).2)

pub returns-then-not-keeps : goal.returns-then-not-keeps
returns-then-not-keeps c =
    let e = c.unsigned_abs.ensures.value ∙ steps-far c.args.distance c.ranges.distance in
    let n = near-is c.args.distance c.ranges.distance (rw (← e) c.if-unsigned_abs.false) in
    slide-out _ _ _ (rw (← e) c.if-unsigned_abs.false) _ _ _ _ (rw n at c.moved_starts-starts.ensures) c.types_in-types.ensures c.timing_in-timing.ensures c.keeps.ensures _ c.if-not-keeps.true

pub returns : goal.returns
returns c =
    let e = c.unsigned_abs.ensures.value ∙ steps-far c.args.distance c.ranges.distance in
    let n = near-is c.args.distance c.ranges.distance (rw (← e) c.if-unsigned_abs.false) in
    slide-writes _ _ _ (rw (← e) c.if-unsigned_abs.false) _ _ _ _ (rw n at c.moved_starts-starts.ensures) c.types_in-types.ensures c.timing_in-timing.ensures c.keeps.ensures _ _ _ c.if-not-keeps.false
    c.write_plan.ensures.written
