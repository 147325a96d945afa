-- A plan that passed is slid.
use mathlib.Core.Path.{ap}
use Rattle.std.proofs.lemmas.Result.{err_from_is_err_and}
use Rattle.rules.specs.Judge.{judged_of}
use Rattle.moves.proofs.DistanceLaws.{same}
use Rattle.moves.proofs.MoveSteps.{lent-sound, slide-passed, slide-unfit}
use Rattle.moves.proofs.sliding.slide.Goals as goal

pub returns-in_err-lent : goal.returns-in_err-lent
returns-in_err-lent c =
    let p = err_from_is_err_and c.from_residual.result c.from_residual.ensures.1 in
    rw (p.1, p.2) (slide-unfit _ _ _ c.lend-lent.ensures _ _ (ap judged_of c.in_err-lent.was) _ _)

pub slide_plan-requires : goal.slide_plan-requires
slide_plan-requires c = lent-sound _ _ _ _ c.lend-lent.ensures

pub returns : goal.returns
returns c =
    slide-passed _ _ _ c.lend-lent.ensures _ (ap judged_of c.in_ok-lent.was) _ _ (same c.args.distance c.ranges.distance) _ _ _ c.slide_plan.ensures
