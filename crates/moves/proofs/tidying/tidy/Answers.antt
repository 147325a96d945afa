-- A plan that breaks no rule but possibly selection order is tidied and written.
use mathlib.Core.Path.{ap}
use Rattle.std.proofs.lemmas.Result.{err_from_is_err_and}
use Rattle.rules.specs.Judge.{judged_of}
use Rattle.moves.proofs.MoveSteps.{lent-sound, tidy-passed, tidy-unfit}
use Rattle.moves.proofs.tidying.tidy.Goals as goal

pub returns-in_err-lent : goal.returns-in_err-lent
returns-in_err-lent c =
    let p = err_from_is_err_and c.from_residual.result c.from_residual.ensures.1 in
    rw (p.1, p.2) (tidy-unfit _ _ _ c.lend-lent.ensures _ _ (ap judged_of c.in_err-lent.was) _)

pub tidied-requires : goal.tidied-requires
tidied-requires c = lent-sound _ _ _ _ c.lend-lent.ensures

pub returns : goal.returns
returns c = tidy-passed _ _ _ c.lend-lent.ensures _ (ap judged_of c.in_ok-lent.was) _ c.tidied.ensures _ _ _ c.write_plan.ensures.written
