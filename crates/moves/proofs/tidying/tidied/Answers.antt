-- Each table is the definition's.
use Rattle.moves.specs.Tidy.{tidied}
use Rattle.moves.proofs.MoveSteps.{plan-sizes}
use Rattle.moves.proofs.tidying.tidied.Goals as goal

pub moves_in-moves-requires : goal.moves_in-moves-requires
moves_in-moves-requires c = (plan-sizes c.args.plan.now c.requires).1

pub returns : goal.returns
unfolding tidied
returns c = rw (c.follows_in.ensures, c.taken_in.ensures, c.moves_in-moves.ensures, c.types_in-types.ensures)
