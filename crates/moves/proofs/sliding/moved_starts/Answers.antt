use borrow.Author.Rules.{rules}
use Rattle.basics.proofs.TableLaws.{cells-held, within-each}
use Rattle.sheets.specs.Limits.{max_steps}
use Rattle.moves.proofs.sliding.moved_starts.Goals as goal

pub cells-requires : goal.cells-requires
cells-requires c =
    let w = within-each c.args.plan.now.starts max_steps c.args.plan.now.n c.requires.1 in
    search rules

pub returns : goal.returns
returns c = cells-held _ _ _ (λ i x l k. search rules) c.cells.ensures
