use borrow.Author.Rules.{rules}
use Rattle.basics.proofs.ChainLaws.{all_to-ran}
use Rattle.moves.specs.Slide.{keeps}
use Rattle.moves.proofs.sliding.keeps.Goals as goal

pub returns : goal.returns
unfolding keeps
returns c = all_to-ran _ _ c.all.ensures.ran (λ x b q k. search rules)
