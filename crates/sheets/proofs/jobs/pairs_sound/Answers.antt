-- Each kind is tested.
use borrow.Author.Rules.{rules}
use Rattle.basics.proofs.ChainLaws.{all_to-ran}
use Rattle.sheets.specs.JobRecord.{pair_sound}
use Rattle.sheets.proofs.jobs.pairs_sound.Goals as goal

pub returns : goal.returns
unfolding pair_sound
returns c = all_to-ran _ _ c.all.ensures.ran (λ x b q k. search rules)
