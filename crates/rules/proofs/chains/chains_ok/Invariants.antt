-- The runs that end with the links passed are within the clock, and what they bring is held.
use Rattle.rules.proofs.ChainLaws.{Tested}
use Rattle.rules.proofs.chains.chains_ok.Given as goal

abbrev pub invariant-loop-l : goal.invariant-loop-l
invariant-loop-l l = Tested l.from l.to l.wire l.clock l.starts l.times l.brought l.l
