-- The latest end of those passed.
use Prim.Native.Nat.{max}
use Rattle.placing.specs.Fitting.{end_of}
use Rattle.std.specs.List.{fold}
use mathlib.Core.Path.{◌≡◌}
use Rattle.placing.proofs.fitting.first_start.Given as goal

abbrev pub invariant-loop-o : goal.invariant-loop-o
invariant-loop-o l = l.first ≡ fold (λ first o. max first (end_of l.delays l.starts l.insts o)) 1 l.yielded
