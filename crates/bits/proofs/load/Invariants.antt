-- The loop has read the field of the bytes passed.
use Prim.Native.Nat.{◌*◌}
use mathlib.Core.Path.{◌≡◌}
use Rattle.bits.specs.Bits.{field}
use Rattle.bits.proofs.load.Given as goal

abbrev pub invariant-loop-j : goal.invariant-loop-j
invariant-loop-j l = l.number ≡ field l.s (8 * l.first) (8 * l.j)
