-- The loop has read the field of the bits passed.
use mathlib.Core.Path.{◌≡◌}
use Rattle.bits.specs.Bits.{field}
use Rattle.bits.proofs.field.Given as goal

abbrev pub invariant-loop-i : goal.invariant-loop-i
invariant-loop-i l = l.value ≡ field l.s l.at l.i
