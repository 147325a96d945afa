-- The loop has put the bytes passed.
use Prim.Native.Nat.{◌*◌, ◌/◌, ◌-◌, ◌^◌}
use mathlib.Core.Path.{◌≡◌}
use Rattle.bits.specs.Bits.{put_field}
use Rattle.bits.proofs.store.Given as goal

abbrev pub invariant-loop-j : goal.invariant-loop-j
invariant-loop-j l = l.out ≡ put_field l.initial.out (8 * l.first) (8 * l.j) (l.x / 2 ^ (8 * (l.count - l.j)))
