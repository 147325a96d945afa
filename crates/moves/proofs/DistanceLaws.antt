-- Distances: how far one is, and a start with one added, as the machine computes them.
use Prim.Native.Nat.{ℕ, ◌≤◌}
use mathlib.Core.Path.{◌≡◌, refl}
use native.Mathlib.Omega.{arith}
use borrow.Author.Differences.{ints}
use lib.IntN.{ℤ, pos, negsuc, ◌+ℤ◌}
use mir.Syntax.{w16, w32}
use mir.Val.{SFits, to_z, of_z}
use mir.ValLaws.{to_z-of_z}
use Rattle.std.specs.Int.{saturate_unsigned}
use Rattle.std.specs.Int.RustNames.{unsigned_abs}
use Rattle.sheets.specs.Limits.{max_steps}
use Rattle.moves.specs.Slide.{backward, steps, moved}

-- as the machine reads one that it is handed
module _ (z : ℤ) (f : SFits w32 z) where
  pub same : to_z w32 (of_z w32 z) ≡ z
  same = to_z-of_z w32 z f

  pub steps-far : unsigned_abs (to_z w32 (of_z w32 z)) ≡ steps z
  steps-far = rw same (go z)
    where
      go : (d : ℤ) → unsigned_abs d ≡ steps d
      go (pos n) = refl
      go (negsuc n) = refl

  -- a near one fits 16 bits
  module _ (near : steps z ≤ max_steps) where
    near_fits : (d : ℤ) → steps d ≤ max_steps → SFits w16 d
    near_fits (pos n) l = record { sfits = omega arith }
    near_fits (negsuc n) l = record { sfits = omega arith }

    pub near-cast : SFits w16 (to_z w32 (of_z w32 z))
    near-cast = rw same (near_fits z near)

    pub near-is : to_z w16 (of_z w16 (to_z w32 (of_z w32 z))) ≡ z
    near-is = rw same (to_z-of_z w16 z (near_fits z near))

added : (d : ℤ) (start : ℕ) → steps d ≤ max_steps → start ≤ max_steps → saturate_unsigned w16 (pos start +ℤ d) ≡ moved (backward d) (steps d) start
unfolding moved
added (pos n) start l m = omega (arith, ints)
added (negsuc n) start l m = omega (arith, ints)

pub added-moves : (d : ℤ) (start : ℕ) → SFits w16 d → steps d ≤ max_steps → start ≤ max_steps
    → saturate_unsigned w16 (pos start +ℤ to_z w16 (of_z w16 d)) ≡ moved (backward d) (steps d) start
added-moves d start f l m = rw (to_z-of_z w16 d f) (added d start l m)
