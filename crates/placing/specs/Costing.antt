-- The cost while rows are placed one by one. `lows` has each type's lowest instance that is needed, or a number behind all of
-- them; `Tracks` says that it and the cost `here` are those of a placing.
use Rattle.std.specs.Prelude.{ℕ, ◌<◌, min, ◌≡◌, Bool, true, false, List, leb, set}
use Rattle.basics.specs.Tables.{cell}
use Rattle.rules.specs.Selection.{selection_cost}
use Rattle.placing.specs.declared.Board.{Board}
use Rattle.placing.specs.Placing.{Placing, needed, cost}

-- instance i is needed
abbrev pub reached : List ℕ → List ℕ → ℕ → Bool
reached types lows i = leb (cell lows (cell types i)) i

-- the lowest instances with instance i too
abbrev pub lowered : List ℕ → List ℕ → ℕ → List ℕ
lowered types lows i = set lows (cell types i) (min (cell lows (cell types i)) i)

unfoldable pub cost_if : Bool → ℕ → ℕ → ℕ
cost_if true here anew = here
cost_if false here anew = anew

-- the cost with instance i, where `lows` has it already, and before the cost was `here` and its type's lowest instance `low`: only
-- a lower one changes it
unfoldable pub cost_with : List ℕ → List ℕ → List ℕ → ℕ → ℕ → ℕ → ℕ → ℕ
cost_with types costs lows k here low i = cost_if (leb low i) here (selection_cost costs types (reached types lows) k)

abbrev pub cost_on : Board → List ℕ → ℕ → ℕ → ℕ → ℕ
cost_on b lows here low i = cost_with b.types b.costs lows b.k here low i

pub record Tracks (b : Board) (p : Placing) (lows : List ℕ) (here : ℕ) : Type 0 where
  pub lowest : (i : ℕ) → i < b.k → needed b p i ≡ reached b.types lows i
  pub costs : here ≡ cost b p
