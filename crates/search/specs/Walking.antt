-- What the two recursive functions promise: `Walks`, of the walk of Search.antt at a level of its own. One visits a placing
-- (`walk_from`), the other goes on from an arrival that was counted and not shut out (`goes_on`); what they ask stands in placing's
-- Ready. `state_of` is the walk's state as the code has it.
use Rattle.std.specs.Prelude.{ℕ, zero, suc, ◌+◌, ◌≤◌, ◌<◌, ◌≡◌, true, false, Option, Some, None, MatchOption}
use Rattle.placing.specs.Bound.{Best, State, each}
use Rattle.placing.specs.Options.{none, children}
use Rattle.placing.specs.Placing.{Placing, cost}
use Rattle.placing.specs.Ready.{placing_of}
use Rattle.placing.specs.declared.Board.{Board}
use Rattle.search.specs.declared.walking.Best.{Best as Held}
use Rattle.search.specs.declared.walking.Walk.{Walk}
use Rattle.search.specs.Search.{walk_from}

abbrev pub best_of : Option Held → Best Placing
best_of None = record { held = false; cost = 0; node = none }
best_of (Some best) = record { held = true; cost = best.cost; node = placing_of best.rows }

abbrev pub state_of : Walk → State Placing
state_of w = record { visits = w.visits; best = best_of w.best }

-- one arrival more
abbrev pub counted : Walk → Walk
counted w = record w { visits = w.visits + 1 }

-- where an arrival is not shut out: with all placed this is the best, else the children are visited
unfoldable pub goes_on : Board → ℕ → Placing → State Placing → State Placing
goes_on b zero p s = record { visits = s.visits; best = record { held = true; cost = cost b p; node = p } }
goes_on b (suc d) p s = each (walk_from b d) (children b d p) s

-- ---- what is promised, where the walk ends at e: None exactly if it needs more visits than the budget; else its state, and the
-- rows placed as they came

pub record Done (budget : ℕ) (e : State Placing) (w w' : Walk) : Type 0 where
  pub within : e.visits ≤ budget
  pub ends : state_of w' ≡ e
  pub keeps : w'.rows ≡ w.rows

abbrev pub Walks : {A : Type 0} → ℕ → State Placing → Option A → Walk → Walk → Type 0
Walks budget e r w w' = MatchOption r (budget < e.visits) (λ _. Done budget e w w')
