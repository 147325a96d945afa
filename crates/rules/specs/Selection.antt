-- A selection: whether it keeps selection order (`order_ok`), and what it costs (`selection_cost`).
use Rattle.std.specs.Prelude.{ℕ, zero, suc, Bool, true, not, ◌||◌, List, eqb}
use Rattle.basics.specs.Counting.{all_to, sum_to, only}
use Rattle.basics.specs.Tables.{cell}

abbrev pub selected : List ℕ → ℕ → Bool
selected selection i = eqb (cell selection i) 1

-- ---- selection order: within a type no selected instance precedes an unselected one

-- instance i and the one before it
unfoldable pub order_at : List ℕ → List ℕ → ℕ → Bool
order_at types selection zero = true
order_at types selection (suc i) =
    not (eqb (cell types i) (cell types (suc i))) || not (selected selection i) || selected selection (suc i)

-- k instances
unfoldable pub order_ok : List ℕ → List ℕ → ℕ → Bool
order_ok types selection k = all_to (order_at types selection) k

-- ---- cost: the sum of costs of selected instances

-- what instance i adds to it
unfoldable pub cost_at : List ℕ → List ℕ → (ℕ → Bool) → ℕ → ℕ
cost_at costs types chosen i = only (chosen i) (cell costs (cell types i))

unfoldable pub selection_cost : List ℕ → List ℕ → (ℕ → Bool) → ℕ → ℕ
selection_cost costs types chosen k = sum_to (cost_at costs types chosen) k
