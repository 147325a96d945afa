-- Rows placed so far. `live`: the rules on rows, precedence, resource and chain hold among them. `cost`: what the smallest
-- selection that holds their instances and keeps selection order costs (`smallest-holds`, `smallest-ordered` and
-- `smallest-least` in proofs/SelectionLaws say that it is that). `Part`: one placing is part of another.
use Rattle.std.specs.Prelude.{ℕ, ◌≡◌, Bool, true, not, ◌||◌, ◌&&◌, List, ◌⊎◌, leb, eqb}
use Rattle.basics.specs.Counting.{all_to, any_to, only}
use Rattle.basics.specs.Tables.{cell, cells}
use Rattle.sheets.specs.Limits.{inst_cells}
use Rattle.rules.specs.Model.{row_table}
use Rattle.rules.specs.Rules.{placed, row_fault, precedence_ok, resource_ok, chains_ok}
use Rattle.rules.specs.Selection.{selection_cost}
use Rattle.placing.specs.declared.Board.{Board}
use Rattle.placing.specs.Board.{unit}

-- each operation's start and instance; start 0 is not placed
pub record Placing : Type 0 where
  pub starts : List ℕ
  pub insts : List ℕ

-- ---- live

-- the rule on rows, of operation o where it is placed (its instance will be selected)
unfoldable pub row_ok : Board → Placing → ℕ → Bool
row_ok b p o =
    let inst = cell p.insts o in
    not (placed p.starts o)
    || eqb (row_fault b.k b.t inst (unit b.times o inst) true (cell p.starts o) (unit b.delays o inst)) 0

unfoldable pub live : Board → Placing → Bool
live b p =
    all_to (row_ok b p) b.n
    && precedence_ok b.from b.to b.e p.starts (row_table (unit b.delays) p.insts)
    && resource_ok b.n p.starts p.insts (row_table (unit b.spacings) p.insts)
    && chains_ok b.from b.to b.e b.wire b.clock p.starts (row_table (unit b.times) p.insts)

-- ---- cost

-- operation o wants instance i selected: it is placed on i, or on one before i of the same type
unfoldable pub wants_in : List ℕ → List ℕ → List ℕ → ℕ → ℕ → Bool
wants_in types starts insts i o =
    let inst = cell insts o in
    placed starts o && eqb (cell types inst) (cell types i) && leb inst i

abbrev pub wants : Board → Placing → ℕ → ℕ → Bool
wants b p i o = wants_in b.types p.starts p.insts i o

-- some of n operations does
unfoldable pub needed_in : ℕ → List ℕ → List ℕ → List ℕ → ℕ → Bool
needed_in n types starts insts i = any_to (wants_in types starts insts i) n

abbrev pub needed : Board → Placing → ℕ → Bool
needed b p i = needed_in b.n b.types p.starts p.insts i

unfoldable pub cost : Board → Placing → ℕ
cost b p = selection_cost b.costs b.types (needed b p) b.k

-- the smallest selection, of k instances, as a plan has it
abbrev pub needed_at : ℕ → List ℕ → List ℕ → List ℕ → ℕ → ℕ
needed_at n types starts insts i = only (needed_in n types starts insts i) 1

unfoldable pub smallest_in : ℕ → ℕ → List ℕ → List ℕ → List ℕ → List ℕ
smallest_in n k types starts insts = cells (needed_at n types starts insts) k inst_cells

abbrev pub smallest : Board → Placing → List ℕ
smallest b p = smallest_in b.n b.k b.types p.starts p.insts

-- ---- parts

-- each operation that p places is placed so by q
pub record Part (p q : Placing) : Type 0 where
  pub rows : (o : ℕ) → (cell p.starts o ≡ 0) ⊎ ((cell p.starts o ≡ cell q.starts o) × (cell p.insts o ≡ cell q.insts o))
