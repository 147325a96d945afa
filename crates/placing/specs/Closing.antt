-- Closing over any problem: nodes, the choices that a node can be split on, and for each choice its children in their order. A
-- place may be closed where `closable` says so.
--     Tree     what a note spells of a place: nothing, where all choices are made; a closing mark; or a split with its children
--     Closes   the tree is whole and closed by the marks, at a node with so many choices to make
-- Where a cost that may close still may when it rises, nothing below a closed node is cheaper: `closes-below` in proofs/ClosingLaws.
-- At the end: the nodes of a board, which are its placings, and when a claim lets them be closed.
use Rattle.std.specs.Prelude.{ℕ, zero, suc, ◌≡◌, Bool, true, false, not, ◌&&◌, List, [], ◌∷◌, Option, Some, None, ◌≤◌, leb, ltb}
use Rattle.rules.specs.Rules.{placed}
use Rattle.placing.specs.declared.Board.{Board}
use Rattle.placing.specs.Placing.{Placing, cost}
use Rattle.placing.specs.Options.{options, live_ones}

infixr 30 ◌then◌
mutual
  pub data Tree : Type 0 where
    whole : Tree
    close : Tree
    split : ℕ → Trees → Tree

  -- one after another
  pub data Trees : Type 0 where
    no_more : Trees
    ◌then◌ : Tree → Trees → Trees

-- as many trees as nodes, and P holds of each node and its tree
module _ {Node : Type 0} (P : Node → Tree → Type 0) where
  abbrev pub Each : List Node → Trees → Type 0
  Each [] no_more = Unit {0}
  Each [] (t then ts) = ⊥
  Each (n ∷ ns) no_more = ⊥
  Each (n ∷ ns) (t then ts) = P n t × Each ns ts

module _ (Node : Type 0) (closable : Node → Bool) (choice : Node → ℕ → Bool) (children : Node → ℕ → List Node) where
  unfoldable pub Closes : ℕ → Node → Tree → Type 0
  Closes zero n whole = closable n ≡ true
  Closes zero n close = ⊥
  Closes zero n (split o ts) = ⊥
  Closes (suc d) n whole = ⊥
  Closes (suc d) n close = closable n ≡ true
  Closes (suc d) n (split o ts) = (choice n o ≡ true) × Each (Closes d) (children n o) ts

-- ---- in turn: a step at each node, which goes on from where the last one ended, or stops with a number

pub data Turn (A : Type 0) : Type 0 where
  goes : A → Turn A
  stops : ℕ → Turn A

module _ {A : Type 0} where
  unfoldable pub and_then : Turn A → (A → Turn A) → Turn A
  and_then (goes x) f = f x
  and_then (stops number) f = stops number

  unfoldable pub goes_if : Bool → ℕ → A → Turn A
  goes_if true number x = goes x
  goes_if false number x = stops number

module _ {Node A : Type 0} (step : Node → A → Turn A) where
  unfoldable pub in_turn : List Node → A → Turn A
  in_turn [] x = goes x
  in_turn (n ∷ ns) x = and_then (step n x) (in_turn ns)

-- ---- a board's placings

-- a plan at a cost, or that there is none
abbrev pub Claim : Type 0
Claim = Option ℕ

-- a cost is not below the claim's, where a plan is claimed; where none is, no cost will do
unfoldable pub allowed : Claim → ℕ → Bool
allowed None c = false
allowed (Some least) c = leb least c

-- a plan is claimed, at c or less
abbrev pub AtMost : Claim → ℕ → Type 0
AtMost None c = ⊥
AtMost (Some least) c = least ≤ c

abbrev pub closable : Board → Claim → Placing → Bool
closable b claim p = allowed claim (cost b p)

-- operation o is one of the board's, and not placed
unfoldable pub unplaced : ℕ → List ℕ → ℕ → Bool
unplaced n starts o = ltb o n && not (placed starts o)

abbrev pub choice : Board → Placing → ℕ → Bool
choice b p o = unplaced b.n p.starts o

-- its live options
abbrev pub split_on : Board → Placing → ℕ → List Placing
split_on b p o = live_ones b p o (options b)

-- the tree closes a placing with d operations to place
abbrev pub ClosesBoard : Board → Claim → ℕ → Placing → Tree → Type 0
ClosesBoard b claim d p tree = Closes Placing (closable b claim) (choice b) (split_on b) d p tree
