-- Branch and bound over any problem: nodes with a cost, and at each depth the children of a node in their order.
--     walk     counts an arrival, goes no further where a best is held and the cost is not below it, and goes down else
--     leaves   all that stands at depth 0, with nothing cut off
--     Outcome  what a walk should leave held: the first of the cheapest leaves below the best that it began with
-- That it does is proved once, where no child costs less than its parent: `walk-finds` in proofs/BoundLaws.
use Rattle.std.specs.Prelude.{ℕ, zero, suc, ◌+◌, ◌≤◌, ◌<◌, ◌≡◌, Bool, true, false, ◌&&◌, List, [], ◌∷◌, ◌++◌, leb}

-- the cheapest leaf so far, where one is held
pub record Best (Node : Type 0) : Type 0 where
  pub held : Bool
  pub cost : ℕ
  pub node : Node

pub record State (Node : Type 0) : Type 0 where
  pub visits : ℕ
  pub best : Best Node

-- a best is held and the cost c is not below it
abbrev pub shut : {Node : Type 0} → Best Node → ℕ → Bool
shut b c = b.held && leb b.cost c

-- one arrival more
abbrev pub tick : {Node : Type 0} → State Node → State Node
tick s = record { visits = s.visits + 1; best = s.best }

module _ {A S : Type 0} where
  -- f at each element in turn
  unfoldable pub each : (A → S → S) → List A → S → S
  each f [] s = s
  each f (x ∷ xs) s = each f xs (f x s)

module _ {A : Type 0} where
  unfoldable pub gather : (A → List A) → List A → List A
  gather f [] = []
  gather f (x ∷ xs) = f x ++ gather f xs

  abbrev pub All : (A → Type 0) → List A → Type 0
  All P [] = Unit {0}
  All P (x ∷ xs) = P x × All P xs

  -- the leaf n at cost c becomes the best, unless shut out
  abbrev pub taken : ℕ → A → Best A → Bool → Best A
  taken c n b true = b
  taken c n b false = record { held = true; cost = c; node = n }

  -- no further where shut, else all the children
  abbrev pub descend : (A → State A → State A) → (A → List A) → A → State A → Bool → State A
  descend f kids n s true = s
  descend f kids n s false = each f (kids n) s

module _ (Node : Type 0) (cost : Node → ℕ) where
  -- b, or n where that is cheaper
  abbrev pub better : Best Node → Node → Best Node
  better b n = taken (cost n) n b (shut b (cost n))

  -- the first of the cheapest
  unfoldable pub cheapest : Best Node → List Node → Best Node
  cheapest b [] = b
  cheapest b (l ∷ ls) = cheapest (better b l) ls

module _ (Node : Type 0) (cost : Node → ℕ) (children : ℕ → Node → List Node) where
  unfoldable pub walk : ℕ → Node → State Node → State Node
  walk zero n s = record { visits = s.visits + 1; best = better Node cost s.best n }
  walk (suc d) n s = descend (walk d) (children d) n (tick s) (shut s.best (cost n))

module _ (Node : Type 0) (children : ℕ → Node → List Node) where
  unfoldable pub leaves : ℕ → Node → List Node
  leaves zero n = n ∷ []
  leaves (suc d) n = gather (leaves d) (children d n)

-- ---- what is to be held after a walk over the leaves ls that began with b₀

-- b holds the first of the cheapest of ls
pub record First {Node : Type 0} (cost : Node → ℕ) (ls : List Node) (b : Best Node) : Type 0 where
  pub is_held : b.held ≡ true
  pub is-cost : b.cost ≡ cost b.node
  pub sooner : List Node
  pub later : List Node
  pub split : ls ≡ sooner ++ b.node ∷ later
  pub dearer : All (λ l. b.cost < cost l) sooner
  pub no-cheaper : All (λ l. b.cost ≤ cost l) later

-- what was held stays where every leaf is shut out, else the first of the cheapest is held, which was not
pub data Outcome {Node : Type 0} (cost : Node → ℕ) (b₀ : Best Node) (ls : List Node) (b : Best Node) : Type 0 where
  stays : All (λ l. shut b₀ (cost l) ≡ true) ls → b ≡ b₀ → Outcome cost b₀ ls b
  found : First cost ls b → shut b₀ b.cost ≡ false → Outcome cost b₀ ls b
