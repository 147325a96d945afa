-- Branch and bound, over any problem where no child costs less than its parent: a walk leaves held the first of the cheapest
-- leaves below the best that it began with (`walk-finds`). Visits rise with each arrival (`visits-walk`). `All` and its laws
-- serve lists of leaves.
use Prim.Native.Nat.{ℕ, zero, suc, ◌+◌, ◌≤◌, ◌<◌}
use mathlib.Core.Path.{◌≡◌, refl, sym, ap, ◌∙◌}
use mathlib.Core.Bool.{Bool, true, false, ◌&&◌, true≢false}
use mathlib.Core.List.{List, [], ◌∷◌, ◌++◌, append_assoc, append-nil}
use mathlib.Core.Logic.{◌↔◌}
use native.Mathlib.Nat.{le_trans, le_refl, le_of_lt}
use native.Mathlib.Omega.{arith}
use lib.Dec.{leb}
use lib.Seq.{append_snoc}
use borrow.Author.Tests.{leb-true, leb-false, le-leb}
use Rattle.placing.specs.Bound.{Best, State, shut, tick, each, gather, All, taken, descend, better, cheapest, walk, leaves, First, Outcome, stays, found}

-- ---- all of a list

module _ {A : Type 0} where
  pub all_append : (P : A → Type 0) (xs ys : List A) → All P xs → All P ys → All P (xs ++ ys)
  all_append P [] ys p q = q
  all_append P (x ∷ xs) ys p q = (p.0, all_append P xs ys p.1 q)

  pub all_map : (P Q : A → Type 0) → ((x : A) → P x → Q x) → (xs : List A) → All P xs → All Q xs
  all_map P Q f [] p = tt
  all_map P Q f (x ∷ xs) p = (f x p.0, all_map P Q f xs p.1)

  pub all-gather : (P : A → Type 0) (f : A → List A) (xs : List A) → All (λ x. All P (f x)) xs → All P (gather f xs)
  unfolding gather
  all-gather P f [] p = tt
  all-gather P f (x ∷ xs) p = all_append P (f x) (gather f xs) p.0 (all-gather P f xs p.1)

  -- the element at a split
  pub at_mid : (P : A → Type 0) (xs : List A) (y : A) (ys : List A) → All P (xs ++ y ∷ ys) → P y
  at_mid P [] y ys p = p.0
  at_mid P (x ∷ xs) y ys p = at_mid P xs y ys p.1

  pub never-empty : (xs : List A) (x : A) (ys : List A) → [] ≡ xs ++ x ∷ ys → ⊥
  never-empty [] x ys q = let z : ◌≡◌ {A = ℕ} 0 1 = cc in omega arith
  never-empty (y ∷ xs) x ys q = let z : ◌≡◌ {A = ℕ} 0 1 = cc in omega arith

-- ---- the first of the cheapest, leaf by leaf

module _ (Node : Type 0) (cost : Node → ℕ) where
  pub cheapest-append : (b : Best Node) (xs ys : List Node) → cheapest Node cost b (xs ++ ys) ≡ cheapest Node cost (cheapest Node cost b xs) ys
  unfolding cheapest
  cheapest-append b [] ys = refl
  cheapest-append b (x ∷ xs) ys = cheapest-append (better Node cost b x) xs ys

  -- what is shut out at a cost is so at a greater one
  pub shut-more : (b : Best Node) (c e : ℕ) → c ≤ e → shut b c ≡ true → shut b e ≡ true
  shut-more b c e le t = go b.held t
    where
      go : (h : Bool) → (h && leb b.cost c) ≡ true → (h && leb b.cost e) ≡ true
      go true q = le-leb b.cost e (le_trans (leb-true b.cost c q) le)
      go false q = q

  open-less : (b : Best Node) (c e : ℕ) → c ≤ e → shut b e ≡ false → shut b c ≡ false
  open-less b c e le q = go (shut b c) refl
    where
      go : (t : Bool) → shut b c ≡ t → t ≡ false
      go true h = absurd (true≢false (sym (shut-more b c e le h) ∙ q))
      go false h = refl

  -- one that is not shut out costs less than one that is
  open-below : (b : Best Node) (c e : ℕ) → shut b c ≡ false → shut b e ≡ true → c < e
  open-below b c e q t = go b.held q t
    where
      go : (h : Bool) → (h && leb b.cost c) ≡ false → (h && leb b.cost e) ≡ true → c < e
      go true q t = omega (arith, leb-false b.cost c q, leb-true b.cost e t)
      go false q t = absurd (true≢false (sym t))

  -- where nothing is cheaper than c, and c is shut out, the best stays
  cheapest-shut : (b : Best Node) (c : ℕ) → shut b c ≡ true → (ls : List Node) → All (λ l. c ≤ cost l) ls → cheapest Node cost b ls ≡ b
  unfolding cheapest
  cheapest-shut b c t [] p = refl
  cheapest-shut b c t (l ∷ ls) p = rw (shut-more b c (cost l) p.0 t) (cheapest-shut b c t ls p.1)

-- ---- the walk. Ok d n: n is a node that it can meet with d to go; there a child is Ok, and costs no less

module _
    (Node : Type 0) (cost : Node → ℕ) (children : ℕ → Node → List Node) (Ok : ℕ → Node → Type 0)
    (grows : (d : ℕ) (n : Node) → Ok (suc d) n → All (λ c. Ok d c × (cost n ≤ cost c)) (children d n))
  where
    pub leaves-cost : (d : ℕ) (n : Node) → Ok d n → All (λ l. cost n ≤ cost l) (leaves Node children d n)
    unfolding leaves
    leaves-cost zero n ok = (le_refl (cost n), tt)
    leaves-cost (suc d) n ok =
        all-gather (λ l. cost n ≤ cost l) (leaves Node children d) (children d n)
        (all_map (λ c. Ok d c × (cost n ≤ cost c)) (λ c. All (λ l. cost n ≤ cost l) (leaves Node children d c))
        (λ c g. all_map (λ l. cost c ≤ cost l) (λ l. cost n ≤ cost l) (λ l h. le_trans g.1 h) (leaves Node children d c) (leaves-cost d c g.0))
        (children d n) (grows d n ok))

    pub each-best : (d : ℕ)
        → ((n : Node) (s : State Node) → Ok d n → (walk Node cost children d n s).best ≡ cheapest Node cost s.best (leaves Node children d n))
        → (cs : List Node) → All (Ok d) cs → (s : State Node)
        → (each (walk Node cost children d) cs s).best ≡ cheapest Node cost s.best (gather (leaves Node children d) cs)
    unfolding each gather cheapest
    each-best d ih [] p s = refl
    each-best d ih (c ∷ cs) p s =
        each-best d ih cs p.1 (walk Node cost children d c s)
        ∙ ap (λ (b : Best Node). cheapest Node cost b (gather (leaves Node children d) cs)) (ih c s p.0)
        ∙ sym (cheapest-append Node cost s.best (leaves Node children d c) (gather (leaves Node children d) cs))

    pub best-walk : (d : ℕ) (n : Node) (s : State Node) → Ok d n
        → (walk Node cost children d n s).best ≡ cheapest Node cost s.best (leaves Node children d n)
    unfolding walk leaves cheapest
    best-walk zero n s ok = refl
    best-walk (suc d) n s ok = go (best-walk d) (shut s.best (cost n)) refl
      where
        go : ((n : Node) (s : State Node) → Ok d n → (walk Node cost children d n s).best ≡ cheapest Node cost s.best (leaves Node children d n))
            → (t : Bool) → shut s.best (cost n) ≡ t
            → (descend (walk Node cost children d) (children d) n (tick s) t).best ≡ cheapest Node cost s.best (gather (leaves Node children d) (children d n))
        go ih true e = sym (cheapest-shut Node cost s.best (cost n) e (leaves Node children (suc d) n) (leaves-cost (suc d) n ok))
        go ih false e =
            each-best d ih (children d n)
            (all_map (λ c. Ok d c × (cost n ≤ cost c)) (Ok d) (λ c g. g.0) (children d n) (grows d n ok)) (tick s)

-- ---- what `cheapest` gives

module _ (Node : Type 0) (cost : Node → ℕ) where
  -- of one leaf more: dropped, since it costs no less, or held
  first_more : (ls : List Node) (b : Best Node) (l : Node) → First cost ls b → First cost (ls ++ l ∷ []) (better Node cost b l)
  first_more ls b l f = go (shut b (cost l)) refl
    where
      go : (t : Bool) → shut b (cost l) ≡ t → First cost (ls ++ l ∷ []) (taken (cost l) l b t)
      go true e =
          let e' : (true && leb b.cost (cost l)) ≡ true = rw f.is_held at e in
          record {
            is_held = f.is_held;
            is-cost = f.is-cost;
            sooner = f.sooner;
            later = f.later ++ l ∷ [];
            split = ap (λ (xs : List Node). xs ++ l ∷ []) f.split ∙ append_assoc f.sooner (b.node ∷ f.later) (l ∷ []);
            dearer = f.dearer;
            no-cheaper = all_append (λ x. b.cost ≤ cost x) f.later (l ∷ []) f.no-cheaper (leb-true b.cost (cost l) e', tt);
          }
      go false e =
          let e' : (true && leb b.cost (cost l)) ≡ false = rw f.is_held at e in
          let lt : cost l < b.cost = leb-false b.cost (cost l) e' in
          record {
            is_held = refl;
            is-cost = refl;
            sooner = ls;
            later = [];
            split = refl;
            dearer =
                rw f.split
                (all_append (λ x. cost l < cost x) f.sooner (b.node ∷ f.later)
                (all_map (λ x. b.cost < cost x) (λ x. cost l < cost x) (λ x h. omega arith) f.sooner f.dearer)
                (omega (arith, f.is-cost), all_map (λ x. b.cost ≤ cost x) (λ x. cost l < cost x) (λ x h. omega arith) f.later f.no-cheaper));
            no-cheaper = tt;
          }

  first-all : (seen : List Node) (b : Best Node) (ls : List Node) → First cost seen b → First cost (seen ++ ls) (cheapest Node cost b ls)
  unfolding cheapest
  first-all seen b [] f = rw append-nil f
  first-all seen b (l ∷ ls) f = rw append_snoc at (first-all (seen ++ l ∷ []) (better Node cost b l) ls (first_more seen b l f))

  -- every leaf costs at least what is found
  pub first-least : (ls : List Node) (b : Best Node) → First cost ls b → All (λ l. b.cost ≤ cost l) ls
  first-least ls b f =
      rw f.split
      (all_append (λ l. b.cost ≤ cost l) f.sooner (b.node ∷ f.later)
      (all_map (λ l. b.cost < cost l) (λ l. b.cost ≤ cost l) (λ l h. le_of_lt h) f.sooner f.dearer)
      (omega (arith, f.is-cost), f.no-cheaper))

  -- from any best, held or not
  pub cheapest-outcome : (b₀ : Best Node) (ls : List Node) → Outcome cost b₀ ls (cheapest Node cost b₀ ls)
  unfolding cheapest
  cheapest-outcome b₀ [] = stays tt refl
  cheapest-outcome b₀ (l ∷ ls) = go (shut b₀ (cost l)) refl (cheapest-outcome b₀ ls)
    where
      -- l is shut out: it costs more than what is found behind it
      behind : shut b₀ (cost l) ≡ true → (b : Best Node) → Outcome cost b₀ ls b → Outcome cost b₀ (l ∷ ls) b
      behind h b (stays a e) = stays (h, a) e
      behind h b (found f o) =
          found
          (record {
            is_held = f.is_held;
            is-cost = f.is-cost;
            sooner = l ∷ f.sooner;
            later = f.later;
            split = ap (λ (xs : List Node). l ∷ xs) f.split;
            dearer = (open-below Node cost b₀ b.cost (cost l) o h, f.dearer);
            no-cheaper = f.no-cheaper;
          })
          o

      go : (t : Bool) → shut b₀ (cost l) ≡ t → Outcome cost b₀ ls (cheapest Node cost b₀ ls)
          → Outcome cost b₀ (l ∷ ls) (cheapest Node cost (taken (cost l) l b₀ t) ls)
      go true h ih = behind h (cheapest Node cost b₀ ls) ih
      go false h ih =
          let b : Best Node = record { held = true; cost = cost l; node = l } in
          let f = first-all (l ∷ []) b ls (record { is_held = refl; is-cost = refl; sooner = []; later = []; split = refl; dearer = tt; no-cheaper = tt }) in
          found f (open-less Node cost b₀ (cheapest Node cost b ls).cost (cost l) (first-least (l ∷ ls) (cheapest Node cost b ls) f).0 h)

  -- two of one list hold one node
  same_first : (c e : ℕ) (s₁ s₂ : List Node) (x y : Node) (l₁ l₂ : List Node) → c ≡ cost x → e ≡ cost y
      → s₁ ++ x ∷ l₁ ≡ s₂ ++ y ∷ l₂
      → All (λ l. c < cost l) s₁ → All (λ l. c ≤ cost l) l₁ → All (λ l. e < cost l) s₂ → All (λ l. e ≤ cost l) l₂ → x ≡ y
  same_first c e [] [] x y l₁ l₂ p q m a b f g = cc
  same_first c e [] (z ∷ s₂) x y l₁ l₂ p q m a b f g =
      let h : x ≡ z = cc in
      let t : l₁ ≡ s₂ ++ y ∷ l₂ = cc in
      let k : c ≤ cost y = at_mid (λ l. c ≤ cost l) s₂ y l₂ (rw t at b) in
      absurd (omega (arith, f.0, ap cost h))
  same_first c e (z ∷ s₁) [] x y l₁ l₂ p q m a b f g =
      let h : z ≡ y = cc in
      let t : s₁ ++ x ∷ l₁ ≡ l₂ = cc in
      let k : e ≤ cost x = at_mid (λ l. e ≤ cost l) s₁ x l₁ (rw (← t) at g) in
      absurd (omega (arith, a.0, ap cost h))
  same_first c e (z ∷ s₁) (z' ∷ s₂) x y l₁ l₂ p q m a b f g =
      let t : s₁ ++ x ∷ l₁ ≡ s₂ ++ y ∷ l₂ = cc in
      same_first c e s₁ s₂ x y l₁ l₂ p q t a.1 b f.1 g

  pub first-unique : (ls : List Node) (b b' : Best Node) → First cost ls b → First cost ls b' → b.node ≡ b'.node
  first-unique ls b b' f g =
      same_first b.cost b'.cost f.sooner g.sooner b.node b'.node f.later g.later f.is-cost g.is-cost
      (sym f.split ∙ g.split) f.dearer f.no-cheaper g.dearer g.no-cheaper

  -- from nothing held, nothing is held exactly where there is no leaf, and else the first of the cheapest is
  none-held : (b₀ : Best Node) (ls : List Node) (b : Best Node) → b₀.held ≡ false → Outcome cost b₀ ls b → b.held ≡ false → ls ≡ []
  none-held b₀ [] b h o e = refl
  none-held b₀ (l ∷ ls) b h (stays a q) e = absurd (true≢false (sym (rw h at a.0)))
  none-held b₀ (l ∷ ls) b h (found f q) e = absurd (true≢false (sym f.is_held ∙ e))

  none_left : (b₀ : Best Node) (ls : List Node) (b : Best Node) → b₀.held ≡ false → Outcome cost b₀ ls b → ls ≡ [] → b.held ≡ false
  none_left b₀ ls b h (stays a q) e = ap (λ (x : Best Node). x.held) q ∙ h
  none_left b₀ ls b h (found f q) e = absurd (never-empty f.sooner b.node f.later (sym e ∙ f.split))

  pub some_first : (b₀ : Best Node) (ls : List Node) (b : Best Node) → b₀.held ≡ false → Outcome cost b₀ ls b → b.held ≡ true → First cost ls b
  some_first b₀ ls b h (stays a q) e = absurd (true≢false (sym e ∙ ap (λ (x : Best Node). x.held) q ∙ h))
  some_first b₀ ls b h (found f q) e = f

-- ---- what a walk leaves held

module _
    (Node : Type 0) (cost : Node → ℕ) (children : ℕ → Node → List Node) (Ok : ℕ → Node → Type 0)
    (grows : (d : ℕ) (n : Node) → Ok (suc d) n → All (λ c. Ok d c × (cost n ≤ cost c)) (children d n))
  where
    pub walk-finds : (d : ℕ) (n : Node) (s : State Node) → Ok d n
        → Outcome cost s.best (leaves Node children d n) (walk Node cost children d n s).best
    walk-finds d n s ok = rw (best-walk Node cost children Ok grows d n s ok) (cheapest-outcome Node cost s.best (leaves Node children d n))

    pub nothing-held : (d : ℕ) (n : Node) (s : State Node) → Ok d n → s.best.held ≡ false
        → ((walk Node cost children d n s).best.held ≡ false) ↔ (leaves Node children d n ≡ [])
    nothing-held d n s ok h =
        let o = walk-finds d n s ok in
        let b : Best Node = (walk Node cost children d n s).best in
        (none-held Node cost s.best (leaves Node children d n) b h o, none_left Node cost s.best (leaves Node children d n) b h o)

-- ---- visits never fall

module _ (Node : Type 0) (cost : Node → ℕ) (children : ℕ → Node → List Node) where
  visits-each-by : (d : ℕ) → ((n : Node) (s : State Node) → s.visits < (walk Node cost children d n s).visits)
      → (cs : List Node) (s : State Node) → s.visits ≤ (each (walk Node cost children d) cs s).visits
  unfolding each
  visits-each-by d ih [] s = le_refl s.visits
  visits-each-by d ih (c ∷ cs) s = le_trans (le_of_lt (ih c s)) (visits-each-by d ih cs (walk Node cost children d c s))

  pub visits-walk : (d : ℕ) (n : Node) (s : State Node) → s.visits < (walk Node cost children d n s).visits
  unfolding walk
  visits-walk zero n s = omega arith
  visits-walk (suc d) n s = go (visits-walk d) (shut s.best (cost n))
    where
      go : ((n : Node) (s : State Node) → s.visits < (walk Node cost children d n s).visits)
          → (t : Bool) → s.visits < (descend (walk Node cost children d) (children d) n (tick s) t).visits
      go ih true = omega arith
      go ih false = omega (arith, visits-each-by d ih (children d n) (tick s))

  pub visits-each : (d : ℕ) (cs : List Node) (s : State Node) → s.visits ≤ (each (walk Node cost children d) cs s).visits
  visits-each d = visits-each-by d (visits-walk d)

  -- a shut node is only counted
  pub walk-shut : (d : ℕ) (n : Node) (s : State Node) → shut s.best (cost n) ≡ true → walk Node cost children d n s ≡ tick s
  unfolding walk
  walk-shut zero n s e = rw e
  walk-shut (suc d) n s e = rw e

  -- an open one at depth 0 is the new best
  pub walk-leaf : (n : Node) (s : State Node) → shut s.best (cost n) ≡ false
      → walk Node cost children zero n s ≡ record { visits = s.visits + 1; best = record { held = true; cost = cost n; node = n } }
  unfolding walk
  walk-leaf n s e = rw e

  -- and further up its children are walked
  pub walk-open : (d : ℕ) (n : Node) (s : State Node) → shut s.best (cost n) ≡ false
      → walk Node cost children (suc d) n s ≡ each (walk Node cost children d) (children d n) (tick s)
  unfolding walk
  walk-open d n s e = rw e
