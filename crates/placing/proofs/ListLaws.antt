-- Lists of options and of placings: an element among them (`Among`), and that they stand in an order (`InOrder`).
use mathlib.Core.Path.{◌≡◌, sym, subst}
use mathlib.Core.List.{List, [], ◌∷◌, ◌++◌}
use mathlib.Core.Logic.{◌⊎◌, inl, inr, ⊎_elim}
use Rattle.placing.specs.Bound.{All, gather}
use Rattle.placing.proofs.BoundLaws.{all_append, all_map, all-gather}

module _ {A : Type 0} where
  abbrev pub Among : A → List A → Type 0
  Among x [] = ⊥
  Among x (y ∷ ys) = (x ≡ y) ⊎ Among x ys

  -- whatever stands before another in the list is related to it
  abbrev pub InOrder : (A → A → Type 0) → List A → Type 0
  InOrder R [] = Unit {0}
  InOrder R (x ∷ xs) = All (R x) xs × InOrder R xs

  -- ---- among

  pub all_among : (P : A → Type 0) (xs : List A) → All P xs → (x : A) → Among x xs → P x
  all_among P [] p x h = absurd h
  all_among P (y ∷ ys) p x (inl e) = subst P (sym e) p.0
  all_among P (y ∷ ys) p x (inr h) = all_among P ys p.1 x h

  pub among-left : (x : A) (xs ys : List A) → Among x xs → Among x (xs ++ ys)
  among-left x [] ys h = absurd h
  among-left x (y ∷ xs) ys (inl e) = inl e
  among-left x (y ∷ xs) ys (inr h) = inr (among-left x xs ys h)

  pub among-right : (x : A) (xs ys : List A) → Among x ys → Among x (xs ++ ys)
  among-right x [] ys h = h
  among-right x (y ∷ xs) ys h = inr (among-right x xs ys h)

  pub among-either : (x : A) (xs ys : List A) → Among x (xs ++ ys) → Among x xs ⊎ Among x ys
  among-either x [] ys h = inr h
  among-either x (y ∷ xs) ys (inl e) = inl (inl e)
  among-either x (y ∷ xs) ys (inr h) = ⊎_elim (λ a. inl (inr a)) inr (among-either x xs ys h)

  pub among-gather : (f : A → List A) (xs : List A) (c x : A) → Among c xs → Among x (f c) → Among x (gather f xs)
  unfolding gather
  among-gather f [] c x m h = absurd m
  among-gather f (y ∷ ys) c x (inl e) h = among-left x (f y) (gather f ys) (subst (λ (z : A). Among x (f z)) e h)
  among-gather f (y ∷ ys) c x (inr m) h = among-right x (f y) (gather f ys) (among-gather f ys c x m h)

  -- ---- in order

  pub ordered-append : (R : A → A → Type 0) (xs ys : List A) → InOrder R xs → InOrder R ys → All (λ x. All (R x) ys) xs → InOrder R (xs ++ ys)
  ordered-append R [] ys p q h = q
  ordered-append R (x ∷ xs) ys p q h = (all_append (R x) xs ys p.0 h.0, ordered-append R xs ys p.1 q h.1)

  -- what stands behind an element
  pub ordered-behind : (R : A → A → Type 0) (xs : List A) (y : A) (ys : List A) → InOrder R (xs ++ y ∷ ys) → All (R y) ys
  ordered-behind R [] y ys p = p.0
  ordered-behind R (x ∷ xs) y ys p = ordered-behind R xs y ys p.1

  -- elements that have P, in order
  pub ordered-with : (P : A → Type 0) (R : A → A → Type 0) (xs : List A) → All P xs → InOrder R xs → InOrder (λ x y. P x × P y × R x y) xs
  ordered-with P R [] p q = tt
  ordered-with P R (x ∷ xs) p q = (both xs p.1 q.0, ordered-with P R xs p.1 q.1)
    where
      both : (ys : List A) → All P ys → All (R x) ys → All (λ y. P x × P y × R x y) ys
      both [] a b = tt
      both (y ∷ ys) a b = ((p.0, a.0, b.0), both ys a.1 b.1)

  -- the lists that are gathered stand in order, and all of one before all of the next
  pub ordered-gather : (R Q : A → A → Type 0) (f : A → List A) → ((c e : A) → Q c e → All (λ x. All (R x) (f e)) (f c))
      → (cs : List A) → All (λ c. InOrder R (f c)) cs → InOrder Q cs → InOrder R (gather f cs)
  unfolding gather
  ordered-gather R Q f h [] p q = tt
  ordered-gather R Q f h (c ∷ cs) p q =
      ordered-append R (f c) (gather f cs) p.0 (ordered-gather R Q f h cs p.1 q.1)
      (all_map (λ x. All (λ e. All (R x) (f e)) cs) (λ x. All (R x) (gather f cs)) (λ x a. all-gather (R x) f cs a) (f c)
      (turned (f c) cs (all_map (Q c) (λ e. All (λ x. All (R x) (f e)) (f c)) (λ e l. h c e l) cs q.0)))
    where
      turned : (xs es : List A) → All (λ e. All (λ x. All (R x) (f e)) xs) es → All (λ x. All (λ e. All (R x) (f e)) es) xs
      turned [] es a = tt
      turned (x ∷ xs) es a = (
        all_map (λ e. All (λ z. All (R z) (f e)) (x ∷ xs)) (λ e. All (R x) (f e)) (λ e w. w.0) es a,
        turned xs es (all_map (λ e. All (λ z. All (R z) (f e)) (x ∷ xs)) (λ e. All (λ z. All (R z) (f e)) xs) (λ e w. w.1) es a),
      )
