-- Each test of a rule holds exactly where the rule does as a person says it.
use Prim.Native.Nat.{ℕ, zero, suc, ◌+◌, ◌-◌, ◌*◌, ◌≤◌, ◌<◌}
use mathlib.Core.Path.{◌≡◌, refl, sym, ◌∙◌}
use mathlib.Core.Bool.{Bool, true, false, not, ◌||◌, ◌&&◌}
use mathlib.Core.List.{List}
use mathlib.Core.Logic.{◌⊎◌, inl, inr, ⊎_elim}
use native.Mathlib.Decide.{ℕ_discrete, dec_lt}
use native.Mathlib.Omega.{arith}
use borrow.Author.Tests.{leb-true, ltb-true, eqb-true, le-leb, lt-ltb, eq-eqb, ne_eqb}
use lib.Dec.{ltb, leb, eqb, lit<}
use Rattle.basics.specs.Numbers.{row_instance, row_kind, row_unselected, row_step}
use Rattle.basics.specs.Tables.{cell}
use Rattle.basics.proofs.CountLaws.{and_both, both-and, either, either_left, either-right, all_to-each, each-all_to, sum_to-most, only-small}
use Rattle.basics.proofs.FaultLaws.{or_else-none, none-or_else, unless-none, none-unless}
use Rattle.rules.specs.Selection.{selected, order_at, order_ok, cost_at, selection_cost}
use Rattle.rules.specs.Rules.{finish, row_fault, placed, precedes, spaced, apart, share_ok, beside_ok, resource_ok}

-- ---- tests

not-off : {a : Bool} → a ≡ false → not a ≡ true
not-off h = rw h

or_comm : (a b : Bool) → a || b ≡ b || a
or_comm true true = refl
or_comm true false = refl
or_comm false true = refl
or_comm false false = refl

not-both : (a : Bool) → a ≡ true → not a ≡ true → ⊥
not-both true e h = cc
not-both false e h = cc

-- ---- selection order, of types that rise

-- the first instance has none before it
pub order-at : (types selection : List ℕ) (i : ℕ)
    → order_at types selection i ≡ (eqb i 0 || not (eqb (cell types (i - 1)) (cell types i)) || not (selected selection (i - 1)) || selected selection i)
unfolding order_at
order-at types selection zero = refl
order-at types selection (suc i) = let q : suc i - 1 ≡ i = omega arith in rw (q, ne_eqb (suc i) 0 (omega arith))

pub ruleset order_laws = (order-at)

module _ (types selection : List ℕ) (k : ℕ) where
  abbrev Ordered : Type 0
  Ordered = (i l : ℕ) → i < l → l < k → cell types i ≡ cell types l → cell selection i ≡ 1 → cell selection l ≡ 1

  abbrev neighbours : ℕ → Bool
  neighbours i = not (eqb (cell types i) (cell types (suc i))) || not (selected selection i) || selected selection (suc i)

  next-says : (i : ℕ) → neighbours i ≡ true → cell types i ≡ cell types (suc i) → cell selection i ≡ 1 → cell selection (suc i) ≡ 1
  next-says i h e s =
      let other : Bool = not (eqb (cell types i) (cell types (suc i))) in
      let out : Bool = not (selected selection i) in
      eqb-true _ _ (⊎_elim (λ w. absurd (⊎_elim (not-both _ (eq-eqb (cell types i) (cell types (suc i)) e)) (not-both _ (eq-eqb (cell selection i) 1 s)) (either other out w))) (λ w. w)
      (either (other || out) (selected selection (suc i)) h))

  pub order-says : ((i l : ℕ) → i ≤ l → l < k → cell types i ≤ cell types l) → order_ok types selection k ≡ true → Ordered
  unfolding order_ok order_at
  order-says rise h i zero il lk e s = absurd (omega arith)
  order-says rise h i (suc l) il lk e s =
      let n : neighbours l ≡ true = all_to-each (order_at types selection) k h (suc l) lk in
      let q : cell types l ≡ cell types (suc l) = omega (arith, rise i l (omega arith) (omega arith), rise l (suc l) (omega arith) lk) in
      elim (dec_lt i l) [
        | yes w ↦ next-says l n q (order-says rise h i l w (omega arith) (e ∙ sym q) s)
        | no w ↦ let z : i ≡ l = omega arith in next-says l n q (rw z at s)
      ]

  says-next : Ordered → (i : ℕ) → i < k → order_at types selection i ≡ true
  unfolding order_at
  says-next h zero l = refl
  says-next h (suc i) l =
      elim (ℕ_discrete (cell types i) (cell types (suc i))) [
        | yes e ↦
            elim (ℕ_discrete (cell selection i) 1) [
              | yes s ↦ either-right (not (eqb (cell types i) (cell types (suc i))) || not (selected selection i)) _ (eq-eqb (cell selection (suc i)) 1 (h i (suc i) (omega arith) l e s))
              | no s ↦ either_left (not (eqb (cell types i) (cell types (suc i))) || not (selected selection i)) _ (either-right (not (eqb (cell types i) (cell types (suc i)))) _ (not-off (ne_eqb (cell selection i) 1 s)))
            ]
        | no e ↦ either_left (not (eqb (cell types i) (cell types (suc i))) || not (selected selection i)) _ (either_left _ _ (not-off (ne_eqb (cell types i) (cell types (suc i)) e)))
      ]

  pub says-order : Ordered → order_ok types selection k ≡ true
  unfolding order_ok
  says-order h = each-all_to (order_at types selection) k (says-next h)

-- ---- cost

-- k instances cost at most k times the most that one does
pub cost-most : (costs types : List ℕ) (chosen : ℕ → Bool) (most k : ℕ) → ((y : ℕ) → cell costs y ≤ most) → selection_cost costs types chosen k ≤ most * k
unfolding selection_cost cost_at
cost-most costs types chosen most k h =
    sum_to-most (cost_at costs types chosen) most k (λ i l. omega (arith, only-small (chosen i) (cell costs (cell types i)), h (cell types i)))

-- ---- a row

pub record RowOk (k t inst time : ℕ) (chosen : Bool) (start delay : ℕ) : Type 0 where
  pub instance : inst < k
  pub able : 0 < time
  pub selects : chosen ≡ true
  pub begins : 1 ≤ start
  pub ends : start + delay - 1 ≤ t

module _ (k t inst time : ℕ) (chosen : Bool) (start delay : ℕ) where
  pub none_row : row_fault k t inst time chosen start delay ≡ 0 → RowOk k t inst time chosen start delay
  unfolding row_fault finish
  none_row h =
      let a = or_else-none _ _ h in
      let b = or_else-none _ _ a.1 in
      let d = or_else-none _ _ b.1 in
      let w = and_both (leb 1 start) (leb (finish start delay) t) (unless-none _ row_step (lit< tt) d.1) in
      record {
        instance = ltb-true inst k (unless-none _ row_instance (lit< tt) a.0);
        able = ltb-true 0 time (unless-none _ row_kind (lit< tt) b.0);
        selects = unless-none _ row_unselected (lit< tt) d.0;
        begins = leb-true 1 start w.0;
        ends = leb-true (finish start delay) t w.1;
      }

  pub row-none : RowOk k t inst time chosen start delay → row_fault k t inst time chosen start delay ≡ 0
  unfolding row_fault finish
  row-none h =
      none-or_else _ _ (none-unless _ row_instance (lt-ltb inst k h.instance))
      (none-or_else _ _ (none-unless _ row_kind (lt-ltb 0 time h.able))
      (none-or_else _ _ (none-unless _ row_unselected h.selects)
      (none-unless _ row_step (both-and _ _ (le-leb 1 start h.begins) (le-leb (finish start delay) t h.ends)))))

-- ---- precedence

module _ (start delay start' delay' : ℕ) where
  pub precedes-says : precedes start delay start' delay' ≡ true → (start + delay ≤ start') ⊎ ((start ≡ start') × (delay ≡ 1) × (delay' ≡ 1))
  unfolding precedes finish
  precedes-says h =
      ⊎_elim (λ a. inl (omega (arith, ltb-true (finish start delay) start' a)))
      (λ a.
      let b = and_both (eqb start start' && eqb delay 1) (eqb delay' 1) a in
      let d = and_both (eqb start start') (eqb delay 1) b.0 in
      inr (eqb-true start start' d.0, eqb-true delay 1 d.1, eqb-true delay' 1 b.1))
      (either (ltb (finish start delay) start') (eqb start start' && eqb delay 1 && eqb delay' 1) h)

  pub says-precedes : 1 ≤ start → (start + delay ≤ start') ⊎ ((start ≡ start') × (delay ≡ 1) × (delay' ≡ 1)) → precedes start delay start' delay' ≡ true
  unfolding precedes finish
  says-precedes z h =
      ⊎_elim (λ a. either_left _ _ (lt-ltb (finish start delay) start' (omega arith)))
      (λ a. either-right (ltb (finish start delay) start') _ (both-and _ _ (both-and _ _ (eq-eqb start start' a.0) (eq-eqb delay 1 a.1)) (eq-eqb delay' 1 a.2))) h

-- ---- resource: of two placed on one instance, the later start exceeds the earlier by at least the spacing of the earlier

module _ (start spacing later : ℕ) where
  spaced-says : spaced start spacing later ≡ true → (start < later) × (start + spacing ≤ later)
  spaced-says h = let w = and_both (ltb start later) (leb (start + spacing) later) h in (ltb-true start later w.0, leb-true (start + spacing) later w.1)

  says-spaced : (start < later) × (start + spacing ≤ later) → spaced start spacing later ≡ true
  says-spaced h = both-and _ _ (lt-ltb start later h.0) (le-leb (start + spacing) later h.1)

-- where the second of two does not start earlier, it follows the first, by the first's spacing or more
abbrev pub Follows : ℕ → ℕ → ℕ → Type 0
Follows start spacing later = start ≤ later → (start < later) × (start + spacing ≤ later)

module _ (start spacing start' spacing' : ℕ) where
  pub apart-swap : apart start spacing start' spacing' ≡ apart start' spacing' start spacing
  unfolding apart
  apart-swap = or_comm (spaced start spacing start') (spaced start' spacing' start)

  pub apart-says : apart start spacing start' spacing' ≡ true → Follows start spacing start'
  unfolding apart
  apart-says h l =
      ⊎_elim (spaced-says start spacing start') (λ w. absurd (omega (arith, (spaced-says start' spacing' start w).0))) (either _ _ h)

  pub says-apart : Follows start spacing start' → Follows start' spacing' start → apart start spacing start' spacing' ≡ true
  unfolding apart
  says-apart p q =
      elim (dec_lt start' start) [
        | yes l ↦ either-right (spaced start spacing start') _ (says-spaced start' spacing' start (q (omega arith)))
        | no l ↦ either_left (spaced start spacing start') _ (says-spaced start spacing start' (p (omega arith)))
      ]

module _ (starts insts spacings : List ℕ) (b a : ℕ) where
  abbrev other : Bool
  other = not (eqb (cell insts a) (cell insts b))

  abbrev unplaced : Bool
  unplaced = not (placed starts a && placed starts b)

  abbrev rows_apart : Bool
  rows_apart = apart (cell starts a) (cell spacings a) (cell starts b) (cell spacings b)

  share_other : (cell insts a ≡ cell insts b → ⊥) → true ≡ share_ok starts insts spacings b a
  unfolding share_ok
  share_other h = rw (ne_eqb _ _ h)

  pub share-same : (r : Bool) → cell insts a ≡ cell insts b → r ≡ (unplaced || rows_apart) → r ≡ share_ok starts insts spacings b a
  unfolding share_ok
  share-same r h e = e ∙ sym (rw (eq-eqb _ _ h))

  pub share-unplaced : placed starts a && placed starts b ≡ false → share_ok starts insts spacings b a ≡ true
  unfolding share_ok
  share-unplaced h = either_left (other || unplaced) rows_apart (either-right other unplaced (not-off h))

  share-apart : share_ok starts insts spacings b a ≡ true → 1 ≤ cell starts a → 1 ≤ cell starts b → cell insts a ≡ cell insts b → rows_apart ≡ true
  unfolding share_ok
  share-apart h la lb e =
      let both : placed starts a && placed starts b ≡ true = both-and _ _ (lt-ltb 0 (cell starts a) la) (lt-ltb 0 (cell starts b) lb) in
      ⊎_elim (λ w. absurd (⊎_elim (not-both _ (eq-eqb (cell insts a) (cell insts b) e)) (not-both _ both) (either other unplaced w))) (λ w. w)
      (either (other || unplaced) rows_apart h)

  apart-share : (1 ≤ cell starts a → 1 ≤ cell starts b → cell insts a ≡ cell insts b → rows_apart ≡ true) → share_ok starts insts spacings b a ≡ true
  unfolding share_ok
  apart-share h =
      elim (ℕ_discrete (cell insts a) (cell insts b)) [
        | yes e ↦ go e (placed starts a && placed starts b) refl
        | no e ↦ sym (share_other e)
      ]
    where
      go : cell insts a ≡ cell insts b → (t : Bool) → placed starts a && placed starts b ≡ t → share_ok starts insts spacings b a ≡ true
      go e true t =
          let w = and_both (placed starts a) (placed starts b) t in
          either-right (other || unplaced) rows_apart (h (ltb-true 0 (cell starts a) w.0) (ltb-true 0 (cell starts b) w.1) e)
      go e false t = share-unplaced t

module _ (starts insts spacings : List ℕ) (n : ℕ) where
  -- of n operations, each two that are placed on one instance start apart
  abbrev AllApart : Type 0
  AllApart =
      (a b : ℕ) → a < n → b < n → (a ≡ b → ⊥) → 1 ≤ cell starts a → 1 ≤ cell starts b → cell insts a ≡ cell insts b
      → apart (cell starts a) (cell spacings a) (cell starts b) (cell spacings b) ≡ true

  pub resource-apart : resource_ok n starts insts spacings ≡ true → AllApart
  unfolding resource_ok beside_ok
  resource-apart h a b la lb d pa pb e =
      elim (dec_lt a b) [
        | yes l ↦ share-apart starts insts spacings b a (all_to-each (share_ok starts insts spacings b) b (all_to-each (beside_ok starts insts spacings) n h b lb) a l) pa pb e
        | no l ↦
            apart-swap _ _ _ _
            ∙ share-apart starts insts spacings a b (all_to-each (share_ok starts insts spacings a) a (all_to-each (beside_ok starts insts spacings) n h a la) b (omega (arith, d))) pb pa (sym e)
      ]

  pub apart-resource : AllApart → resource_ok n starts insts spacings ≡ true
  unfolding resource_ok beside_ok
  apart-resource h =
      each-all_to (beside_ok starts insts spacings) n (λ b lb. each-all_to (share_ok starts insts spacings b) b (λ a la.
      apart-share starts insts spacings b a (h a b (omega arith) lb (λ e. omega arith))))

  -- the same where all are placed
  module _ (at : (o : ℕ) → o < n → 1 ≤ cell starts o) where
    abbrev AllFollow : Type 0
    AllFollow = (a b : ℕ) → a < n → b < n → (a ≡ b → ⊥) → cell insts a ≡ cell insts b → Follows (cell starts a) (cell spacings a) (cell starts b)

    pub resource-says : resource_ok n starts insts spacings ≡ true → AllFollow
    resource-says h a b la lb d e = apart-says _ _ _ _ (resource-apart h a b la lb d (at a la) (at b lb) e)

    pub says-resource : AllFollow → resource_ok n starts insts spacings ≡ true
    says-resource h = apart-resource (λ a b la lb d pa pb e. says-apart _ _ _ _ (h a b la lb d e) (h b a lb la (λ q. d (sym q)) (sym e)))
