-- The cost while rows are placed one by one: with nothing placed it is 0 (`tracks-none`), and one row more lowers its type's
-- lowest instance and changes the cost only where it does (`tracks-put`).
use Prim.Native.Nat.{ℕ, ◌*◌, ◌<◌, ◌≤◌, min}
use mathlib.Core.Path.{◌≡◌, refl, sym, ap, ◌∙◌}
use mathlib.Core.Bool.{Bool, true, false, ◌&&◌}
use mathlib.Core.List.{List}
use mathlib.Core.Logic.{◌⊎◌, inl, inr, ⊎_elim}
use native.Mathlib.Decide.{ℕ_discrete, dec_lt}
use native.Mathlib.Omega.{arith}
use borrow.Author.Tests.{leb-true, eqb-true, ltb-true, le-leb, lt-leb, lt-ltb, eq-eqb}
use lib.Dec.{leb, eqb}
use lib.ListN.{length, replicate}
use lib.Seq.{get_or-set_same, get_or-set_other, set-get_or}
use Rattle.std.proofs.lemmas.Bool.{false_from_ne_true}
use Rattle.std.proofs.lemmas.List.{get_or-replicate}
use Rattle.basics.specs.Counting.{sum_to, only}
use Rattle.basics.specs.Tables.{cell}
use Rattle.basics.proofs.CountLaws.{sum_to-cong, and_both, both-and, same_test, Some, any_to-some, some-any_to, sum_to-below, sum_to-most}
use Rattle.basics.proofs.TableLaws.{cell-replicate}
use Rattle.sheets.specs.Limits.{op_cells, type_cells, inst_cells}
use Rattle.rules.specs.Rules.{placed}
use Rattle.rules.specs.Selection.{cost_at, selection_cost}
use Rattle.placing.specs.declared.Board.{Board}
use Rattle.placing.specs.Board.{OfJob}
use Rattle.placing.specs.Placing.{Placing, wants, needed, cost, needed_in, wants_in}
use Rattle.placing.specs.Options.{none, put}
use Rattle.placing.specs.Costing.{reached, lowered, cost_if, cost_with, Tracks}
use Rattle.placing.proofs.BoardLaws.{few-ops, few-insts, type-small}

-- ---- costs compared

-- of selections that agree
pub cost-cong : (costs types : List ℕ) (f g : ℕ → Bool) (k : ℕ) → ((i : ℕ) → i < k → f i ≡ g i)
    → selection_cost costs types f k ≡ selection_cost costs types g k
unfolding selection_cost cost_at
cost-cong costs types f g k h =
    sum_to-cong (cost_at costs types f) (cost_at costs types g) k (λ i l. ap (λ (t : Bool). only t (cell costs (cell types i))) (h i l))

only-rises : (a c : Bool) (x : ℕ) → (a ≡ true → c ≡ true) → only a x ≤ only c x
unfolding only
only-rises true c x h = rw (h refl) (omega arith)
only-rises false c x h = omega arith

-- of a selection that holds another
pub cost-rises : (costs types : List ℕ) (f g : ℕ → Bool) (k : ℕ) → ((i : ℕ) → i < k → f i ≡ true → g i ≡ true)
    → selection_cost costs types f k ≤ selection_cost costs types g k
unfolding selection_cost cost_at
cost-rises costs types f g k h =
    sum_to-below (cost_at costs types f) (cost_at costs types g) k (λ i l. only-rises (f i) (g i) (cell costs (cell types i)) (h i l))

-- ---- what an operation wants

module _ (b : Board) (p : Placing) (i o : ℕ) where
  abbrev inst : ℕ
  inst = cell p.insts o

  pub wants-says : wants b p i o ≡ true → (placed p.starts o ≡ true) × (cell b.types inst ≡ cell b.types i) × (inst ≤ i)
  unfolding wants_in
  wants-says h =
      let same : Bool = eqb (cell b.types inst) (cell b.types i) in
      let w = and_both (placed p.starts o && same) (leb inst i) h in
      let v = and_both (placed p.starts o) same w.0 in
      (v.0, eqb-true _ _ v.1, leb-true _ _ w.1)

  pub says-wants : placed p.starts o ≡ true → cell b.types inst ≡ cell b.types i → inst ≤ i → wants b p i o ≡ true
  unfolding wants_in
  says-wants h e l = both-and _ _ (both-and _ _ h (eq-eqb _ _ e)) (le-leb inst i l)

-- ---- nothing placed

pub none-unplaced : (o : ℕ) → placed none.starts o ≡ true → ⊥
none-unplaced o h = omega (arith, ltb-true 0 (cell none.starts o) h, cell-replicate op_cells o)

pub none_needed : (b : Board) (i : ℕ) → needed b none i ≡ false
unfolding needed_in
none_needed b i =
    false_from_ne_true (needed b none i) (λ e.
    let w = any_to-some (wants b none i) b.n e in
    none-unplaced w.number (wants-says b none i w.number w.holds).0)

pub tracks-none : (b : Board) → OfJob b → Tracks b none (replicate type_cells inst_cells) 0
unfolding cost selection_cost cost_at only
tracks-none b j =
    let free : sum_to (cost_at b.costs b.types (needed b none)) b.k ≤ 0 * b.k =
    sum_to-most _ 0 b.k (λ i l. rw (none_needed b i) (omega arith)) in
    record {
      lowest = λ i l.
          let e = get_or-replicate type_cells (cell b.types i) inst_cells 0 (type-small b j i l) in
          none_needed b i ∙ sym (rw e (lt-leb inst_cells i (omega (arith, few-insts b j))));
      costs = omega (arith, free);
    }

-- ---- one row more

-- the lowest instances with instance i too
module _ (types lows : List ℕ) (i : ℕ) (few : cell types i < length lows) where
  lowered-here : (x : ℕ) → cell types x ≡ cell types i → cell (lowered types lows i) (cell types x) ≡ min (cell lows (cell types x)) i
  lowered-here x e = rw e (get_or-set_same lows (cell types i) (min (cell lows (cell types i)) i) 0 few)

  lowered-there : (x : ℕ) → (cell types x ≡ cell types i → ⊥) → cell (lowered types lows i) (cell types x) ≡ cell lows (cell types x)
  lowered-there x d = get_or-set_other lows (cell types i) (cell types x) (min (cell lows (cell types i)) i) 0 d

  lowered-says : (x : ℕ) → reached types (lowered types lows i) x ≡ true → (reached types lows x ≡ true) ⊎ ((cell types i ≡ cell types x) × (i ≤ x))
  lowered-says x h =
      let r = leb-true (cell (lowered types lows i) (cell types x)) x h in
      elim (ℕ_discrete (cell types x) (cell types i)) [
        | yes e ↦
            let m = lowered-here x e in
            elim (dec_lt x (cell lows (cell types x))) [ yes l ↦ inr (sym e, omega arith) | no l ↦ inl (le-leb (cell lows (cell types x)) x (omega arith)) ]
        | no d ↦ inl (le-leb (cell lows (cell types x)) x (omega (arith, lowered-there x d)))
      ]

  says-lowered : (x : ℕ) → (reached types lows x ≡ true) ⊎ ((cell types i ≡ cell types x) × (i ≤ x)) → reached types (lowered types lows i) x ≡ true
  says-lowered x h =
      le-leb (cell (lowered types lows i) (cell types x)) x
      (⊎_elim (λ r.
      let l = leb-true (cell lows (cell types x)) x r in
      elim (ℕ_discrete (cell types x) (cell types i)) [ yes e ↦ omega (arith, lowered-here x e) | no d ↦ omega (arith, lowered-there x d) ])
      (λ r. omega (arith, lowered-here x (sym r.0))) h)

  lowered-still : cell lows (cell types i) ≤ i → lowered types lows i ≡ lows
  lowered-still l =
      let e : min (cell lows (cell types i)) i ≡ cell lows (cell types i) = omega arith in
      rw e (set-get_or lows (cell types i) 0)

-- the placing with operation op too, on instance i
module _ (b : Board) (p : Placing) (op s i : ℕ) (few : op < b.n) (free : cell p.starts op ≡ 0) (begins : 1 ≤ s)
    (starts : op < length p.starts) (insts : op < length p.insts) where
  abbrev more : Placing
  more = put p op (record { start = s; inst = i })

  put-says : (x : ℕ) → needed b more x ≡ true → (needed b p x ≡ true) ⊎ ((cell b.types i ≡ cell b.types x) × (i ≤ x))
  unfolding needed_in
  put-says x h = go (ℕ_discrete w.number op)
    where
      w : Some (wants b more x) b.n
      w = any_to-some (wants b more x) b.n h

      v : (placed more.starts w.number ≡ true)
          × (cell b.types (cell more.insts w.number) ≡ cell b.types x) × (cell more.insts w.number ≤ x)
      v = wants-says b more x w.number w.holds

      go : Dec (w.number ≡ op) → (needed b p x ≡ true) ⊎ ((cell b.types i ≡ cell b.types x) × (i ≤ x))
      go (yes e) =
          let r : cell more.insts w.number ≡ i = rw e (get_or-set_same p.insts op i 0 insts) in
          inr (rw r at v.1, rw r at v.2)
      go (no d) =
          let r = get_or-set_other p.starts op w.number s 0 d in
          let q = get_or-set_other p.insts op w.number i 0 d in
          inl (some-any_to (wants b p x) b.n w.number w.below
          (says-wants b p x w.number (rw r at v.0) (rw q at v.1) (rw q at v.2)))

  says-put : (x : ℕ) → (needed b p x ≡ true) ⊎ ((cell b.types i ≡ cell b.types x) × (i ≤ x)) → needed b more x ≡ true
  unfolding needed_in
  says-put x (inl h) =
      let w = any_to-some (wants b p x) b.n h in
      let v = wants-says b p x w.number w.holds in
      let d : w.number ≡ op → ⊥ = λ e. omega (arith, ltb-true 0 (cell p.starts w.number) v.0, ap (cell p.starts) e) in
      let r = get_or-set_other p.starts op w.number s 0 d in
      let q = get_or-set_other p.insts op w.number i 0 d in
      some-any_to (wants b more x) b.n w.number w.below (says-wants b more x w.number (rw r v.0) (rw q v.1) (rw q v.2))
  says-put x (inr h) =
      let r = get_or-set_same p.starts op s 0 starts in
      let q = get_or-set_same p.insts op i 0 insts in
      some-any_to (wants b more x) b.n op few (says-wants b more x op (rw r (lt-ltb 0 s begins)) (rw q h.0) (rw q h.1))

module _ (b : Board) (j : OfJob b) (p : Placing) (starts : length p.starts ≡ op_cells) (insts : length p.insts ≡ op_cells)
    (lows : List ℕ) (here : ℕ) (types : length lows ≡ type_cells) (tracks : Tracks b p lows here)
    (op s i : ℕ) (few : op < b.n) (free : cell p.starts op ≡ 0) (begins : 1 ≤ s) (below : i < b.k) where
  abbrev then : List ℕ
  then = lowered b.types lows i

  abbrev next : Placing
  next = put p op (record { start = s; inst = i })

  typed : cell b.types i < length lows
  typed = omega (arith, type-small b j i below)

  next-lowest : (x : ℕ) → x < b.k → needed b next x ≡ reached b.types then x
  next-lowest x l =
      let e = tracks.lowest x l in
      let a : op < length p.starts = omega (arith, few-ops b j) in
      let d : op < length p.insts = omega (arith, few-ops b j) in
      same_test _ _ (λ h. says-lowered b.types lows i typed x (⊎_elim (λ t. inl (sym e ∙ t)) inr (put-says b p op s i few free begins a d x h)))
      (λ h. says-put b p op s i few free begins a d x (⊎_elim (λ t. inl (e ∙ t)) inr (lowered-says b.types lows i typed x h)))

  next-cost : (t : Bool) → leb (cell lows (cell b.types i)) i ≡ t
      → cost_if t here (selection_cost b.costs b.types (reached b.types then) b.k) ≡ cost b next
  unfolding cost cost_if
  next-cost true h =
      let still = lowered-still b.types lows i typed (leb-true _ _ h) in
      tracks.costs ∙ cost-cong b.costs b.types (needed b p) (needed b next) b.k (λ x l. tracks.lowest x l ∙ sym (next-lowest x l ∙ rw still))
  next-cost false h = cost-cong b.costs b.types (reached b.types then) (needed b next) b.k (λ x l. sym (next-lowest x l))

pub tracks-put : (b : Board) → OfJob b → (p : Placing) → length p.starts ≡ op_cells → length p.insts ≡ op_cells
    → (lows : List ℕ) (here : ℕ) → length lows ≡ type_cells → Tracks b p lows here
    → (op s i : ℕ) → op < b.n → cell p.starts op ≡ 0 → 1 ≤ s → i < b.k
    → Tracks b (put p op (record { start = s; inst = i })) (lowered b.types lows i)
    (cost_with b.types b.costs (lowered b.types lows i) b.k here (cell lows (cell b.types i)) i)
unfolding cost_with
tracks-put b j p starts insts lows here types tracks op s i few free begins below =
    record {
      lowest = next-lowest b j p starts insts lows here types tracks op s i few free begins below;
      costs = next-cost b j p starts insts lows here types tracks op s i few free begins below (leb (cell lows (cell b.types i)) i) refl;
    }
