-- The smallest selection is what its name says: it holds the instances of all that is placed (`smallest-holds`), it keeps
-- selection order (`smallest-ordered`), any other that does both holds it and costs no less
-- (`smallest-least`, `smallest-costs`), and `cost` is what it costs (`cost-of-smallest`).
use Prim.Native.Nat.{ℕ, ◌<◌, ◌≤◌}
use mathlib.Core.Path.{◌≡◌, refl, sym, ◌∙◌}
use mathlib.Core.Bool.{Bool, true, false}
use mathlib.Core.List.{List}
use native.Mathlib.Decide.{dec_lt}
use native.Mathlib.Omega.{arith}
use borrow.Author.Tests.{eqb-true, eq-eqb}
use Rattle.basics.specs.Counting.{only}
use Rattle.basics.specs.Tables.{cell}
use Rattle.basics.proofs.CountLaws.{any_to-some, some-any_to, same_test}
use Rattle.basics.proofs.TableLaws.{cell-cells}
use Rattle.sheets.specs.Limits.{inst_cells}
use Rattle.rules.specs.Rules.{placed}
use Rattle.rules.specs.Selection.{selected, selection_cost}
use Rattle.placing.specs.declared.Board.{Board}
use Rattle.placing.specs.Board.{OfJob}
use Rattle.placing.specs.Placing.{Placing, wants, needed, cost, needed_at, smallest, needed_in, smallest_in}
use Rattle.placing.proofs.BoardLaws.{few-insts}
use Rattle.placing.proofs.CostLaws.{cost-cong, cost-rises, wants-says, says-wants}

-- ---- a cell of it

only_one : (t : Bool) → only t 1 ≡ 1 → t ≡ true
unfolding only
only_one true h = refl
only_one false h = absurd (omega arith)

pub smallest-cell : (b : Board) → OfJob b → (p : Placing) (i : ℕ) → i < b.k → cell (smallest b p) i ≡ only (needed b p i) 1
unfolding smallest_in
smallest-cell b j p i l = cell-cells (needed_at b.n b.types p.starts p.insts) b.k inst_cells i l (few-insts b j)

smallest-needed : (b : Board) → OfJob b → (p : Placing) (i : ℕ) → i < b.k → cell (smallest b p) i ≡ 1 → needed b p i ≡ true
smallest-needed b j p i l h = only_one (needed b p i) (sym (smallest-cell b j p i l) ∙ h)

needed-smallest : (b : Board) → OfJob b → (p : Placing) (i : ℕ) → i < b.k → needed b p i ≡ true → cell (smallest b p) i ≡ 1
unfolding only
needed-smallest b j p i l h = smallest-cell b j p i l ∙ rw h

-- ---- what is asked of a selection

-- every placed operation's instance is selected
abbrev pub Holds : Board → Placing → List ℕ → Type 0
Holds b p sel = (o : ℕ) → o < b.n → placed p.starts o ≡ true → cell sel (cell p.insts o) ≡ 1

-- within a type no selected instance precedes an unselected one
abbrev pub Ordered : Board → List ℕ → Type 0
Ordered b sel = (i l : ℕ) → i < l → l < b.k → cell b.types i ≡ cell b.types l → cell sel i ≡ 1 → cell sel l ≡ 1

-- ---- the smallest one does it

pub smallest-holds : (b : Board) → OfJob b → (p : Placing) → ((o : ℕ) → o < b.n → placed p.starts o ≡ true → cell p.insts o < b.k)
    → Holds b p (smallest b p)
unfolding needed_in
smallest-holds b j p below o l h =
    let i : ℕ = cell p.insts o in
    needed-smallest b j p i (below o l h) (some-any_to (wants b p i) b.n o l (says-wants b p i o h refl (omega arith)))

pub smallest-ordered : (b : Board) → OfJob b → (p : Placing) → Ordered b (smallest b p)
unfolding needed_in
smallest-ordered b j p i l il lk e h =
    let w = any_to-some (wants b p i) b.n (smallest-needed b j p i (omega arith) h) in
    let v = wants-says b p i w.number w.holds in
    needed-smallest b j p l lk (some-any_to (wants b p l) b.n w.number w.below (says-wants b p l w.number v.0 (v.1 ∙ e) (omega (arith, v.2))))

-- ---- and any that does holds it

needed-held : (b : Board) (p : Placing) (sel : List ℕ) → Holds b p sel → Ordered b sel → (i : ℕ) → i < b.k → needed b p i ≡ true → cell sel i ≡ 1
unfolding needed_in
needed-held b p sel holds ordered i l h =
    let w = any_to-some (wants b p i) b.n h in
    let o = w.number in
    let v = wants-says b p i o w.holds in
    let s = holds o w.below v.0 in
    elim (dec_lt (cell p.insts o) i) [
      | yes q ↦ ordered (cell p.insts o) i q l v.1 s
      | no q ↦ let e : cell p.insts o ≡ i = omega (arith, v.2) in rw e at s
    ]

pub smallest-least : (b : Board) → OfJob b → (p : Placing) (sel : List ℕ) → Holds b p sel → Ordered b sel
    → (i : ℕ) → i < b.k → cell (smallest b p) i ≡ 1 → cell sel i ≡ 1
smallest-least b j p sel holds ordered i l h = needed-held b p sel holds ordered i l (smallest-needed b j p i l h)

-- ---- cost

pub smallest-costs : (b : Board) → OfJob b → (p : Placing) (sel : List ℕ) → Holds b p sel → Ordered b sel
    → cost b p ≤ selection_cost b.costs b.types (selected sel) b.k
unfolding cost
smallest-costs b j p sel holds ordered =
    cost-rises b.costs b.types (needed b p) (selected sel) b.k (λ i l h. eq-eqb (cell sel i) 1 (needed-held b p sel holds ordered i l h))

pub cost-of-smallest : (b : Board) → OfJob b → (p : Placing) → selection_cost b.costs b.types (selected (smallest b p)) b.k ≡ cost b p
unfolding cost
cost-of-smallest b j p =
    cost-cong b.costs b.types (selected (smallest b p)) (needed b p) b.k (λ i l.
    same_test _ _ (λ h. smallest-needed b j p i l (eqb-true _ _ h)) (λ h. eq-eqb (cell (smallest b p) i) 1 (needed-smallest b j p i l h)))
