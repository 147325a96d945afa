-- The operations that a link joins to one of them, in their order: which is the next (`next-none`, `next-some`), that each is below the
-- end (`linked-below`), what the test of links, of chains and the first start are over them (`links-over`, `chained-over`, `first-over`),
-- and what a call over them gives (`all-linked`, `any-linked`).
use Prim.Native.Nat.{ℕ, zero, suc, ◌+◌, ◌-◌, ◌≤◌, ◌<◌, max}
use mathlib.Core.Path.{◌≡◌, refl, sym, ap, ◌∙◌}
use mathlib.Core.Bool.{Bool, true, false, cond, not, ◌||◌, ◌&&◌}
use mathlib.Core.List.{List, [], ◌∷◌, ◌++◌}
use Rattle.std.proofs.Common.{add-zero, zero-add}
use native.Mathlib.Omega.{arith}
use lib.Dec.{eqb}
use lib.ListN.{length, get_or}
use Rattle.std.specs.List.{filter, range_with_len, list_all, list_any, fold}
use denote.Param.Members.{Mut}
use Rattle.std.specs.Fn.{Called}
use Rattle.std.specs.Iterator.{YieldsFirst, CallableAtEachTurn, ChecksAll, ChecksAny}
use Rattle.std.proofs.lemmas.Iterator.{YieldsList}
use Rattle.std.proofs.lemmas.Iterator.Adapters.{serves_from_places}
use Rattle.std.proofs.lemmas.Iterator.Consumers.{YieldsList-from_first}
use Rattle.std.proofs.lemmas.Iterator.Search.{all_from_yields_List, any_from_yields_List}
use Rattle.std.proofs.lemmas.List.Sums.{fold-append}
use Rattle.basics.specs.Counting.{only}
use Rattle.basics.specs.Tables.{cell}
use Rattle.basics.proofs.ChainLaws.{all_to-chain, any_to-chain}
use Rattle.sheets.specs.Limits.{op_cells}
use Rattle.placing.specs.Board.{near_of, linked, Leads}
use Rattle.placing.specs.Fitting.{in_turn, pair_ok, link_fits, links_fit, chained_at, chained, end_of, first_start}
use Rattle.placing.specs.Linked.{linked_from, linked_left}
use Rattle.placing.specs.declared.links.Linked.{Linked}

-- ---- over the numbers that pass a test

list_all-filter : (test pass : ℕ → Bool) (xs : List ℕ) → list_all test (filter pass xs) ≡ list_all (λ x. not (pass x) || test x) xs
list_all-filter test pass [] = refl
list_all-filter test pass (x ∷ xs) =
    let e = list_all-filter test pass xs in
    elim (pass x) as (λ p. list_all test (cond p (x ∷ filter pass xs) (filter pass xs)) ≡ (not p || test x) && list_all (λ y. not (pass y) || test y) xs) [
      | true ↦ ap (λ r. test x && r) e
      | false ↦ e
    ]

list_any-filter : (test pass : ℕ → Bool) (xs : List ℕ) → list_any test (filter pass xs) ≡ list_any (λ x. pass x && test x) xs
list_any-filter test pass [] = refl
list_any-filter test pass (x ∷ xs) =
    let e = list_any-filter test pass xs in
    elim (pass x) as (λ p. list_any test (cond p (x ∷ filter pass xs) (filter pass xs)) ≡ (p && test x) || list_any (λ y. pass y && test y) xs) [
      | true ↦ ap (λ r. test x || r) e
      | false ↦ e
    ]

-- one number more
filter-last : (pass : ℕ → Bool) (a n : ℕ) → filter pass (range_with_len a (suc n)) ≡ filter pass (range_with_len a n) ++ cond (pass (a + n)) ((a + n) ∷ []) []
filter-last pass a zero = rw add-zero
filter-last pass a (suc n) =
    let z : a + 1 + n ≡ a + suc n = omega arith in
    let front : List ℕ = filter pass (range_with_len (a + 1) n) in
    let last : List ℕ = cond (pass (a + suc n)) ((a + suc n) ∷ []) [] in
    let more : filter pass (range_with_len (a + 1) (suc n)) ≡ front ++ last = rw z at (filter-last pass (a + 1) n) in
    elim (pass a) as (λ p. cond p (a ∷ filter pass (range_with_len (a + 1) (suc n))) (filter pass (range_with_len (a + 1) (suc n))) ≡ cond p (a ∷ front) front ++ last) [
      | true ↦ ap (λ xs. a ∷ xs) more
      | false ↦ more
    ]

module _ (near : List ℕ) (op : ℕ) where
  pub linked-below : (x m k d : ℕ) → k < length (linked_from near op x m) → get_or (linked_from near op x m) k d < x + m
  linked-below x zero k d l = absurd (omega arith)
  linked-below x (suc m) k d l =
      let after : List ℕ = linked_from near op (x + 1) m in
      let later : (j : ℕ) → j < length after → get_or after j d < x + suc m = λ j q. omega (arith, linked-below (x + 1) m j d q) in
      elim (linked near op x) as (λ p. k < length (cond p (x ∷ after) after) → get_or (cond p (x ∷ after) after) k d < x + suc m) [
        | true ↦ elim k as (λ j. j < suc (length after) → get_or (x ∷ after) j d < x + suc m) [ zero ↦ λ q. omega arith | suc j ↦ λ q. later j (omega arith) ]
        | false ↦ later k
      ] l

  -- those that are not linked are passed over
  over : (x m k : ℕ) → ((y : ℕ) → x ≤ y → y < x + m → linked near op y ≡ false) → linked_from near op x (m + k) ≡ linked_from near op (x + m) k
  over x zero k h = rw (zero-add, add-zero)
  over x (suc m) k h =
      let z : suc m + k ≡ suc (m + k) = omega arith in
      let e : x + 1 + m ≡ x + suc m = omega arith in
      rw (z, h x (omega arith) (omega arith), ← e) (over (x + 1) m k (λ y a b. h y (omega arith) (omega arith)))

  module _ (leads : Leads near op) where
    pub next-none : (x reach o : ℕ) → x ≤ op_cells → o ≡ near_of near op x → reach ≤ o → linked_from near op x (reach - x) ≡ []
    next-none x reach o l e h =
        let z : reach - x ≡ reach - x + 0 = omega arith in
        rw z (over x (reach - x) 0 (λ y a b. leads.passes x y l a (rw e at (let m : y < o = omega arith in m))))

    pub next-some : (x reach o : ℕ) → x ≤ op_cells → o ≡ near_of near op x → o < reach → linked_from near op x (reach - x) ≡ o ∷ linked_from near op (o + 1) (reach - (o + 1))
    next-some x reach o l e h =
        let a : x ≤ o = rw e (leads.ahead x l) in
        let z : reach - x ≡ o - x + suc (reach - (o + 1)) = omega arith in
        let y : x + (o - x) ≡ o = omega arith in
        let on : linked near op o ≡ true = rw e (leads.arrives x l) in
        let passed : linked_from near op x (o - x + suc (reach - (o + 1))) ≡ linked_from near op (x + (o - x)) (suc (reach - (o + 1))) =
        over x (o - x) (suc (reach - (o + 1))) (λ w b c. leads.passes x w l b (rw e at (let m : w < o = omega arith in m))) in
        rw (z, passed, y, on)

  -- ---- what is asked of them

  pub links-over : (times delays starts insts : List ℕ) (wire clock reach s time delay : ℕ)
      → list_all (λ o. in_turn delays starts insts op s delay o && pair_ok times starts insts wire clock s time o) (linked_from near op 0 reach)
      ≡ links_fit times delays near starts insts wire clock reach op s time delay
  unfolding links_fit link_fits
  links-over times delays starts insts wire clock reach s time delay =
      list_all-filter _ (linked near op) (range_with_len 0 reach) ∙ sym (all_to-chain (link_fits times delays near starts insts wire clock op s time delay) reach)

  pub chained-over : (starts : List ℕ) (reach s : ℕ) → list_any (λ o. eqb (cell starts o) s) (linked_from near op 0 reach) ≡ chained near starts reach op s
  unfolding chained chained_at
  chained-over starts reach s = list_any-filter _ (linked near op) (range_with_len 0 reach) ∙ sym (any_to-chain (chained_at near starts op s) reach)

  pub first-over : (delays starts insts : List ℕ) (n : ℕ)
      → fold (λ first o. max first (end_of delays starts insts o)) 1 (linked_from near op 0 n) ≡ first_start delays near starts insts op n
  unfolding first_start only
  first-over delays starts insts zero = refl
  first-over delays starts insts (suc n) =
      let later : ℕ → ℕ → ℕ = λ first o. max first (end_of delays starts insts o) in
      ap (fold later 1) (filter-last (linked near op) 0 n) ∙ fold-append later 1 (linked_from near op 0 n) _
      ∙ rw (zero-add, first-over delays starts insts n)
      (elim (linked near op n) as (λ p. fold later (first_start delays near starts insts op n) (cond p (n ∷ []) [])
      ≡ max (first_start delays near starts insts op n) (only p (end_of delays starts insts n))) [
        | true ↦ refl
        | false ↦ omega arith
      ])

-- ---- what runs over them: the call's clause `ran`, and what each call of the closure asks and gives

pub linked-road : {s t : Linked} {xs : List ℕ} → s ≡ t → linked_left t ≡ xs → YieldsList (YieldsFirst linked_left) (λ x. x) s xs
linked-road e left = YieldsList-from_first (λ x. x) linked_left _ (ap (λ (s : Linked). linked_left s) e ∙ left)

pub each-linked : (near : List ℕ) (op reach : ℕ) {s : Linked} → linked_left s ≡ linked_from near op 0 reach → reach ≤ op_cells
    → {F : Type 0} {R : F → ℕ → F → Type 0} {Q : F → ℕ → Type 0} {f : F}
    → ((x : ℕ) (q : F) → R f x q → q ≡ f) → ((x : ℕ) → x < op_cells → Q f x) → CallableAtEachTurn (YieldsFirst linked_left) R Q s f
each-linked near op reach left few keeps takes =
    serves_from_places (linked-road refl left) keeps (λ x k l e. takes x (omega (arith, e, linked-below near op 0 reach k x l)))

module _ {F : Type 0} {g : Mut F (ℕ × Unit {0}) Bool} {s : Linked} (u : Linked) {f : F} {r : Bool} (test : ℕ → Bool) {xs : List ℕ} (left : linked_left s ≡ xs)
    (calls : (x : ℕ) (b : Bool) (q : F) → Called g f (x, tt) b q → (q ≡ f) × (b ≡ test x)) where
  pub all-linked : ChecksAll (YieldsFirst linked_left) g s f r u → r ≡ list_all test xs
  all-linked ran = all_from_yields_List test u f r ran (linked-road refl left) calls

  pub any-linked : ChecksAny (YieldsFirst linked_left) g s f r u → r ≡ list_any test xs
  any-linked ran = any_from_yields_List test u f r ran (linked-road refl left) calls
