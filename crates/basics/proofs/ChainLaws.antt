-- What a chain of iterators over 0 to n - 1 gives, in the words of Counting and Tables.
use Prim.Native.Nat.{ℕ, zero, suc, ◌+◌, ◌-◌, ◌<◌, ◌≤◌}
use mathlib.Core.Path.{◌≡◌, refl, sym, ap, subst, ◌∙◌}
use mathlib.Core.Bool.{Bool, true, false, ◌&&◌, ◌||◌}
use mathlib.Core.List.{List, [], map, ◌∷◌, ◌++◌}
use native.Mathlib.Nat.{add-zero, zero-add}
use native.Mathlib.Omega.{arith}
use lib.ListN.{get_or}
use lib.Seq.{ext_get_or}
use native.Mathlib.Decide.{dec_lt}
use denote.Param.Members.{Mut}
use Rattle.std.specs.declared.iter.Map.{Map}
use Rattle.std.specs.declared.ops.Range.{Range}
use Rattle.std.specs.Prelude.{Option}
use Rattle.std.specs.Fn.{Called}
use Rattle.std.specs.Array.{IsFromFnResult, IsFromFnResultFrom}
use Rattle.std.specs.Bool.{⊤}
use Rattle.std.specs.Iterator.{YieldsThen, Drains}
use Rattle.std.specs.Iterator.Adapters.{map_source, map_callee}
use Rattle.std.specs.Iterator.Runs.{EachRunFrom}
use Rattle.std.specs.Option.{MatchOption}
use Rattle.std.specs.List.{FoldsTo, fold, list_all, list_any, sum_by, range_with_len}
use Rattle.std.proofs.iter.Yields.{nat_range_steps}
use Rattle.std.proofs.lemmas.Iterator.{YieldsList, YieldsList-from_range, YieldsList-from_map, maps}
use Rattle.std.proofs.lemmas.Iterator.Consumers.{YieldsList-at, sum_by_from_yields_List, fits_by_from_yields_list}
use Rattle.std.proofs.lemmas.Iterator.Search.{all_from_yields_List, any_from_yields_List}
use Rattle.std.proofs.lemmas.List.Folds.{list_all-append, list_any-append}
use Rattle.std.proofs.lemmas.List.Sums.{sum_by_push}
use Rattle.basics.specs.Counting.{all_to, any_to, sum_to}
use Rattle.basics.specs.Tables.{cells}
use Rattle.basics.proofs.TableLaws.{length-cells, cell-cells}

-- ---- the numbers below n, from the front

and-true : (a : Bool) → a && true ≡ a
and-true true = refl
and-true false = refl

or-false : (a : Bool) → a || false ≡ a
or-false true = refl
or-false false = refl

range-push : (a n : ℕ) → range_with_len a (suc n) ≡ range_with_len a n ++ (a + n) ∷ []
range-push a zero = rw add-zero refl
range-push a (suc n) =
    let e : a + 1 + n ≡ a + suc n = omega arith in
    rw (← e) (ap (λ xs. a ∷ xs) (range-push (a + 1) n))

range-last : (n : ℕ) → range_with_len 0 (suc n) ≡ range_with_len 0 n ++ n ∷ []
range-last n = rw (zero-add n) at (range-push 0 n)

pub all_to-chain : (test : ℕ → Bool) (n : ℕ) → all_to test n ≡ list_all test (range_with_len 0 n)
unfolding all_to
all_to-chain test zero = refl
all_to-chain test (suc n) =
    let h = list_all-append test (range_with_len 0 n) (n ∷ []) in
    rw (all_to-chain test n) (sym (ap (list_all test) (range-last n) ∙ h ∙ rw and-true))

pub any_to-chain : (test : ℕ → Bool) (n : ℕ) → any_to test n ≡ list_any test (range_with_len 0 n)
unfolding any_to
any_to-chain test zero = refl
any_to-chain test (suc n) =
    let h = list_any-append test (range_with_len 0 n) (n ∷ []) in
    rw (any_to-chain test n) (sym (ap (list_any test) (range-last n) ∙ h ∙ rw or-false))

pub sum_to-chain : (f : ℕ → ℕ) (n : ℕ) → sum_to f n ≡ sum_by f (range_with_len 0 n)
unfolding sum_to
sum_to-chain f zero = refl
sum_to-chain f (suc n) = rw (sum_to-chain f n) (sym (ap (sum_by f) (range-last n) ∙ sum_by_push f (range_with_len 0 n) n))

-- ---- what runs over `0..n`: the call's clause `ran`, and what each call of the closure gives

zeroed : (n : ℕ) → n - 0 ≡ n
zeroed n = omega arith

pub all_to-ran : {F : Type 0} {g : Mut F (ℕ × Unit {0}) Bool} {u : Range ℕ} {f : F} {r : Bool} (test : ℕ → Bool) (n : ℕ)
    → (xs : List ℕ) × (o : Option ℕ) × (j : F) × YieldsThen nat_range_steps (record { start = 0; end = n }) xs o u
    × FoldsTo (λ p x q. Called g p (x, tt) true q) f xs j
    × MatchOption o (r ≡ true) (λ x. (r ≡ false) × ((h : F) × Called g j (x, tt) false h))
    → ((x : ℕ) (b : Bool) (q : F) → Called g f (x, tt) b q → (q ≡ f) × (b ≡ test x)) → r ≡ all_to test n
all_to-ran {u} {f} {r} test n ran calls =
    all_from_yields_List test u f r ran (YieldsList-from_range 0 n n refl (zeroed n)) calls ∙ sym (all_to-chain test n)

pub any_to-ran : {F : Type 0} {g : Mut F (ℕ × Unit {0}) Bool} {u : Range ℕ} {f : F} {r : Bool} (test : ℕ → Bool) (n : ℕ)
    → (xs : List ℕ) × (o : Option ℕ) × (j : F) × YieldsThen nat_range_steps (record { start = 0; end = n }) xs o u
    × FoldsTo (λ p x q. Called g p (x, tt) false q) f xs j
    × MatchOption o (r ≡ false) (λ x. (r ≡ true) × ((h : F) × Called g j (x, tt) true h))
    → ((x : ℕ) (b : Bool) (q : F) → Called g f (x, tt) b q → (q ≡ f) × (b ≡ test x)) → r ≡ any_to test n
any_to-ran {u} {f} {r} test n ran calls =
    any_from_yields_List test u f r ran (YieldsList-from_range 0 n n refl (zeroed n)) calls ∙ sym (any_to-chain test n)

-- of `map` and `sum`: what the sum requires, and what it is
module _ {F : Type 0} {g : Mut F (ℕ × Unit {0}) ℕ} {h : F} (f : ℕ → ℕ) (n : ℕ) (s : Map (Range ℕ) F)
    (source : map_source s ≡ record { start = 0; end = n }) (closure : map_callee s ≡ h)
    (calls : (x r : ℕ) (q : F) → Called g h (x, tt) r q → (q ≡ h) × (r ≡ f x)) where
  road : YieldsList (maps nat_range_steps g) (λ r. r) s (map f (range_with_len 0 n))
  road = YieldsList-from_map g f (YieldsList-at source (YieldsList-from_range 0 n n refl (zeroed n))) closure calls

  pub sum_to-fits : (top : ℕ) → sum_to f n < top → EachRunFrom (maps nat_range_steps g) s (λ p. fold (λ a x. a + x) 0 p.items < top)
  sum_to-fits top l = fits_by_from_yields_list f (range_with_len 0 n) s top road (rw sum_to-chain at l)

  pub sum_to-ran : (r : ℕ) → ((xs : List ℕ) × (⊤ → Drains (maps nat_range_steps g) s xs) × (r ≡ fold (λ a x. a + x) 0 xs)) → r ≡ sum_to f n
  sum_to-ran r ran = sum_by_from_yields_List f (range_with_len 0 n) s r ran road ∙ sym (sum_to-chain f n)

-- of `array::from_fn`
module _ {F : Type 0} {g : Mut F (ℕ × Unit {0}) ℕ} {f : F} (h : ℕ → ℕ) (n : ℕ)
    (calls : (x y : ℕ) (q : F) → x < n → Called g f (x, tt) y q → (q ≡ f) × (y ≡ h x)) where
  made-each : (ys : List ℕ) (i m : ℕ) (p : F) → p ≡ f → i + m ≤ n → IsFromFnResultFrom g p ys i m → (k : ℕ) → i ≤ k → k < i + m → get_or ys k 0 ≡ h k
  made-each ys i zero p e w each k lo hi = absurd (omega arith)
  made-each ys i (suc m) p e w (q, y, at, called, more) k lo hi =
      let one = calls i y q (omega arith) (subst (λ t. Called g t (i, tt) y q) e called) in
      elim (dec_lt i k) [
        | yes l ↦ made-each ys (i + 1) m q one.0 (omega arith) more k (omega arith) (omega arith)
        | no l ↦ let s : i ≡ k = omega arith in rw (← s) (at.1 0 ∙ one.1)
      ]

  pub cells-made : {ys : List ℕ} → IsFromFnResult g f ys n → ys ≡ cells h n n
  cells-made {ys} made =
      ext_get_or 0 ys (cells h n n) (made.long ∙ sym (length-cells h n n))
      (λ i m. let l : i < n = rw made.long at m in
      made-each ys 0 n f refl (omega arith) made.each i (omega arith) (omega arith) ∙ sym (cell-cells h n n i l (omega arith)))
