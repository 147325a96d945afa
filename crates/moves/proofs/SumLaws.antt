-- Laws of counting that moving needs: sums that are alike or differ at one number, `only` of 1, and `last_to`, the last number where a test
-- holds.
use Prim.Native.Nat.{ℕ, zero, suc, ◌+◌, ◌-◌, ◌<◌}
use mathlib.Core.Path.{◌≡◌, refl}
use mathlib.Core.Bool.{Bool, true, false, cond, not, ◌||◌}
use native.Mathlib.Decide.{dec_lt}
use native.Mathlib.Omega.{arith}
use lib.Dec.{eqb}
use mathlib.Core.Path.{sym, ◌∙◌}
use mathlib.Core.List.{List}
use lib.ListN.{length}
use denote.Param.Members.{Mut}
use denote.Bor.{Bor}
use Rattle.basics.proofs.CountLaws.{sum_to-cong}
use Rattle.std.specs.declared.iter.Filter.{Filter}
use Rattle.std.specs.declared.ops.Range.{Range}
use Rattle.std.specs.Fn.{CalledAt}
use Rattle.std.specs.Iterator.{Drains}
use Rattle.std.specs.Iterator.Adapters.{filter_source, filter_callee, filter_steps}
use Rattle.std.specs.List.{sum_by, count_by, range_with_len}
use Rattle.std.proofs.iter.Yields.{nat_range_steps}
use Rattle.std.proofs.lemmas.Iterator.{YieldsList-from_range}
use Rattle.std.proofs.lemmas.Iterator.Consumers.{YieldsList-at, YieldsList-from_filter, count_from_yields_List}
use Rattle.std.proofs.lemmas.List.Sums.{length-filter}
use Rattle.basics.specs.Counting.{any_to, sum_to, only}
use Rattle.basics.proofs.ChainLaws.{sum_to-chain}

-- ---- sums

pub sum_to-none : (f : ℕ → ℕ) (n : ℕ) → ((i : ℕ) → i < n → f i ≡ 0) → sum_to f n ≡ 0
unfolding sum_to
sum_to-none f zero h = refl
sum_to-none f (suc n) h = omega (arith, sum_to-none f n (λ i l. h i (omega arith)), h n (omega arith))

-- alike but at a, where one has x more
pub sum_to-but : (f g : ℕ → ℕ) (a x n : ℕ) → a < n → f a ≡ g a + x → ((i : ℕ) → i < n → (i ≡ a → ⊥) → f i ≡ g i) → sum_to f n ≡ sum_to g n + x
unfolding sum_to
sum_to-but f g a x zero l e h = absurd (omega arith)
sum_to-but f g a x (suc n) l e h =
    elim (dec_lt a n) [
      | yes q ↦ omega (arith, sum_to-but f g a x n q e (λ i w. h i (omega arith)), h n (omega arith) (λ d. omega arith))
      | no q ↦
          let z : a ≡ n = omega arith in
          let here : f n ≡ g n + x = rw z at e in
          omega (arith, sum_to-cong f g n (λ i w. h i (omega arith) (λ d. omega arith)), here)
    ]

-- ---- tests

pub or_off : (a b : Bool) → b ≡ false → a || b ≡ a
or_off true b h = refl
or_off false b h = h

-- ---- only of 1

pub only-not : (b : Bool) → only b 1 + only (not b) 1 ≡ 1
unfolding only
only-not true = refl
only-not false = refl

pub only-on : (b : Bool) → b ≡ true → only b 1 ≡ 1
unfolding only
only-on b h = rw h

pub only-off : (b : Bool) → b ≡ false → only b 1 ≡ 0
unfolding only
only-off b h = rw h

pub eqb-only : (b : Bool) → eqb (only b 1) 1 ≡ b
unfolding only
eqb-only true = refl
eqb-only false = refl

-- ---- the last number below n where the test holds, 0 where it holds of none

abbrev pick : Bool → ℕ → ℕ → ℕ
pick true a b = a
pick false a b = b

unfoldable pub last_to : (ℕ → Bool) → ℕ → ℕ
last_to test zero = 0
last_to test (suc n) = pick (test n) n (last_to test n)

pub last_to-holds : (test : ℕ → Bool) (n : ℕ) → any_to test n ≡ true → (last_to test n < n) × (test (last_to test n) ≡ true)
unfolding any_to last_to
last_to-holds test zero h = cc
last_to-holds test (suc n) h = go (test n) refl (last_to-holds test n)
  where
    go : (b : Bool) → test n ≡ b → (any_to test n ≡ true → (last_to test n < n) × (test (last_to test n) ≡ true))
        → (pick (test n) n (last_to test n) < suc n) × (test (pick (test n) n (last_to test n)) ≡ true)
    go true e before = rw e (omega arith, e)
    go false e before =
        let w = before (rw (e, or_off (any_to test n) false refl) at h) in
        rw e (omega (arith, w.0), w.1)

-- ---- how many of `0..n` a filter lets through

only-cond : (b : Bool) → cond b 1 0 ≡ only b 1
unfolding only
only-cond true = refl
only-cond false = refl

count_by-only : (test : ℕ → Bool) (xs : List ℕ) → count_by test xs ≡ sum_by (λ i. only (test i) 1) xs
count_by-only test xs = simp only-cond

module _ {F : Type 0} {g : Mut F (Bor ℕ × Unit {0}) Bool} {h : F} (test : ℕ → Bool) (n : ℕ) (s : Filter (Range ℕ) F)
    (source : filter_source s ≡ record { start = 0; end = n }) (closure : filter_callee s ≡ h)
    (calls : (x : ℕ) (b : Bool) (q : F) → CalledAt g h x b q → (q ≡ h) × (b ≡ test x)) where
  pub counted-ran : (r : ℕ) → ((xs : List ℕ) × Drains (filter_steps nat_range_steps g) s xs × (r ≡ length xs)) → r ≡ sum_to (λ i. only (test i) 1) n
  counted-ran r ran =
      count_from_yields_List s r ran (YieldsList-from_filter g test (YieldsList-at source (YieldsList-from_range 0 n n refl (let z : n - 0 ≡ n = omega arith in z))) closure calls)
      ∙ length-filter test (range_with_len 0 n)
      ∙ count_by-only test (range_with_len 0 n)
      ∙ sym (sum_to-chain (λ i. only (test i) 1) n)
