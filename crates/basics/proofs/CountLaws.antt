-- Laws of `all_to`, `any_to`, `sum_to` and `only`: one number more, what holds of all holds of each, and a bound.
use Prim.Native.Nat.{ℕ, zero, suc, ◌+◌, ◌*◌, ◌<◌, ◌≤◌}
use mathlib.Core.Path.{◌≡◌, refl, sym, ◌∙◌}
use mathlib.Core.Logic.{◌⊎◌, inl, inr}
use mathlib.Core.Bool.{Bool, true, false, not, ◌&&◌, ◌||◌}
use native.Mathlib.Decide.{ℕ_discrete, dec_lt}
use native.Mathlib.Nat.{mul-suc}
use native.Mathlib.Numerals.{add-one}
use native.Mathlib.Omega.{arith}
use Rattle.basics.specs.Counting.{all_to, any_to, sum_to, only}

-- ---- two tests

pub and_both : (a b : Bool) → a && b ≡ true → (a ≡ true) × (b ≡ true)
and_both true b h = (refl, h)
and_both false b h = absurd (let z : ◌≡◌ {A = ℕ} 0 1 = cc in omega arith)

pub both-and : (a b : Bool) → a ≡ true → b ≡ true → a && b ≡ true
both-and a b p q = rw (p, q)

pub either : (a b : Bool) → a || b ≡ true → (a ≡ true) ⊎ (b ≡ true)
either true b h = inl refl
either false b h = inr h

pub either_left : (a b : Bool) → a ≡ true → a || b ≡ true
either_left a b h = rw h

pub either-right : (a b : Bool) → b ≡ true → a || b ≡ true
either-right true b h = refl
either-right false b h = h

-- a test asked only where another holds
pub asked : (a b : Bool) → a ≡ true → not a || b ≡ true → b ≡ true
asked true b e h = h
asked false b e h = absurd (let z : ◌≡◌ {A = ℕ} 0 1 = cc in omega arith)

pub where-asked : (a b : Bool) → (a ≡ true → b ≡ true) → not a || b ≡ true
where-asked true b h = h refl
where-asked false b h = refl

-- two tests that hold alike are equal
pub same_test : (a b : Bool) → (a ≡ true → b ≡ true) → (b ≡ true → a ≡ true) → a ≡ b
same_test true b p q = sym (p refl)
same_test false true p q = q refl
same_test false false p q = refl

-- ---- one number more

pub all_to-more : (test : ℕ → Bool) (n : ℕ) → all_to test (n + 1) ≡ all_to test n && test n
unfolding all_to
all_to-more test n = rw add-one

pub any_to-more : (test : ℕ → Bool) (n : ℕ) → any_to test (n + 1) ≡ any_to test n || test n
unfolding any_to
any_to-more test n = rw add-one

pub sum_to-cong : (f g : ℕ → ℕ) (n : ℕ) → ((i : ℕ) → i < n → f i ≡ g i) → sum_to f n ≡ sum_to g n
unfolding sum_to
sum_to-cong f g zero h = refl
sum_to-cong f g (suc n) h = omega (arith, sum_to-cong f g n (λ i l. h i (omega arith)), h n (omega arith))

pub sum_to-more : (f : ℕ → ℕ) (n : ℕ) → sum_to f (n + 1) ≡ sum_to f n + f n
unfolding sum_to
sum_to-more f n = rw add-one

-- ---- none yet

pub all_to-begins : (test : ℕ → Bool) → all_to test 0 ≡ true
unfolding all_to
all_to-begins test = refl

pub any_to-begins : (test : ℕ → Bool) → any_to test 0 ≡ false
unfolding any_to
any_to-begins test = refl

pub sum_to-begins : (f : ℕ → ℕ) → sum_to f 0 ≡ 0
unfolding sum_to
sum_to-begins f = refl

-- of a loop that counts
pub ruleset count_laws = (all_to-begins, all_to-more, any_to-begins, any_to-more, sum_to-begins, sum_to-more)

-- ---- all and each

pub all_to-each : (test : ℕ → Bool) (n : ℕ) → all_to test n ≡ true → (i : ℕ) → i < n → test i ≡ true
unfolding all_to
all_to-each test zero h i l = absurd (omega arith)
all_to-each test (suc n) h i l = go (ℕ_discrete n i) (all_to-each test n (and_both _ _ h).0 i)
  where
    go : Dec (n ≡ i) → (i < n → test i ≡ true) → test i ≡ true
    go (yes e) p = rw e at (and_both (all_to test n) (test n) h).1
    go (no m) p = p (omega arith)

pub each-all_to : (test : ℕ → Bool) (n : ℕ) → ((i : ℕ) → i < n → test i ≡ true) → all_to test n ≡ true
unfolding all_to
each-all_to test zero h = refl
each-all_to test (suc n) h = both-and _ _ (each-all_to test n (λ i l. h i (omega arith))) (h n (omega arith))

-- of fewer
pub all_to-fewer : (test : ℕ → Bool) (m n : ℕ) → m ≤ n → all_to test n ≡ true → all_to test m ≡ true
all_to-fewer test m n l h = each-all_to test m (λ i q. all_to-each test n h i (omega arith))

pub all_to-not : (test : ℕ → Bool) (n i : ℕ) → i < n → test i ≡ false → all_to test n ≡ false
all_to-not test n i l h = same_test _ _ (λ t. absurd (let z : true ≡ false = sym (all_to-each test n t i l) ∙ h in let y : ◌≡◌ {A = ℕ} 0 1 = cc in omega arith)) (λ t. absurd (let y : ◌≡◌ {A = ℕ} 0 1 = cc in omega arith))

-- ---- some

-- a number below n where the test holds
pub record Some (test : ℕ → Bool) (n : ℕ) : Type 0 where
  pub number : ℕ
  pub below : number < n
  pub holds : test number ≡ true

pub any_to-some : (test : ℕ → Bool) (n : ℕ) → any_to test n ≡ true → Some test n
unfolding any_to
any_to-some test zero h = absurd (let z : ◌≡◌ {A = ℕ} 0 1 = cc in omega arith)
any_to-some test (suc n) h = go (either (any_to test n) (test n) h) (any_to-some test n)
  where
    go : (any_to test n ≡ true) ⊎ (test n ≡ true) → (any_to test n ≡ true → Some test n) → Some test (suc n)
    go (inl e) before = let w = before e in record { number = w.number; below = omega (arith, w.below); holds = w.holds }
    go (inr e) before = record { number = n; below = omega arith; holds = e }

pub some-any_to : (test : ℕ → Bool) (n i : ℕ) → i < n → test i ≡ true → any_to test n ≡ true
unfolding any_to
some-any_to test zero i l h = absurd (omega arith)
some-any_to test (suc n) i l h = go (ℕ_discrete n i) (some-any_to test n i)
  where
    go : Dec (n ≡ i) → (i < n → test i ≡ true → any_to test n ≡ true) → any_to test n || test n ≡ true
    go (yes e) before = either-right (any_to test n) (test n) (rw (← e) at h)
    go (no m) before = either_left (any_to test n) (test n) (before (omega arith) h)

pub any_to-none : (test : ℕ → Bool) (n : ℕ) → ((i : ℕ) → i < n → test i ≡ false) → any_to test n ≡ false
unfolding any_to
any_to-none test zero h = refl
any_to-none test (suc n) h = rw (any_to-none test n (λ i l. h i (omega arith)), h n (omega arith))

pub none-any_to : (test : ℕ → Bool) (n : ℕ) → any_to test n ≡ false → (i : ℕ) → i < n → test i ≡ false
none-any_to test n h i l = go (test i) refl
  where
    go : (t : Bool) → test i ≡ t → test i ≡ false
    go true e = absurd (let z : true ≡ false = sym (some-any_to test n i l e) ∙ h in let y : ◌≡◌ {A = ℕ} 0 1 = cc in omega arith)
    go false e = e

-- ---- sums compared

pub sum_to-below : (f g : ℕ → ℕ) (n : ℕ) → ((i : ℕ) → i < n → f i ≤ g i) → sum_to f n ≤ sum_to g n
unfolding sum_to
sum_to-below f g zero h = omega arith
sum_to-below f g (suc n) h = omega (arith, sum_to-below f g n (λ i l. h i (omega arith)), h n (omega arith))

pub sum_to-most : (f : ℕ → ℕ) (k n : ℕ) → ((i : ℕ) → i < n → f i ≤ k) → sum_to f n ≤ k * n
unfolding sum_to
sum_to-most f k zero h = omega arith
sum_to-most f k (suc n) h = omega (arith, mul-suc k n, sum_to-most f k n (λ i l. h i (omega arith)), h n (omega arith))

-- over fewer numbers
pub sum_to-rises : (f : ℕ → ℕ) (m n : ℕ) → m ≤ n → sum_to f m ≤ sum_to f n
unfolding sum_to
sum_to-rises f m zero h = let e : m ≡ 0 = omega arith in rw e (omega arith)
sum_to-rises f m (suc n) h =
    elim (dec_lt m (suc n)) [ yes l ↦ omega (arith, sum_to-rises f m n (omega arith)) | no l ↦ let e : m ≡ suc n = omega arith in rw e (omega arith) ]

-- ---- only

pub only-small : (test : Bool) (x : ℕ) → only test x ≤ x
unfolding only
only-small true x = omega arith
only-small false x = omega arith
