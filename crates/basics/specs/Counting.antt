-- Counting over the numbers below n: `all_to` holds of each, `any_to` of some, `sum_to` adds up over them; `only` counts where a
-- test holds.
use Rattle.std.specs.Prelude.{ℕ, zero, suc, ◌+◌, Bool, true, false, ◌&&◌, ◌||◌}

-- test 0, test 1, .. and test (n - 1) all hold
unfoldable pub all_to : (ℕ → Bool) → ℕ → Bool
all_to test zero = true
all_to test (suc n) = all_to test n && test n

-- test 0, test 1, .. or test (n - 1) holds
unfoldable pub any_to : (ℕ → Bool) → ℕ → Bool
any_to test zero = false
any_to test (suc n) = any_to test n || test n

-- f 0 + f 1 + .. + f (n - 1)
unfoldable pub sum_to : (ℕ → ℕ) → ℕ → ℕ
sum_to f zero = 0
sum_to f (suc n) = sum_to f n + f n

-- x where the test holds, else 0
unfoldable pub only : Bool → ℕ → ℕ
only true x = x
only false x = 0
