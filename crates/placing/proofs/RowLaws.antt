-- The options of an operation, as two loops go through them: `row` has those left at a start from an instance on, `from_start` those
-- left from a start on. What is live among them one option further: `row-live`, `row-dead`, `row-end`, `row-start`, `no_rows`; and
-- from which start on it has all that is live: `first-rows`.
use Prim.Native.Nat.{ℕ, zero, suc, ◌+◌, ◌-◌, ◌≤◌, ◌<◌}
use mathlib.Core.Path.{◌≡◌, refl, sym, ap, ◌∙◌}
use mathlib.Core.Bool.{true, false}
use mathlib.Core.List.{List, [], ◌∷◌}
use native.Mathlib.Decide.{dec_lt}
use native.Mathlib.Omega.{arith}
use lib.ListN.{length}
use Rattle.sheets.specs.Limits.{op_cells}
use Rattle.placing.specs.declared.Board.{Board}
use Rattle.placing.specs.Board.{OfJob}
use Rattle.placing.specs.Fitting.{first_start}
use Rattle.placing.specs.Options.{Option, options_at, options_from, options, put, keep_if, live_ones}
use Rattle.placing.specs.Placing.{Placing, live}
use Rattle.placing.specs.Ready.{option_at}
use Rattle.placing.proofs.FitLaws.{early-dead}

module _ (b : Board) where
  -- the options left at start s from instance i on, and from start s on
  abbrev pub row : ℕ → ℕ → List Option
  row s i = options_at s i (b.k - i) (options_from b.k (s + 1) (b.t + 1 - (s + 1)))

  abbrev pub from_start : ℕ → List Option
  from_start s = options_from b.k s (b.t + 1 - s)

  row_at : (s i : ℕ) → i < b.k → row s i ≡ option_at s i ∷ row s (i + 1)
  unfolding options_at
  row_at s i l = let z : b.k - i ≡ suc (b.k - (i + 1)) = omega arith in rw z

  pub row-end : (s i : ℕ) → b.k ≤ i → row s i ≡ from_start (s + 1)
  unfolding options_at
  row-end s i l = let z : b.k - i ≡ 0 = omega arith in rw z

  pub row-start : (s : ℕ) → s ≤ b.t → from_start s ≡ row s 0
  unfolding options_from
  row-start s l =
      let z : b.t + 1 - s ≡ suc (b.t + 1 - (s + 1)) = omega arith in
      let y : b.k - 0 ≡ b.k = omega arith in
      rw (z, y)

  -- ---- the live ones among them

  module _ (p : Placing) (op : ℕ) where
    pub row-live : (s i : ℕ) → i < b.k → live b (put p op (option_at s i)) ≡ true
        → live_ones b p op (row s i) ≡ put p op (option_at s i) ∷ live_ones b p op (row s (i + 1))
    unfolding live_ones keep_if
    row-live s i l e =
        ap (live_ones b p op) (row_at s i l) ∙ ap (λ t. keep_if t (put p op (option_at s i)) (live_ones b p op (row s (i + 1)))) e

    pub row-dead : (s i : ℕ) → i < b.k → live b (put p op (option_at s i)) ≡ false → live_ones b p op (row s i) ≡ live_ones b p op (row s (i + 1))
    unfolding live_ones keep_if
    row-dead s i l e =
        ap (live_ones b p op) (row_at s i l) ∙ ap (λ t. keep_if t (put p op (option_at s i)) (live_ones b p op (row s (i + 1)))) e

    pub no_rows : (s : ℕ) → b.t < s → live_ones b p op (from_start s) ≡ []
    unfolding options_from live_ones
    no_rows s l = let z : b.t + 1 - s ≡ 0 = omega arith in rw z

    -- ---- starts with no live option are passed over

    dead-row : (s i m : ℕ) → m ≡ b.k - i → ((x : ℕ) → x < b.k → live b (put p op (option_at s x)) ≡ false)
        → live_ones b p op (row s i) ≡ live_ones b p op (from_start (s + 1))
    dead-row s i zero e d = ap (live_ones b p op) (row-end s i (omega arith))
    dead-row s i (suc m) e d = row-dead s i (omega arith) (d i (omega arith)) ∙ dead-row s (i + 1) m (omega arith) d

    dead-starts : (m first : ℕ) → m + 1 ≡ first → ((s i : ℕ) → 1 ≤ s → s < first → i < b.k → live b (put p op (option_at s i)) ≡ false)
        → live_ones b p op (from_start 1) ≡ live_ones b p op (from_start first)
    dead-starts zero first e d = rw (sym e)
    dead-starts (suc m) first e d =
        dead-starts m (m + 1) refl (λ s i a l q. d s i a (omega arith) q)
        ∙ elim (dec_lt b.t (m + 1)) [
          | yes l ↦ no_rows (m + 1) l ∙ sym (no_rows first (omega arith))
          | no l ↦
              ap (live_ones b p op) (row-start (m + 1) (omega arith))
              ∙ dead-row (m + 1) 0 (b.k - 0) refl (λ x q. d (m + 1) x (omega arith) (omega arith) q)
              ∙ ap (λ (s : ℕ). live_ones b p op (from_start s)) (let z : m + 1 + 1 ≡ first = omega arith in z)
        ]

-- ---- the first start

-- it is at least 1
pub first-positive : (delays near starts insts : List ℕ) (op o : ℕ) → 1 ≤ first_start delays near starts insts op o
unfolding first_start
first-positive delays near starts insts op zero = omega arith
first-positive delays near starts insts op (suc o) = omega (arith, first-positive delays near starts insts op o)

-- starts before the first are passed over
pub first-rows : (b : Board) → OfJob b → (p : Placing) → length p.starts ≡ op_cells → length p.insts ≡ op_cells → (op : ℕ) → op < b.n → (first : ℕ)
    → first ≡ first_start b.delays b.near p.starts p.insts op op → live_ones b p op (options b) ≡ live_ones b p op (from_start b first)
first-rows b of p ls li op more first e =
    let z : b.t + 1 - 1 ≡ b.t = omega arith in
    let a : 1 ≤ first = rw e (first-positive b.delays b.near p.starts p.insts op op) in
    ap (λ (m : ℕ). live_ones b p op (options_from b.k 1 m)) (sym z)
    ∙ dead-starts b p op (first - 1) first (omega arith) (λ s i q l k. early-dead b of p ls li op s i more k q (rw e at l))
