-- Laws of a sheet's groups: bytes and bits, what no fault means, and groups that never run out.
use Prim.Native.Nat.{ℕ, ◌*◌, ◌≤◌, ◌<◌}
use mathlib.Core.Path.{◌≡◌, sym, ◌∙◌}
use mathlib.Core.List.{List}
use native.Mathlib.Decide.{dec_lt}
use native.Mathlib.Omega.{arith}
use borrow.Author.Tests.{leb-true, le-leb, lt-leb, eqb-true, eq-eqb}
use lib.Dec.{leb, lit<}
use lib.ListN.{length}
use Rattle.basics.specs.Numbers.{bits_run_out, fill_broken, form_differs}
use Rattle.basics.proofs.CountLaws.{count_laws, and_both, both-and}
use Rattle.basics.proofs.FaultLaws.{fault_laws, first_laws, unless-none, none-unless, or_else-none, none-or_else}
use Rattle.bits.specs.Bits.{field}
use Rattle.bits.specs.Sheet.{bytes_for, fill}
use Rattle.sheets.specs.Limits.{form_bits}
use Rattle.sheets.specs.Groups.{runs_out, form_fault, fill_fault}

-- so many bits are within so many bytes exactly where their bytes are
pub bytes_bits : (bytes end : ℕ) → leb (bytes_for end) bytes ≡ leb end (8 * bytes)
bytes_bits bytes end = go (dec_lt (8 * bytes) end)
  where
    go : Dec (8 * bytes < end) → leb (bytes_for end) bytes ≡ leb end (8 * bytes)
    go (yes h) = lt-leb (bytes_for end) bytes (omega arith) ∙ sym (lt-leb end (8 * bytes) h)
    go (no h) = le-leb (bytes_for end) bytes (omega arith) ∙ sym (le-leb end (8 * bytes) (omega arith))

-- ---- what no fault means

pub whole-none : (bytes end : ℕ) → end ≤ 8 * bytes → runs_out bytes end ≡ 0
unfolding runs_out
whole-none bytes end h = none-unless _ bits_run_out (le-leb _ _ h)

pub none-whole : (bytes end : ℕ) → runs_out bytes end ≡ 0 → end ≤ 8 * bytes
unfolding runs_out
none-whole bytes end h = leb-true end (8 * bytes) (unless-none _ bits_run_out (lit< tt) h)

module _ (s : List ℕ) where
  pub form-none : (form : ℕ) → field s 0 form_bits ≡ form → form_bits ≤ 8 * length s → form_fault s form ≡ 0
  unfolding form_fault
  form-none form e h = none-or_else _ _ (whole-none (length s) form_bits h) (none-unless _ form_differs (eq-eqb _ _ e))

  pub none-form : (form : ℕ) → form_fault s form ≡ 0 → field s 0 form_bits ≡ form
  unfolding form_fault
  none-form form h = eqb-true _ _ (unless-none _ form_differs (lit< tt) (or_else-none _ _ h).1)

  pub fill_none : (end : ℕ) → length s ≡ bytes_for end → field s end (fill end) ≡ 0 → fill_fault s end ≡ 0
  unfolding fill_fault
  fill_none end l z = none-unless _ fill_broken (both-and _ _ (eq-eqb _ _ l) (eq-eqb _ _ z))

  pub none-fill : (end : ℕ) → fill_fault s end ≡ 0 → (length s ≡ bytes_for end) × (field s end (fill end) ≡ 0)
  unfolding fill_fault
  none-fill end h =
      let b = and_both _ _ (unless-none _ fill_broken (lit< tt) h) in
      (eqb-true _ _ b.0, eqb-true _ _ b.1)

-- ---- of groups tested one by one, with what is counted on the way

pub ruleset group_laws = (fault_laws, first_laws, count_laws)
