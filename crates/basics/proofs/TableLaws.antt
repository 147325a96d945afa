-- Laws of tables: one cell more, what stands in each cell, and when a table is `cells` of what it holds.
use Prim.Native.Nat.{ℕ, zero, suc, ◌+◌, ◌-◌, ◌<◌, ◌≤◌, min}
use mathlib.Core.Path.{◌≡◌, refl, sym, ◌∙◌}
use mathlib.Core.Bool.{true}
use mathlib.Core.List.{List}
use native.Mathlib.Decide.{dec_lt}
use native.Mathlib.Omega.{arith}
use borrow.Author.Tests.{leb-true, eqb-true, le-leb, lt-leb, lt-ltb, le-ltb}
use lib.ListN.{length, replicate, length-set, length-replicate, get_or-eq_default}
use lib.Seq.{get_or-set_same, get_or-set_other, ext_get_or}
use Rattle.std.proofs.lemmas.List.{set_past}
use Rattle.basics.specs.Tables.{cell, filled, cells, cell_within, within, cell_blank, blank, HoldsCells}
use Rattle.basics.proofs.CountLaws.{all_to-each, each-all_to}

-- ---- filled tables

pub length-filled : (table : List ℕ) (f : ℕ → ℕ) (n : ℕ) → length (filled table f n) ≡ length table
unfolding filled
length-filled table f zero = refl
length-filled table f (suc n) = length-set (filled table f n) n (f n) ∙ length-filled table f n

pub cell-filled : (table : List ℕ) (f : ℕ → ℕ) (n i : ℕ) → i < n → n ≤ length table → cell (filled table f n) i ≡ f i
unfolding filled
cell-filled table f zero i h q = absurd (omega arith)
cell-filled table f (suc n) i h q =
    elim (dec_lt i n) [
      | yes r ↦ get_or-set_other (filled table f n) n i (f n) 0 (omega arith) ∙ cell-filled table f n i r (omega arith)
      | no r ↦ let e : n ≡ i = omega arith in rw (← e) (get_or-set_same (filled table f n) n (f n) 0 (rw length-filled q))
    ]

pub cell-behind : (table : List ℕ) (f : ℕ → ℕ) (n i : ℕ) → n ≤ i → cell (filled table f n) i ≡ cell table i
unfolding filled
cell-behind table f zero i h = refl
cell-behind table f (suc n) i h = get_or-set_other (filled table f n) n i (f n) 0 (omega arith) ∙ cell-behind table f n i (omega arith)

-- ---- tables with unused cells

pub length-cells : (f : ℕ → ℕ) (n size : ℕ) → length (cells f n size) ≡ size
length-cells f n size = length-filled (replicate size 0) f n ∙ length-replicate size 0

pub cell-cells : (f : ℕ → ℕ) (n size i : ℕ) → i < n → n ≤ size → cell (cells f n size) i ≡ f i
cell-cells f n size i h q = cell-filled (replicate size 0) f n i h (rw length-replicate q)

pub cell-replicate : (size i : ℕ) → cell (replicate size 0) i ≡ 0
cell-replicate zero i = refl
cell-replicate (suc size) zero = refl
cell-replicate (suc size) (suc i) = cell-replicate size i

pub cell-unused : (f : ℕ → ℕ) (n size i : ℕ) → n ≤ i → cell (cells f n size) i ≡ 0
cell-unused f n size i h = cell-behind (replicate size 0) f n i h ∙ cell-replicate size i

pub cells-cong : (f g : ℕ → ℕ) (n size : ℕ) → ((i : ℕ) → i < n → f i ≡ g i) → cells f n size ≡ cells g n size
unfolding filled
cells-cong f g zero size h = refl
cells-cong f g (suc n) size h = rw (cells-cong f g n size (λ i l. h i (omega arith)), h n (omega arith))

-- what is filled behind the table's end is lost
filled-past : (table : List ℕ) (f : ℕ → ℕ) (n k : ℕ) → length table ≤ n → filled table f (k + n) ≡ filled table f n
unfolding filled
filled-past table f n zero h = let z : 0 + n ≡ n = omega arith in rw z
filled-past table f n (suc k) h =
    let z : suc k + n ≡ suc (k + n) = omega arith in
    rw z (set_past (filled table f (k + n)) (k + n) (f (k + n)) (omega (arith, length-filled table f (k + n))) ∙ filled-past table f n k h)

pub cells-min : (f : ℕ → ℕ) (n size : ℕ) → filled (replicate size 0) f (min n size) ≡ cells f n size
cells-min f n size =
    elim (dec_lt size n) [
      | yes l ↦ let e : min n size ≡ size = omega arith in
          let z : n - size + size ≡ n = omega arith in
          rw (e, ← z) (sym (filled-past (replicate size 0) f size (n - size) (omega (arith, length-replicate {A = ℕ} size 0))))
      | no l ↦ let e : min n size ≡ n = omega arith in rw e
    ]

-- ---- what is asked of a table

pub within-each : (table : List ℕ) (limit n : ℕ) → within table limit n ≡ true → (i : ℕ) → i < n → cell table i ≤ limit
unfolding within
within-each table limit n h i l = go (dec_lt i (length table))
  where
    go : Dec (i < length table) → cell table i ≤ limit
    go (yes m) = leb-true _ _ (rw (lt-leb n i l) at (all_to-each (cell_within table limit n) (length table) h i m))
    go (no m) = rw (get_or-eq_default table 0 (let q : length table ≤ i = omega arith in q)) (omega arith)

pub each_within : (table : List ℕ) (limit n : ℕ) → ((i : ℕ) → i < n → cell table i ≤ limit) → within table limit n ≡ true
unfolding within
each_within table limit n h = each-all_to (cell_within table limit n) (length table) (λ i l. go i (dec_lt i n))
  where
    go : (i : ℕ) → Dec (i < n) → cell_within table limit n i ≡ true
    go i (yes a) = rw (lt-leb n i a, le-leb (cell table i) limit (h i a))
    go i (no a) = rw (le-leb n i (omega arith))

pub blank-each : (table : List ℕ) (n : ℕ) → blank table n ≡ true → (i : ℕ) → n ≤ i → i < length table → cell table i ≡ 0
unfolding blank
blank-each table n h i l m =
    eqb-true _ _ (rw (le-ltb i n l) at (all_to-each (cell_blank table n) (length table) h i m))

pub blank-cells : (f : ℕ → ℕ) (n size : ℕ) → blank (cells f n size) n ≡ true
unfolding blank
blank-cells f n size = each-all_to (cell_blank (cells f n size) n) (length (cells f n size)) (λ i l. go i (dec_lt i n))
  where
    go : (i : ℕ) → Dec (i < n) → cell_blank (cells f n size) n i ≡ true
    go i (yes a) = rw (lt-ltb i n a)
    go i (no a) = rw (le-ltb i n (omega arith), cell-unused f n size i (omega arith))

-- a table whose unused cells are 0 is `cells` of what it holds
pub cells-blank : (table : List ℕ) (n size : ℕ) → length table ≡ size → n ≤ size → blank table n ≡ true → cells (cell table) n size ≡ table
cells-blank table n size e l h =
    ext_get_or 0 (cells (cell table) n size) table (length-cells (cell table) n size ∙ sym e) (λ i m. go i (rw length-cells at m) (dec_lt i n))
  where
    go : (i : ℕ) → i < size → Dec (i < n) → cell (cells (cell table) n size) i ≡ cell table i
    go i m (yes a) = cell-cells (cell table) n size i a l
    go i m (no a) = cell-unused (cell table) n size i (omega arith) ∙ sym (blank-each table n h i (omega arith) (omega arith))

-- ---- a table made cell by cell

cell-of_cells : (f : ℕ → ℕ) (n size i : ℕ) → i < n → i < size → cell (cells f n size) i ≡ f i
unfolding filled
cell-of_cells f zero size i l m = absurd (omega arith)
cell-of_cells f (suc n) size i l m =
    elim (dec_lt i n) [
      | yes a ↦ get_or-set_other (cells f n size) n i (f n) 0 (omega arith) ∙ cell-of_cells f n size i a m
      | no a ↦ let e : n ≡ i = omega arith in
          rw (← e) (get_or-set_same (cells f n size) n (f n) 0 (omega (arith, length-cells f n size)))
    ]

-- each cell holds what f says of it
pub cells-held : {gives : ℕ → ℕ → Type 0} {table : List ℕ} (f : ℕ → ℕ) (n size : ℕ) → ((i x : ℕ) → i < n → gives i x → x ≡ f i)
    → HoldsCells gives n size table → table ≡ cells f n size
cells-held {table} f n size says t =
    ext_get_or 0 table (cells f n size) (t.long ∙ sym (length-cells f n size)) (λ i m. go i (rw t.long at m) (dec_lt i n))
  where
    go : (i : ℕ) → i < size → Dec (i < n) → cell table i ≡ cell (cells f n size) i
    go i m (yes a) = says i _ a (t.each i a m) ∙ sym (cell-of_cells f n size i a m)
    go i m (no a) = t.others i (omega arith) ∙ sym (cell-unused f n size i (omega arith))
