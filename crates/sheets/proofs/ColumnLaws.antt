-- Laws of columns: bounds, the widths of what is put, and that a column read where a table was put is the table, and back.
use Prim.Native.Nat.{ℕ, suc, ◌+◌, ◌*◌, ◌≤◌}
use mathlib.Core.Path.{◌≡◌, refl, sym, ap, ◌∙◌}
use mathlib.Core.Bool.{true}
use mathlib.Core.List.{List}
use native.Mathlib.Omega.{arith}
use lib.ListN.{length, set}
use Rattle.basics.specs.Tables.{cell, filled, cells, blank}
use Rattle.basics.proofs.TableLaws.{cells-cong, cells-blank, cell-cells}
use Rattle.bits.specs.Bits.{field, put_field}
use Rattle.bits.specs.Sheet.{Field, total, many, put_all}
use Rattle.bits.proofs.SheetLaws.{Holds, holds-many, many-holds, put-many}
use Rattle.sheets.specs.Columns.{column_at, single, double}

-- ---- widths

pub total-single : (w : ℕ) (table : List ℕ) (i : ℕ) → total (single w table i) ≡ w
unfolding total
total-single w table i = omega arith

pub total-double : (w : ℕ) (table : List ℕ) (w' : ℕ) (table' : List ℕ) (first i : ℕ) → total (double w table w' table' first i) ≡ w + w'
unfolding total
total-double w table w' table' first i = omega arith

-- ---- a column read, cell by cell

pub none-filled : (table : List ℕ) (f : ℕ → ℕ) → table ≡ filled table f 0
unfolding filled
none-filled table f = refl

pub more-filled : (table t : List ℕ) (f : ℕ → ℕ) (i : ℕ) → t ≡ filled table f i → set t i (f i) ≡ filled table f (i + 1)
unfolding filled
more-filled table t f i e = let z : i + 1 ≡ suc i = omega arith in rw (z, e)

-- ---- tables put, cell by cell

pub none-put : (s : List ℕ) (at : ℕ) (f : ℕ → List Field) → s ≡ put_all s at (many f 0)
unfolding put_all many
none-put s at f = refl

pub single-put : (s : List ℕ) (at w : ℕ) (table : List ℕ) (i : ℕ) (t : List ℕ) → t ≡ put_all s at (many (single w table) i)
    → put_field t (at + w * i) w (cell table i) ≡ put_all s at (many (single w table) (i + 1))
unfolding put_all
single-put s at w table i t e = rw e (put-many (single w table) w (total-single w table) s at i)

pub double-put : (s : List ℕ) (at w : ℕ) (table : List ℕ) (w' : ℕ) (table' : List ℕ) (first i : ℕ) (t : List ℕ)
    → t ≡ put_all s at (many (double w table w' table' first) i)
    → put_field (put_field t (at + (w + w') * i) w (cell table (first + i))) (at + (w + w') * i + w) w' (cell table' (first + i))
    ≡ put_all s at (many (double w table w' table' first) (i + 1))
unfolding put_all
double-put s at w table w' table' first i t e = rw e (put-many (double w table w' table' first) (w + w') (total-double w table w' table' first) s at i)

pub ruleset put_laws = (none-put, single-put, double-put)

-- ---- a column read where a table was put

module _ (s : List ℕ) (at w n size : ℕ) (table : List ℕ) (hl : length table ≡ size) (hn : n ≤ size) (hb : blank table n ≡ true) where
  pub read-single : Holds s at (many (single w table) n) → cells (column_at s at w w) n size ≡ table
  unfolding Holds
  read-single h =
      cells-cong (column_at s at w w) (cell table) n size (λ i l. (holds-many (single w table) w (total-single w table) s at n h i l).0)
      ∙ cells-blank table n size hl hn hb

  pub read-double : (w' : ℕ) (table' : List ℕ) → Holds s at (many (double w table w' table' 0) n) → cells (column_at s at (w + w') w) n size ≡ table
  unfolding Holds
  read-double w' table' h =
      cells-cong (column_at s at (w + w') w) (cell table) n size
      (λ i l. let e : 0 + i ≡ i = omega arith in (holds-many (double w table w' table' 0) (w + w') (total-double w table w' table' 0) s at n h i l).0 ∙ ap (cell table) e)
      ∙ cells-blank table n size hl hn hb

  pub read-double' : (v : ℕ) (other : List ℕ) → Holds s at (many (double v other w table 0) n) → cells (column_at s (at + v) (v + w) w) n size ≡ table
  unfolding Holds
  read-double' v other h =
      cells-cong (column_at s (at + v) (v + w) w) (cell table) n size
      (λ i l.
      let e : 0 + i ≡ i = omega arith in
      let q : at + v + (v + w) * i ≡ at + (v + w) * i + v = omega arith in
      ap (λ (k : ℕ). field s k w) q ∙ (holds-many (double v other w table 0) (v + w) (total-double v other w table 0) s at n h i l).1.0 ∙ ap (cell table) e)
      ∙ cells-blank table n size hl hn hb

-- ---- and the fields of the columns read

pub single-read : (s : List ℕ) (at w n size : ℕ) → n ≤ size → Holds s at (many (single w (cells (column_at s at w w) n size)) n)
unfolding Holds
single-read s at w n size hn =
    let table : List ℕ = cells (column_at s at w w) n size in
    many-holds (single w table) w (total-single w table) s at n (λ i l. (sym (cell-cells (column_at s at w w) n size i l hn), tt))

pub double-read : (s : List ℕ) (at w w' n size : ℕ) → n ≤ size
    → Holds s at (many (double w (cells (column_at s at (w + w') w) n size) w' (cells (column_at s (at + w) (w + w') w') n size) 0) n)
unfolding Holds
double-read s at w w' n size hn =
    let a : List ℕ = cells (column_at s at (w + w') w) n size in
    let b : List ℕ = cells (column_at s (at + w) (w + w') w') n size in
    many-holds (double w a w' b 0) (w + w') (total-double w a w' b 0) s at n (λ i l.
    let e : 0 + i ≡ i = omega arith in
    let q : at + (w + w') * i + w ≡ at + w + (w + w') * i = omega arith in (
      sym (ap (cell a) e ∙ cell-cells (column_at s at (w + w') w) n size i l hn),
      (ap (λ (k : ℕ). field s k w') q ∙ sym (ap (cell b) e ∙ cell-cells (column_at s (at + w) (w + w') w') n size i l hn), tt),
    ))
