-- The options of an operation are all that it can have, in their order (`options-exactly`, `options-ordered`). The leaves of
-- a board are its live placings of all operations (`leaf-placed`, `placed-leaf`), in the order of their rows (`leaves-ordered`).
use Prim.Native.Nat.{ℕ, zero, suc, ◌+◌, ◌-◌, ◌≤◌, ◌<◌}
use mathlib.Core.Path.{◌≡◌, refl, sym, ap, subst, ◌∙◌}
use mathlib.Core.Bool.{Bool, true, false}
use mathlib.Core.List.{List, [], ◌∷◌}
use mathlib.Core.Logic.{◌⊎◌, inl, inr, ◌↔◌}
use native.Mathlib.Decide.{ℕ_discrete, dec_lt}
use native.Mathlib.Omega.{arith}
use lib.ListN.{length, length-set, length-replicate}
use lib.Seq.{get_or-set_same, get_or-set_other, ext_get_or}
use Rattle.basics.specs.Tables.{cell, filled, cells}
use Rattle.basics.proofs.TableLaws.{length-cells, cell-cells, cell-unused, cell-replicate}
use Rattle.sheets.specs.Limits.{op_cells}
use Rattle.placing.specs.declared.Board.{Board}
use Rattle.placing.specs.Board.{OfJob}
use Rattle.placing.specs.Bound.{All, leaves}
use Rattle.placing.specs.Placing.{Placing, live, cost, Part}
use Rattle.placing.specs.Options.{Option, options_at, options_from, options, none, put, keep_if, live_ones, children}
use Rattle.placing.proofs.BoundLaws.{all_map, all-gather}
use Rattle.placing.proofs.ListLaws.{Among, InOrder, all_among, among-gather, ordered-with, ordered-gather}
use Rattle.placing.proofs.BoardLaws.{few-ops}
use Rattle.placing.proofs.PartLaws.{part-live, part-costs, put-part, none-live}

-- ---- options in their order: start, then instance

abbrev pub Sooner : ℕ → ℕ → ℕ → ℕ → Type 0
Sooner start inst start' inst' = (start < start') ⊎ ((start ≡ start') × (inst < inst'))

abbrev pub SoonerOption : Option → Option → Type 0
SoonerOption r q = Sooner r.start r.inst q.start q.inst

-- a start from s on and before s + m, on one of k instances
abbrev Within : ℕ → ℕ → ℕ → Option → Type 0
Within k s m r = (s ≤ r.start) × (r.start < s + m) × (r.inst < k)

at_all : (P : Option → Type 0) (s i m : ℕ) (rest : List Option) → ((x : ℕ) → i ≤ x → x < i + m → P (record { start = s; inst = x }))
    → All P rest → All P (options_at s i m rest)
unfolding options_at
at_all P s i zero rest h q = q
at_all P s i (suc m) rest h q = (h i (omega arith) (omega arith), at_all P s (i + 1) m rest (λ x a l. h x (omega arith) (omega arith)) q)

at-ordered : (s i m : ℕ) (rest : List Option) → All (λ r. s < r.start) rest → InOrder SoonerOption rest → InOrder SoonerOption (options_at s i m rest)
unfolding options_at
at-ordered s i zero rest a h = h
at-ordered s i (suc m) rest a h = (
  at_all (SoonerOption (record { start = s; inst = i })) s (i + 1) m rest (λ x l q. inr (refl, omega arith))
      (all_map (λ r. s < r.start) (SoonerOption (record { start = s; inst = i })) (λ r l. inl l) rest a),
  at-ordered s (i + 1) m rest a h,
)

from_all : (k s m : ℕ) → All (Within k s m) (options_from k s m)
unfolding options_from
from_all k s zero = tt
from_all k s (suc m) =
    at_all (Within k s (suc m)) s 0 k (options_from k (s + 1) m) (λ x a l. (omega arith, omega arith, omega arith))
    (all_map (Within k (s + 1) m) (Within k s (suc m)) (λ r w. (omega (arith, w.0), omega (arith, w.1), w.2)) (options_from k (s + 1) m)
    (from_all k (s + 1) m))

from-ordered : (k s m : ℕ) → InOrder SoonerOption (options_from k s m)
unfolding options_from
from-ordered k s zero = tt
from-ordered k s (suc m) =
    at-ordered s 0 k (options_from k (s + 1) m)
    (all_map (Within k (s + 1) m) (λ r. s < r.start) (λ r w. omega (arith, w.0)) (options_from k (s + 1) m) (from_all k (s + 1) m))
    (from-ordered k (s + 1) m)

at-among : (s i m : ℕ) (rest : List Option) (x : ℕ) → i ≤ x → x < i + m → Among (record { start = s; inst = x }) (options_at s i m rest)
unfolding options_at
at-among s i zero rest x a l = absurd (omega arith)
at-among s i (suc m) rest x a l = go (ℕ_discrete x i) (at-among s (i + 1) m rest x)
  where
    go : Dec (x ≡ i) → (i + 1 ≤ x → x < i + 1 + m → Among (record { start = s; inst = x }) (options_at s (i + 1) m rest))
        → Among (record { start = s; inst = x }) (record { start = s; inst = i } ∷ options_at s (i + 1) m rest)
    go (yes e) further = inl (ap (λ (y : ℕ). record { start = s; inst = y }) e)
    go (no e) further = inr (further (omega (arith, e)) (omega arith))

at_rest : (s i m : ℕ) (rest : List Option) (r : Option) → Among r rest → Among r (options_at s i m rest)
unfolding options_at
at_rest s i zero rest r h = h
at_rest s i (suc m) rest r h = inr (at_rest s (i + 1) m rest r h)

from-among : (k s m : ℕ) (r : Option) → Within k s m r → Among r (options_from k s m)
unfolding options_from
from-among k s zero r h = absurd (omega (arith, h.0, h.1))
from-among k s (suc m) r h = go (ℕ_discrete s r.start) (from-among k (s + 1) m r)
  where
    go : Dec (s ≡ r.start) → (Within k (s + 1) m r → Among r (options_from k (s + 1) m)) → Among r (options_at s 0 k (options_from k (s + 1) m))
    go (yes e) further =
        subst (λ (x : ℕ). Among (record { start = x; inst = r.inst }) (options_at s 0 k (options_from k (s + 1) m))) e
        (at-among s 0 k (options_from k (s + 1) m) r.inst (omega arith) (omega (arith, h.2)))
    go (no e) further = at_rest s 0 k (options_from k (s + 1) m) r (further (omega (arith, e, h.0), omega (arith, h.1), h.2))

-- an option that an operation can have
abbrev pub Possible : Board → Option → Type 0
Possible b r = (1 ≤ r.start) × (r.start ≤ b.t) × (r.inst < b.k)

options-possible : (b : Board) → All (Possible b) (options b)
options-possible b =
    all_map (Within b.k 1 b.t) (Possible b) (λ r w. (w.0, omega (arith, w.1), w.2)) (options b) (from_all b.k 1 b.t)

pub options-exactly : (b : Board) (r : Option) → Among r (options b) ↔ Possible b r
options-exactly b r = (all_among (Possible b) (options b) (options-possible b) r, λ h. from-among b.k 1 b.t r (h.0, omega (arith, h.1), h.2))

pub options-ordered : (b : Board) → InOrder SoonerOption (options b)
options-ordered b = from-ordered b.k 1 b.t

-- ---- those that are live

module _ (b : Board) (p : Placing) (op : ℕ) where
  ones-all : (P : Option → Type 0) (Q : Placing → Type 0) → ((r : Option) → P r → live b (put p op r) ≡ true → Q (put p op r))
      → (rs : List Option) → All P rs → All Q (live_ones b p op rs)
  unfolding live_ones keep_if
  ones-all P Q f [] h = tt
  ones-all P Q f (r ∷ rs) h = go (live b (put p op r)) refl (ones-all P Q f rs h.1)
    where
      go : (t : Bool) → live b (put p op r) ≡ t → All Q (live_ones b p op rs) → All Q (keep_if t (put p op r) (live_ones b p op rs))
      go true e more = (f r h.0 e, more)
      go false e more = more

  ones-ordered : (R : Option → Option → Type 0) (Q : Placing → Placing → Type 0) → ((r q : Option) → R r q → Q (put p op r) (put p op q))
      → (rs : List Option) → InOrder R rs → InOrder Q (live_ones b p op rs)
  unfolding live_ones keep_if
  ones-ordered R Q f [] h = tt
  ones-ordered R Q f (r ∷ rs) h = go (live b (put p op r)) (ones-ordered R Q f rs h.1)
    where
      go : (t : Bool) → InOrder Q (live_ones b p op rs) → InOrder Q (keep_if t (put p op r) (live_ones b p op rs))
      go true more = (ones-all (R r) (Q (put p op r)) (λ q l e. f r q l) rs h.0, more)
      go false more = more

  pub ones-among : (r : Option) (rs : List Option) → Among r rs → live b (put p op r) ≡ true → Among (put p op r) (live_ones b p op rs)
  unfolding live_ones keep_if
  ones-among r [] h e = absurd h
  ones-among r (q ∷ rs) (inl i) e = rw (← i, e) (inl refl)
  ones-among r (q ∷ rs) (inr h) e = go (live b (put p op q)) (ones-among r rs h e)
    where
      go : (t : Bool) → Among (put p op r) (live_ones b p op rs) → Among (put p op r) (keep_if t (put p op q) (live_ones b p op rs))
      go true more = inr more
      go false more = more

-- ---- placings of the first m operations

pub record PlacedTo (b : Board) (m : ℕ) (p : Placing) : Type 0 where
  pub starts-long : length p.starts ≡ op_cells
  pub insts-long : length p.insts ≡ op_cells
  pub rows : (o : ℕ) → o < m → (1 ≤ cell p.starts o) × (cell p.starts o ≤ b.t) × (cell p.insts o < b.k)
  pub unused : (o : ℕ) → m ≤ o → (cell p.starts o ≡ 0) × (cell p.insts o ≡ 0)

-- the rows of the first m operations are the same
abbrev pub SameTo : ℕ → Placing → Placing → Type 0
SameTo m p q = (o : ℕ) → o < m → (cell p.starts o ≡ cell q.starts o) × (cell p.insts o ≡ cell q.insts o)

-- at the first of n operations whose rows differ, p's comes first
pub record RowsBefore (n : ℕ) (p q : Placing) : Type 0 where
  pub op : ℕ
  pub below : op < n
  pub alike : SameTo op p q
  pub sooner : Sooner (cell p.starts op) (cell p.insts op) (cell q.starts op) (cell q.insts op)

none-placed : (b : Board) → PlacedTo b 0 none
none-placed b =
    record {
      starts-long = length-replicate {A = ℕ} op_cells 0;
      insts-long = length-replicate {A = ℕ} op_cells 0;
      rows = λ o l. absurd (omega arith);
      unused = λ o l. (cell-replicate op_cells o, cell-replicate op_cells o);
    }

module _ (b : Board) (m : ℕ) (p : Placing) (few : m < op_cells) (w : PlacedTo b m p) where
  put-row : (r : Option) → (cell (put p m r).starts m ≡ r.start) × (cell (put p m r).insts m ≡ r.inst)
  put-row r = (
    get_or-set_same p.starts m r.start 0 (omega (arith, w.starts-long)),
    get_or-set_same p.insts m r.inst 0 (omega (arith, w.insts-long)),
  )

  put_other : (r : Option) (o : ℕ) → (o ≡ m → ⊥) → (cell (put p m r).starts o ≡ cell p.starts o) × (cell (put p m r).insts o ≡ cell p.insts o)
  put_other r o e = (get_or-set_other p.starts m o r.start 0 e, get_or-set_other p.insts m o r.inst 0 e)

  put_same : (r : Option) → SameTo m p (put p m r)
  put_same r o l = let e = put_other r o (λ e. omega arith) in (sym e.0, sym e.1)

  put-placed : (r : Option) → Possible b r → PlacedTo b (suc m) (put p m r)
  put-placed r h =
      record {
        starts-long = length-set p.starts m r.start ∙ w.starts-long;
        insts-long = length-set p.insts m r.inst ∙ w.insts-long;
        rows = λ o l. row o l (ℕ_discrete o m);
        unused = λ o l. let e = put_other r o (λ e. omega arith) in let z = w.unused o (omega arith) in (e.0 ∙ z.0, e.1 ∙ z.1);
      }
    where
      row : (o : ℕ) → o < suc m → Dec (o ≡ m) → (1 ≤ cell (put p m r).starts o) × (cell (put p m r).starts o ≤ b.t) × (cell (put p m r).insts o < b.k)
      row o l (yes e) = let q = put-row r in rw e (omega (arith, q.0, h.0), omega (arith, q.0, h.1), omega (arith, q.1, h.2))
      row o l (no e) =
          let q = put_other r o e in
          let v = w.rows o (omega (arith, e)) in
          (omega (arith, q.0, v.0), omega (arith, q.0, v.1), omega (arith, q.1, v.2))

  put-ordered : (r q : Option) → SoonerOption r q → SameTo m (put p m r) (put p m q)
      × Sooner (cell (put p m r).starts m) (cell (put p m r).insts m) (cell (put p m q).starts m) (cell (put p m q).insts m)
  put-ordered r q h =
      let x = put-row r in
      let y = put-row q in
      ((λ o l. let a = put_same r o l in let e = put_same q o l in (sym a.0 ∙ e.0, sym a.1 ∙ e.1)), rw (x.0, x.1, y.0, y.1) h)

-- ---- the nodes that the walk meets with d operations to place

pub record Met (b : Board) (d : ℕ) (p : Placing) : Type 0 where
  pub few : d ≤ b.n
  pub placed : PlacedTo b (b.n - d) p
  pub alive : live b p ≡ true

abbrev pub leaves_of : Board → List Placing
leaves_of b = leaves Placing (children b) b.n none

pub none-met : (b : Board) → OfJob b → Met b b.n none
none-met b of =
    let e : b.n - b.n ≡ 0 = omega arith in
    record { few = omega arith; placed = rw e (none-placed b); alive = none-live b of }

module _ (b : Board) (of : OfJob b) where
  -- a child, of a node with one operation more to place, has its rows, and costs no less
  record Child (d : ℕ) (p c : Placing) : Type 0 where
    met : Met b d c
    same : SameTo (b.n - suc d) p c
    costs : cost b p ≤ cost b c

  children-met : (d : ℕ) (p : Placing) → Met b (suc d) p → All (Child d p) (children b d p)
  unfolding children
  children-met d p m =
      let op : ℕ = b.n - suc d in
      let l : op < op_cells = omega (arith, few-ops b of, m.few) in
      let e : suc op ≡ b.n - d = omega (arith, m.few) in
      ones-all b p op (Possible b) (Child d p)
      (λ r h live.
      record {
        met =
            record {
              few = omega (arith, m.few);
              placed = subst (λ (k : ℕ). PlacedTo b k (put p op r)) e (put-placed b op p l m.placed r h);
              alive = live;
            };
        same = put_same b op p l m.placed r;
        costs = part-costs b p (put p op r) (put-part p op r (m.placed.unused op (omega arith)).0);
      })
      (options b) (options-possible b)

  pub grows : (d : ℕ) (p : Placing) → Met b (suc d) p → All (λ c. Met b d c × (cost b p ≤ cost b c)) (children b d p)
  grows d p m = all_map (Child d p) (λ c. Met b d c × (cost b p ≤ cost b c)) (λ c w. (w.met, w.costs)) (children b d p) (children-met d p m)

  -- ---- the leaves below a node: all operations are placed, and its rows are theirs

  abbrev LeafOf : ℕ → Placing → Placing → Type 0
  LeafOf d p l = Met b 0 l × SameTo (b.n - d) p l

  leaves-below : (d : ℕ) (p : Placing) → Met b d p → All (LeafOf d p) (leaves Placing (children b) d p)
  unfolding leaves
  leaves-below zero p m = ((m, λ o l. (refl, refl)), tt)
  leaves-below (suc d) p m =
      all-gather (LeafOf (suc d) p) (leaves Placing (children b) d) (children b d p)
      (all_map (Child d p) (λ c. All (LeafOf (suc d) p) (leaves Placing (children b) d c))
      (λ c w.
      all_map (LeafOf d c) (LeafOf (suc d) p)
      (λ x v. (v.0, λ o l. let e = w.same o l in let f = v.1 o (omega arith) in (e.0 ∙ f.0, e.1 ∙ f.1)))
      (leaves Placing (children b) d c) (leaves-below d c w.met))
      (children b d p) (children-met d p m))

  -- each leaf is live and has a row for each operation
  pub leaf-placed : (p : Placing) → Among p (leaves_of b) → PlacedTo b b.n p × (live b p ≡ true)
  leaf-placed p h =
      let w = all_among (LeafOf b.n none) (leaves_of b) (leaves-below b.n none (none-met b of)) p h in
      let e : b.n - 0 ≡ b.n = omega arith in
      (subst (λ (k : ℕ). PlacedTo b k p) e w.0.placed, w.0.alive)

  -- ---- their order

  abbrev SoonerAt : ℕ → Placing → Placing → Type 0
  SoonerAt op c e = SameTo op c e × Sooner (cell c.starts op) (cell c.insts op) (cell e.starts op) (cell e.insts op)

  ordered-below : (d : ℕ) (p : Placing) → Met b d p → InOrder (RowsBefore b.n) (leaves Placing (children b) d p)
  unfolding leaves children
  ordered-below zero p m = (tt, tt)
  ordered-below (suc d) p m =
      ordered-gather (RowsBefore b.n) (λ c e. Met b d c × Met b d e × SoonerAt op c e) (leaves Placing (children b) d) apart (children b d p)
      (all_map (Child d p) (λ c. InOrder (RowsBefore b.n) (leaves Placing (children b) d c)) (λ c w. ordered-below d c w.met) (children b d p)
      (children-met d p m))
      (ordered-with (Met b d) (SoonerAt op) (children b d p) (all_map (Child d p) (Met b d) (λ c w. w.met) (children b d p) (children-met d p m))
      (ones-ordered b p op SoonerOption (SoonerAt op) (put-ordered b op p (omega (arith, few-ops b of, m.few)) m.placed) (options b) (options-ordered b)))
    where
      op : ℕ
      op = b.n - suc d

      before : (c e x y : Placing) → SoonerAt op c e → LeafOf d c x → LeafOf d e y → RowsBefore b.n x y
      before c e x y s u v =
          let cx = u.1 op (omega (arith, m.few)) in
          let ey = v.1 op (omega (arith, m.few)) in
          record {
            op = op;
            below = omega (arith, m.few);
            alike = λ o l.
                let a = u.1 o (omega (arith, m.few)) in
                let h = s.0 o l in
                let i = v.1 o (omega (arith, m.few)) in
                (sym a.0 ∙ h.0 ∙ i.0, sym a.1 ∙ h.1 ∙ i.1);
            sooner = rw (← cx.0, ← cx.1, ← ey.0, ← ey.1) s.1;
          }

      apart : (c e : Placing) → Met b d c × Met b d e × SoonerAt op c e
          → All (λ x. All (RowsBefore b.n x) (leaves Placing (children b) d e)) (leaves Placing (children b) d c)
      apart c e w =
          all_map (LeafOf d c) (λ x. All (RowsBefore b.n x) (leaves Placing (children b) d e))
          (λ x u. all_map (LeafOf d e) (RowsBefore b.n x) (λ y v. before c e x y w.2 u v) (leaves Placing (children b) d e) (leaves-below d e w.1))
          (leaves Placing (children b) d c) (leaves-below d c w.0)

  pub leaves-ordered : InOrder (RowsBefore b.n) (leaves_of b)
  leaves-ordered = ordered-below b.n none (none-met b of)

  -- ---- each live placing of all operations is a leaf: its first rows are a node at every depth

  module _ (q : Placing) (w : PlacedTo b b.n q) (alive : live b q ≡ true) where
    abbrev first_rows : ℕ → Placing
    first_rows m = record { starts = cells (cell q.starts) m op_cells; insts = cells (cell q.insts) m op_cells }

    first_part : (m : ℕ) → m ≤ op_cells → Part (first_rows m) q
    first_part m few = record { rows = λ o. go o (dec_lt o m) }
      where
        go : (o : ℕ) → Dec (o < m) → (cell (first_rows m).starts o ≡ 0)
            ⊎ ((cell (first_rows m).starts o ≡ cell q.starts o) × (cell (first_rows m).insts o ≡ cell q.insts o))
        go o (yes l) = inr (cell-cells (cell q.starts) m op_cells o l few, cell-cells (cell q.insts) m op_cells o l few)
        go o (no l) = inl (cell-unused (cell q.starts) m op_cells o (omega arith))

    rows_whole : (table : List ℕ) → length table ≡ op_cells → ((o : ℕ) → b.n ≤ o → cell table o ≡ 0) → cells (cell table) b.n op_cells ≡ table
    rows_whole table e z =
        ext_get_or 0 (cells (cell table) b.n op_cells) table (length-cells (cell table) b.n op_cells ∙ sym e) (λ o l. go o (dec_lt o b.n))
      where
        go : (o : ℕ) → Dec (o < b.n) → cell (cells (cell table) b.n op_cells) o ≡ cell table o
        go o (yes l) = cell-cells (cell table) b.n op_cells o l (few-ops b of)
        go o (no l) = cell-unused (cell table) b.n op_cells o (omega arith) ∙ sym (z o (omega arith))

    first-whole : q ≡ first_rows b.n
    first-whole =
        let s = rows_whole q.starts w.starts-long (λ o l. (w.unused o l).0) in
        let i = rows_whole q.insts w.insts-long (λ o l. (w.unused o l).1) in
        λ x. record { starts = sym s x; insts = sym i x }

    leaf-from : (d : ℕ) → d ≤ b.n → Among q (leaves Placing (children b) d (first_rows (b.n - d)))
    unfolding leaves children filled
    leaf-from zero l = let e : b.n - 0 ≡ b.n = omega arith in rw e (inl first-whole)
    leaf-from (suc d) l =
        let op : ℕ = b.n - suc d in
        let r : Option = record { start = cell q.starts op; inst = cell q.insts op } in
        let e : b.n - d ≡ suc op = omega arith in
        let h = w.rows op (omega arith) in
        let alive' = part-live b of (first_rows (suc op)) q (first_part (suc op) (omega (arith, few-ops b of))) alive in
        among-gather (leaves Placing (children b) d) (children b d (first_rows op)) (first_rows (suc op)) q
        (ones-among b (first_rows op) op r (options b) ((options-exactly b r).1 h) alive')
        (subst (λ (k : ℕ). Among q (leaves Placing (children b) d (first_rows k))) e (leaf-from d (omega arith)))

    pub placed-leaf : Among q (leaves_of b)
    unfolding filled
    placed-leaf =
        let e : b.n - b.n ≡ 0 = omega arith in
        subst (λ (k : ℕ). Among q (leaves Placing (children b) b.n (first_rows k))) e (leaf-from b.n (omega arith))
