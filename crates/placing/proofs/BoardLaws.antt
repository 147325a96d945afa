-- Laws of the board of a job that was read: how much there is of each, what `near` says of links (`linked-says`, `near-leads`),
-- that `lasts` is the rule on rows (`last_says`), and the chain rule in the board's words (`runs-rule`).
use Prim.Native.Nat.{ℕ, zero, suc, ◌+◌, ◌-◌, ◌*◌, ◌/◌, ◌%◌, ◌≤◌, ◌<◌}
use mathlib.Core.Path.{◌≡◌, refl, sym, ap, ◌∙◌}
use mathlib.Core.Bool.{Bool, true, false, ◌&&◌}
use mathlib.Core.List.{List}
use mathlib.Core.Logic.{◌⊎◌, inl, inr, ⊎_elim, ◌↔◌}
use native.Mathlib.Decide.{ℕ_discrete, dec_lt}
use native.Mathlib.Omega.{arith}
use borrow.Author.Tests.{leb-true, ltb-true, eqb-true, le-leb, lt-leb, lt-ltb, le-ltb, eq-eqb, ne_eqb}
use lib.Dec.{ltb, leb, eqb}
use Rattle.basics.specs.Counting.{sum_to, only}
use Rattle.basics.specs.Tables.{cell}
use Rattle.basics.proofs.CountLaws.{and_both, both-and, same_test, sum_to-most, only-small}
use Rattle.basics.proofs.TableLaws.{cell-cells}
use Rattle.sheets.specs.Limits.{op_cells, inst_cells, type_cells, max_steps}
use Rattle.sheets.specs.declared.Job.{Job}
use Rattle.sheets.proofs.JobRoundTrip.{job-sound}
use Rattle.sheets.proofs.RecordLaws.{JobSound}
use Rattle.rules.specs.Model.{behind, inst_count, type_at, time_of, spacing_of, unit_cells, unit_table}
use Rattle.rules.specs.Rules.{row_fault, chains_ok}
use Rattle.rules.specs.Meets.{Link, RunsFit}
use Rattle.rules.proofs.ChainRule.{chain-rule}
use Rattle.rules.proofs.ModelLaws.{type-cell, unit-cell, able-holds}
use Rattle.rules.proofs.RuleLaws.{none_row, row-none}
use Rattle.placing.specs.declared.Board.{Board}
use Rattle.placing.specs.Board.{unit, last_start, last_at, last_table, nearer_if, nearer, nearest, near_cells, near_at, near_table, near_of, linked, Leads, board_of, OfJob, WasRead}

-- ---- the first operation from x on that a link joins to o

-- one of e links joins o and x
pub record Joining (from to : List ℕ) (e o x : ℕ) : Type 0 where
  pub number : ℕ
  pub below : number < e
  pub ends : ((cell from number ≡ o) × (cell to number ≡ x)) ⊎ ((cell from number ≡ x) × (cell to number ≡ o))

-- y, which is nearer, or as far as before
abbrev Nearer : ℕ → ℕ → ℕ → ℕ → ℕ → ℕ → Type 0
Nearer o x far a y r = ((r ≡ y) × (a ≡ o) × (x ≤ y) × (y < far)) ⊎ ((r ≡ far) × (a ≡ o → x ≤ y → far ≤ y))

nearer-cases : (o x far a y : ℕ) → Nearer o x far a y (nearer o x far a y)
unfolding nearer nearer_if
nearer-cases o x far a y = go (eqb a o && leb x y && ltb y far) refl
  where
    go : (t : Bool) → eqb a o && leb x y && ltb y far ≡ t → Nearer o x far a y (nearer_if t far y)
    go true h =
        let w = and_both (eqb a o && leb x y) (ltb y far) h in
        let v = and_both (eqb a o) (leb x y) w.0 in
        inl (refl, eqb-true a o v.0, leb-true x y v.1, ltb-true y far w.1)
    go false h =
        inr (
          refl,
          λ e l. elim (dec_lt y far) [
            | yes q ↦
                let z = both-and (eqb a o && leb x y) (ltb y far) (both-and (eqb a o) (leb x y) (eq-eqb a o e) (le-leb x y l)) (lt-ltb y far q) in
                absurd (let n : ◌≡◌ {A = ℕ} 0 1 = cc in omega arith)
            | no q ↦ omega arith
          ],
        )

nearer-most : (o x far a y : ℕ) → nearer o x far a y ≤ far
nearer-most o x far a y = ⊎_elim (λ h. omega arith) (λ h. omega (arith, h.0)) (nearer-cases o x far a y)

nearer-ahead : (o x far a y : ℕ) → x ≤ far → x ≤ nearer o x far a y
nearer-ahead o x far a y l = ⊎_elim (λ h. omega arith) (λ h. omega (arith, h.0)) (nearer-cases o x far a y)

nearer-reaches : (o x far a y : ℕ) → a ≡ o → x ≤ y → nearer o x far a y ≤ y
nearer-reaches o x far a y e l = ⊎_elim (λ h. omega arith) (λ h. omega (arith, h.0, h.1 e l)) (nearer-cases o x far a y)

module _ (from to : List ℕ) (o x : ℕ) where
  -- over the first l links
  abbrev found : ℕ → ℕ
  found l = nearest from to o x l

  -- by the link's second operation
  abbrev half : ℕ → ℕ
  half l = nearer o x (found l) (cell from l) (cell to l)

  nearest-falls : (l : ℕ) → found (suc l) ≤ found l
  unfolding nearest
  nearest-falls l = omega (arith, nearer-most o x (found l) (cell from l) (cell to l), nearer-most o x (half l) (cell to l) (cell from l))

  nearest-most : (l : ℕ) → found l ≤ op_cells
  unfolding nearest
  nearest-most zero = omega arith
  nearest-most (suc l) = omega (arith, nearest-falls l, nearest-most l)

  nearest-ahead : x ≤ op_cells → (l : ℕ) → x ≤ found l
  unfolding nearest
  nearest-ahead h zero = h
  nearest-ahead h (suc l) =
      nearer-ahead o x (half l) (cell to l) (cell from l) (nearer-ahead o x (found l) (cell from l) (cell to l) (nearest-ahead h l))

  -- no link of the first l joins o to one that is nearer
  nearest-least : (l y : ℕ) → x ≤ y → Joining from to l o y → found l ≤ y
  unfolding nearest
  nearest-least zero y h n = absurd (omega (arith, n.below))
  nearest-least (suc l) y h n = go (ℕ_discrete n.number l) n.ends (nearest-least l y h)
    where
      go : Dec (n.number ≡ l) → ((cell from n.number ≡ o) × (cell to n.number ≡ y)) ⊎ ((cell from n.number ≡ y) × (cell to n.number ≡ o))
          → (Joining from to l o y → found l ≤ y) → found (suc l) ≤ y
      go (no d) w before =
          omega (arith, nearest-falls l, before (record { number = n.number; below = omega (arith, n.below, d); ends = w }))
      go (yes e) (inl w) before =
          let a : cell from l ≡ o = rw e at w.0 in
          let b : cell to l ≡ y = rw e at w.1 in
          omega (arith, nearer-most o x (half l) (cell to l) (cell from l), nearer-reaches o x (found l) (cell from l) (cell to l) a (omega arith))
      go (yes e) (inr w) before =
          let a : cell from l ≡ y = rw e at w.0 in
          let b : cell to l ≡ o = rw e at w.1 in
          omega (arith, nearer-reaches o x (half l) (cell to l) (cell from l) b (omega arith))

  -- nothing is found, or a link joins o to what is
  nearest-joins : (l : ℕ) → (found l ≡ op_cells) ⊎ Joining from to l o (found l)
  unfolding nearest
  nearest-joins zero = inl refl
  nearest-joins (suc l) = go (nearer-cases o x (half l) (cell to l) (cell from l)) (nearer-cases o x (found l) (cell from l) (cell to l)) (nearest-joins l)
    where
      go : Nearer o x (half l) (cell to l) (cell from l) (found (suc l)) → Nearer o x (found l) (cell from l) (cell to l) (half l)
          → (found l ≡ op_cells) ⊎ Joining from to l o (found l)
          → (found (suc l) ≡ op_cells) ⊎ Joining from to (suc l) o (found (suc l))
      go (inl w) v before = inr (record { number = l; below = omega arith; ends = inr (sym w.0, w.1) })
      go (inr w) (inl v) before = inr (record { number = l; below = omega arith; ends = inl (v.1, sym (w.0 ∙ v.0)) })
      go (inr w) (inr v) (inl e) = inl (w.0 ∙ v.0 ∙ e)
      go (inr w) (inr v) (inr n) =
          inr (rw (w.0 ∙ v.0) (record { number = n.number; below = omega (arith, n.below); ends = n.ends }))

-- ---- what stands in the tables

near-cell : (from to : List ℕ) (e n o x : ℕ) → n ≤ op_cells → o < n → x ≤ op_cells → near_of (near_table from to e n) o x ≡ nearest from to o x e
near-cell from to e n o x few lo lx =
    let q : (near_cells * o + x) / near_cells ≡ o = omega arith in
    let r : (near_cells * o + x) % near_cells ≡ x = omega arith in
    cell-cells (near_at from to e) (near_cells * n) (near_cells * op_cells) (near_cells * o + x) (omega arith) (omega arith) ∙ rw (q, r)

last-cell : (t : ℕ) (times delays : List ℕ) (o i : ℕ) → o < op_cells → i < inst_cells
    → unit (last_table t times delays) o i ≡ last_start t (unit times o i) (unit delays o i)
last-cell t times delays o i lo li =
    cell-cells (last_at t times delays) unit_cells unit_cells (inst_cells * o + i) (omega arith) (omega arith)

behind-small : (copies : List ℕ) (i y : ℕ) → behind copies i y ≤ 1
unfolding behind
behind-small copies i y = only-small _ 1

-- an instance is not behind the last type
type-below : (copies : List ℕ) (m i : ℕ) → i < sum_to (cell copies) m → type_at copies m i < m
unfolding type_at sum_to behind only
type-below copies zero i h = absurd (omega arith)
type-below copies (suc m) i h =
    let z : behind copies i m ≡ 0 = rw (lt-leb (sum_to (cell copies) (suc m)) i h) in
    omega (arith, sum_to-most (behind copies i) 1 m (λ y l. behind-small copies i y))

-- ---- the last start is the rule on rows

last-rule : (k t i time s delay : ℕ) → i < k → 1 ≤ s → leb s (last_start t time delay) ≡ eqb (row_fault k t i time true s delay) 0
unfolding last_start only
last-rule k t i time s delay l h =
    same_test (leb s (last_start t time delay)) (eqb (row_fault k t i time true s delay) 0) (λ e. row e (dec_lt 0 time)) last
  where
    row : leb s (last_start t time delay) ≡ true → Dec (0 < time) → eqb (row_fault k t i time true s delay) 0 ≡ true
    row e (yes q) =
        let a : s ≤ t + 1 - delay = leb-true s (t + 1 - delay) (rw (lt-ltb 0 time q) at e) in
        eq-eqb _ 0 (row-none k t i time true s delay (record { instance = l; able = q; selects = refl; begins = h; ends = omega arith }))
    row e (no q) = let a : s ≤ 0 = leb-true s 0 (rw (le-ltb 0 time (omega arith)) at e) in absurd (omega arith)

    last : eqb (row_fault k t i time true s delay) 0 ≡ true → leb s (last_start t time delay) ≡ true
    last e =
        let w = none_row k t i time true s delay (eqb-true _ 0 e) in
        rw (lt-ltb 0 time w.able) (le-leb s (t + 1 - delay) (omega (arith, w.ends)))

-- ---- the board

module _ (b : Board) (of : OfJob b) where
  pub board-sound : JobSound of.job
  board-sound = job-sound of.sheet of.job of.read

  pub few-ops : b.n ≤ op_cells
  unfolding board_of
  few-ops = rw of.is board-sound.counts.ops

  pub few-insts : b.k ≤ inst_cells
  unfolding board_of
  few-insts = rw of.is board-sound.insts

  pub few-steps : b.t ≤ max_steps
  unfolding board_of
  few-steps = rw of.is board-sound.steps

  pub type-small : (i : ℕ) → i < b.k → cell b.types i < type_cells
  unfolding board_of
  type-small i l =
      let q : i < sum_to (cell of.job.copies) of.job.m = rw of.is at l in
      let t = type-cell of.job.copies of.job.m i (omega (arith, board-sound.insts)) in
      rw of.is (omega (arith, t, type-below of.job.copies of.job.m i q, board-sound.counts.types))

  pub link-ends : (l : ℕ) → l < b.e → (cell b.from l < cell b.to l) × (cell b.to l < b.n)
  unfolding board_of
  link-ends l q = rw of.is (board-sound.links l (rw of.is at q))

  -- ---- near

  pub joining-below : (o x : ℕ) → Joining b.from b.to b.e o x → (o < b.n) × (x < b.n)
  joining-below o x n = go n.ends (link-ends n.number n.below)
    where
      go : ((cell b.from n.number ≡ o) × (cell b.to n.number ≡ x)) ⊎ ((cell b.from n.number ≡ x) × (cell b.to n.number ≡ o))
          → (cell b.from n.number < cell b.to n.number) × (cell b.to n.number < b.n) → (o < b.n) × (x < b.n)
      go (inl w) l = omega arith
      go (inr w) l = omega arith

  pub joining-apart : (o x : ℕ) → Joining b.from b.to b.e o x → x ≡ o → ⊥
  joining-apart o x n e = ⊎_elim (λ w. omega (arith, link-ends n.number n.below)) (λ w. omega (arith, link-ends n.number n.below)) n.ends

  near-is : b.near ≡ near_table b.from b.to b.e b.n
  unfolding board_of
  near-is = rw of.is refl

  pub near-nearest : (o x : ℕ) → o < b.n → x ≤ op_cells → near_of b.near o x ≡ nearest b.from b.to o x b.e
  near-nearest o x lo lx = rw near-is (near-cell b.from b.to b.e b.n o x few-ops lo lx)

  pub linked-says : (o x : ℕ) → o < b.n → x < op_cells → linked b.near o x ≡ true → Joining b.from b.to b.e o x
  linked-says o x lo lx h = go (nearest-joins b.from b.to o x b.e)
    where
      e : nearest b.from b.to o x b.e ≡ x
      e = sym (near-nearest o x lo (omega arith)) ∙ eqb-true (near_of b.near o x) x h

      go : (nearest b.from b.to o x b.e ≡ op_cells) ⊎ Joining b.from b.to b.e o (nearest b.from b.to o x b.e)
          → Joining b.from b.to b.e o x
      go (inl z) = absurd (omega (arith, e))
      go (inr n) = rw e at n

  pub says-linked : (o x : ℕ) → o < b.n → x < op_cells → Joining b.from b.to b.e o x → linked b.near o x ≡ true
  says-linked o x lo lx n =
      let most = nearest-least b.from b.to o x b.e x (omega arith) n in
      let least = nearest-ahead b.from b.to o x (omega arith) b.e in
      eq-eqb (near_of b.near o x) x (omega (arith, near-nearest o x lo (omega arith), most, least))

  pub near-leads : (o : ℕ) → o < b.n → Leads b.near o
  near-leads o lo = record { ahead = ahead; within = within; passes = passes; arrives = arrives }
    where
      ahead : (x : ℕ) → x ≤ op_cells → x ≤ near_of b.near o x
      ahead x l = omega (arith, near-nearest o x lo l, nearest-ahead b.from b.to o x l b.e)

      within : (x : ℕ) → x ≤ op_cells → near_of b.near o x ≤ op_cells
      within x l = omega (arith, near-nearest o x lo l, nearest-most b.from b.to o x b.e)

      passes : (x y : ℕ) → x ≤ op_cells → x ≤ y → y < near_of b.near o x → linked b.near o y ≡ false
      passes x y l h q =
          ne_eqb (near_of b.near o y) y (λ e.
          let n = linked-says o y lo (omega (arith, within x l)) (eq-eqb (near_of b.near o y) y e) in
          omega (arith, near-nearest o x lo l, nearest-least b.from b.to o x b.e y h n))

      arrives : (x : ℕ) → x ≤ op_cells → linked b.near o (near_of b.near o x) ≡ true
      arrives x l = go (nearest-joins b.from b.to o x b.e)
        where
          go : (nearest b.from b.to o x b.e ≡ op_cells) ⊎ Joining b.from b.to b.e o (nearest b.from b.to o x b.e)
              → linked b.near o (near_of b.near o x) ≡ true
          go (inl z) =
              let e : near_of b.near o x ≡ op_cells = near-nearest o x lo l ∙ z in
              rw e (eq-eqb (near_of b.near o op_cells) op_cells (omega (arith, ahead op_cells (omega arith), within op_cells (omega arith))))
          go (inr n) = rw (near-nearest o x lo l) (says-linked o _ lo (omega (arith, few-ops, (joining-below o _ n).1)) n)

  -- ---- lasts

  lasts-is : b.lasts ≡ last_table b.t b.times b.delays
  unfolding board_of
  lasts-is = rw of.is refl

  pub last_says : (o i s : ℕ) → o < b.n → i < b.k → 1 ≤ s
      → leb s (unit b.lasts o i) ≡ eqb (row_fault b.k b.t i (unit b.times o i) true s (unit b.delays o i)) 0
  last_says o i s lo li h =
      let e : unit b.lasts o i ≡ last_start b.t (unit b.times o i) (unit b.delays o i) =
      rw lasts-is (last-cell b.t b.times b.delays o i (omega (arith, few-ops)) (omega (arith, few-insts))) in
      rw e (last-rule b.k b.t i (unit b.times o i) s (unit b.delays o i) li h)

  -- ---- spacings: an operation that an instance can do holds it for a step or more

  pub board-holds : (o i : ℕ) → o < b.n → i < b.k → 0 < unit b.times o i → 1 ≤ unit b.spacings o i
  unfolding board_of
  board-holds o i lo li h =
      let j = of.job in
      let few : o < op_cells = omega (arith, few-ops) in
      let narrow : i < inst_cells = omega (arith, few-insts) in
      let able : 0 < unit (unit_table (time_of j)) o i = rw of.is at h in
      rw of.is (rw (unit-cell (spacing_of j) o i few narrow) (able-holds j board-sound o i (rw (unit-cell (time_of j) o i few narrow) at able)))

  -- ---- chains

  pub runs-rule : (starts times : List ℕ)
      → (chains_ok b.from b.to b.e b.wire b.clock starts times ≡ true) ↔ RunsFit of.job (cell starts) (cell times)
  unfolding board_of
  runs-rule starts times = rw of.is (chain-rule of.job board-sound starts times)

  -- links, wire and clock are the job's
  pub link-joins : (x y : ℕ) → Link of.job x y → Joining b.from b.to b.e x y
  unfolding board_of
  link-joins x y n = rw of.is (record { number = n.number; below = n.below; ends = inl (n.leaves, n.enters) })

  pub link-rises : (x y : ℕ) → Link of.job x y → x < y
  link-rises x y n = omega (arith, (board-sound.links n.number n.below).0, n.leaves, n.enters)

  pub link-of : (l : ℕ) → l < b.e → Link of.job (cell b.from l) (cell b.to l)
  unfolding board_of
  link-of l q = rw of.is (record { number = l; below = rw of.is at q; leaves = refl; enters = refl })

  pub wire-is : of.job.wire ≡ b.wire
  unfolding board_of
  wire-is = sym (ap (λ (x : Board). x.wire) of.is)

  pub clock-is : of.job.clock ≡ b.clock
  unfolding board_of
  clock-is = sym (ap (λ (x : Board). x.clock) of.is)

-- ---- of a job that was read

pub read-limits : (j : Job) → WasRead j → (j.n ≤ op_cells) × (inst_count j ≤ inst_cells) × (j.t ≤ max_steps)
read-limits j r = let s = job-sound r.sheet j r.read in (s.counts.ops, s.insts, s.steps)

pub board-read : {b : Board} (j : Job) → WasRead j → b ≡ board_of j → OfJob b
board-read j r e = record { sheet = r.sheet; job = j; read = r.read; is = e }
