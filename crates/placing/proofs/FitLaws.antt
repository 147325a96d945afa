-- The test of one more row: `fits` against rows that are live is `live` of the whole (`fits-live`), and no start before the
-- first start is live (`early-dead`).
use Prim.Native.Nat.{ℕ, zero, suc, ◌+◌, ◌≤◌, ◌<◌, max}
use mathlib.Core.Path.{◌≡◌, refl, sym, ap, ◌∙◌}
use mathlib.Core.Bool.{Bool, true, false, not, ◌&&◌, ◌||◌}
use mathlib.Core.List.{List, [], ◌∷◌}
use mathlib.Core.Logic.{◌⊎◌, inl, inr, ⊎_elim}
use native.Mathlib.Decide.{ℕ_discrete, dec_lt}
use native.Mathlib.Omega.{arith}
use borrow.Author.Tests.{eqb-true, le-leb, lt-ltb, le-ltb, eq-eqb, ne_eqb}
use lib.Dec.{ltb, leb, eqb}
use lib.ListN.{length, set, length-set}
use lib.Seq.{get_or-set_same, get_or-set_other, ext_get_or}
use Rattle.std.proofs.Math.Bool.{and-true, or-true}
use Rattle.basics.specs.Counting.{all_to, only}
use Rattle.basics.specs.Tables.{cell}
use Rattle.basics.proofs.CountLaws.{and_both, both-and, asked, where-asked, same_test, all_to-each, each-all_to, some-any_to, any_to-none, either, either_left, either-right}
use Rattle.basics.proofs.TableLaws.{length-cells, cell-cells, cell-unused}
use Rattle.sheets.specs.Limits.{op_cells}
use Rattle.rules.specs.Model.{row_at, row_table}
use Rattle.rules.specs.Rules.{finish, row_fault, placed, joins, precedes, link_ok, precedence_ok, apart, share_ok, beside_ok, resource_ok, chains_ok}
use Rattle.rules.specs.Meets.{Link, Joined, AllIn, run_total, RunsFit}
use Rattle.rules.proofs.RuleLaws.{precedes-says, apart-swap}
use Rattle.placing.specs.declared.Board.{Board}
use Rattle.placing.specs.Board.{unit, linked, OfJob}
use Rattle.placing.specs.Placing.{Placing, row_ok, live}
use Rattle.placing.specs.Options.{put}
use Rattle.placing.specs.Fitting.{in_turn_if, in_turn, pair_ok, link_fits, links_fit, share_fits, shares_fit, chained_at, chained, chains_fit, fits, end_of, first_start}
use Rattle.placing.proofs.BoardLaws.{Joining, few-ops, link-ends, joining-below, joining-apart, linked-says, says-linked, last_says, runs-rule, link-joins, link-rises, link-of, wire-is, clock-is}

-- ---- tests

-- all of four
and-four : (a b c d : Bool) → a && b && c && d ≡ true → (a ≡ true) × (b ≡ true) × (c ≡ true) × (d ≡ true)
and-four a b c d h =
    let w = and_both (a && b && c) d h in
    let v = and_both (a && b) c w.0 in
    let u = and_both a b v.0 in
    (u.0, u.1, v.1, w.1)

four-and : (a b c d : Bool) → a ≡ true → b ≡ true → c ≡ true → d ≡ true → a && b && c && d ≡ true
four-and a b c d p q r t = rw (p, q, r, t)

only_above : (test : Bool) (x s : ℕ) → s < only test x → (test ≡ true) × (s < x)
unfolding only
only_above true x s h = (refl, h)
only_above false x s h = absurd (omega arith)

-- one that is not placed does not ask about its instance
share-empty : (spacings starts insts : List ℕ) (s i spacing o : ℕ) → cell starts o ≡ 0 → share_fits spacings starts insts s i spacing o ≡ true
unfolding share_fits
share-empty spacings starts insts s i spacing o e = rw (e, or-true (not (eqb (cell insts o) i)))

-- ---- the four parts of `live`

module _ (b : Board) where
  abbrev times : Placing → List ℕ
  times q = row_table (unit b.times) q.insts

  abbrev delays : Placing → List ℕ
  delays q = row_table (unit b.delays) q.insts

  abbrev spacings : Placing → List ℕ
  spacings q = row_table (unit b.spacings) q.insts

  abbrev rows : Placing → Bool
  rows q = all_to (row_ok b q) b.n

  abbrev precedence : Placing → Bool
  precedence q = precedence_ok b.from b.to b.e q.starts (delays q)

  abbrev resource : Placing → Bool
  resource q = resource_ok b.n q.starts q.insts (spacings q)

  abbrev chains : Placing → Bool
  chains q = chains_ok b.from b.to b.e b.wire b.clock q.starts (times q)

  -- one link, one operation with those before it, and with one of them
  abbrev link_at : Placing → ℕ → Bool
  link_at q = link_ok b.from b.to q.starts (delays q)

  abbrev beside_at : Placing → ℕ → Bool
  beside_at q = beside_ok q.starts q.insts (spacings q)

  abbrev share_at : Placing → ℕ → ℕ → Bool
  share_at q = share_ok q.starts q.insts (spacings q)

  -- a link from a to c
  abbrev link_test : Placing → ℕ → ℕ → Bool
  link_test q a c =
      not (placed q.starts a && placed q.starts c) || precedes (cell q.starts a) (cell (delays q) a) (cell q.starts c) (cell (delays q) c)

  pub live-parts : (q : Placing) → live b q ≡ true → (rows q ≡ true) × (precedence q ≡ true) × (resource q ≡ true) × (chains q ≡ true)
  unfolding live
  live-parts q h = and-four (rows q) (precedence q) (resource q) (chains q) h

  pub parts-live : (q : Placing) → rows q ≡ true → precedence q ≡ true → resource q ≡ true → chains q ≡ true → live b q ≡ true
  unfolding live
  parts-live q r e c h = four-and (rows q) (precedence q) (resource q) (chains q) r e c h

-- ---- operation op placed too

module _ (b : Board) (of : OfJob b) (p : Placing) (ls : length p.starts ≡ op_cells) (li : length p.insts ≡ op_cells)
    (op s i : ℕ) (lo : op < b.n) (begun : 1 ≤ s) where
  abbrev next : Placing
  next = put p op (record { start = s; inst = i })

  -- as they stand before
  abbrev start : ℕ → ℕ
  start o = cell p.starts o

  abbrev inst : ℕ → ℕ
  inst o = cell p.insts o

  abbrev time : ℕ → ℕ → ℕ
  time = unit b.times

  abbrev delay : ℕ → ℕ → ℕ
  delay = unit b.delays

  abbrev spacing : ℕ → ℕ → ℕ
  spacing = unit b.spacings

  -- a link joins op and o
  abbrev Near : ℕ → Type 0
  Near o = Joining b.from b.to b.e op o

  start-here : cell next.starts op ≡ s
  start-here = get_or-set_same p.starts op s 0 (omega (arith, few-ops b of))

  start-there : (o : ℕ) → (o ≡ op → ⊥) → cell next.starts o ≡ start o
  start-there o d = get_or-set_other p.starts op o s 0 d

  inst-here : cell next.insts op ≡ i
  inst-here = get_or-set_same p.insts op i 0 (omega (arith, few-ops b of))

  inst-there : (o : ℕ) → (o ≡ op → ⊥) → cell next.insts o ≡ inst o
  inst-there o d = get_or-set_other p.insts op o i 0 d

  row_here : (f : ℕ → ℕ → ℕ) → cell (row_table f next.insts) op ≡ f op i
  row_here f = cell-cells (row_at f next.insts) op_cells op_cells op (omega (arith, few-ops b of)) (omega arith) ∙ ap (f op) inst-here

  row-there : (f : ℕ → ℕ → ℕ) (o : ℕ) → (o ≡ op → ⊥) → cell (row_table f next.insts) o ≡ cell (row_table f p.insts) o
  row-there f o d = go (dec_lt o op_cells)
    where
      go : Dec (o < op_cells) → cell (row_table f next.insts) o ≡ cell (row_table f p.insts) o
      go (yes l) =
          cell-cells (row_at f next.insts) op_cells op_cells o l (omega arith)
          ∙ ap (f o) (inst-there o d) ∙ sym (cell-cells (row_at f p.insts) op_cells op_cells o l (omega arith))
      go (no l) = cell-unused (row_at f next.insts) op_cells op_cells o (omega arith) ∙ sym (cell-unused (row_at f p.insts) op_cells op_cells o (omega arith))

  -- of one of the operations
  row_other : (f : ℕ → ℕ → ℕ) (o : ℕ) → (o ≡ op → ⊥) → o < b.n → cell (row_table f next.insts) o ≡ f o (inst o)
  row_other f o d l = row-there f o d ∙ cell-cells (row_at f p.insts) op_cells op_cells o (omega (arith, few-ops b of)) (omega arith)

  -- the table with one cell set
  table-set : (f : ℕ → ℕ → ℕ) → row_table f next.insts ≡ set (row_table f p.insts) op (f op i)
  table-set f =
      let e = length-cells (row_at f next.insts) op_cells op_cells ∙ sym (length-set (row_table f p.insts) op (f op i) ∙ size) in
      ext_get_or 0 (row_table f next.insts) (set (row_table f p.insts) op (f op i)) e (λ o l. go o (ℕ_discrete o op))
    where
      size : length (row_table f p.insts) ≡ op_cells
      size = length-cells (row_at f p.insts) op_cells op_cells

      go : (o : ℕ) → Dec (o ≡ op) → cell (row_table f next.insts) o ≡ cell (set (row_table f p.insts) op (f op i)) o
      go o (yes e) = rw e (row_here f ∙ sym (get_or-set_same (row_table f p.insts) op (f op i) 0 (omega (arith, size, few-ops b of))))
      go o (no d) = row-there f o d ∙ sym (get_or-set_other (row_table f p.insts) op o (f op i) 0 d)

  -- ---- rows

  row-op : row_ok b next op ≡ eqb (row_fault b.k b.t i (time op i) true s (delay op i)) 0
  unfolding row_ok
  row-op = rw (inst-here, start-here, lt-ltb 0 s begun)

  row_same : (o : ℕ) → (o ≡ op → ⊥) → row_ok b next o ≡ row_ok b p o
  unfolding row_ok
  row_same o d = rw (inst-there o d, start-there o d)

  rows_last : i < b.k → rows b p ≡ true → leb s (unit b.lasts op i) ≡ rows b next
  rows_last lk h =
      let e = last_says b of op i s lo lk begun ∙ sym row-op in
      same_test (leb s (unit b.lasts op i)) (rows b next)
      (λ t. each-all_to (row_ok b next) b.n (λ o l. go o l (ℕ_discrete o op) (sym e ∙ t)))
      (λ t. e ∙ all_to-each (row_ok b next) b.n t op lo)
    where
      go : (o : ℕ) → o < b.n → Dec (o ≡ op) → row_ok b next op ≡ true → row_ok b next o ≡ true
      go o l (yes e) t = rw e t
      go o l (no d) t = row_same o d ∙ all_to-each (row_ok b p) b.n h o l

  -- ---- precedence

  abbrev turn : ℕ → Bool
  turn o = in_turn b.delays p.starts p.insts op s (delay op i) o

  link-out : (o : ℕ) → op < o → o < b.n → link_test b next op o ≡ turn o
  unfolding in_turn in_turn_if
  link-out o l lt =
      let d : o ≡ op → ⊥ = λ e. omega arith in
      rw (start-here, row_here delay, start-there o d, row_other delay o d lt, lt-ltb 0 s begun, le-ltb o op (omega arith))

  link-in : (o : ℕ) → o < op → link_test b next o op ≡ turn o
  unfolding in_turn in_turn_if
  link-in o l =
      let d : o ≡ op → ⊥ = λ e. omega arith in
      rw (start-here, row_here delay, start-there o d, row_other delay o d (omega arith), lt-ltb 0 s begun, lt-ltb o op l, and-true (placed p.starts o))

  link-same : (a c : ℕ) → (a ≡ op → ⊥) → (c ≡ op → ⊥) → link_test b next a c ≡ link_test b p a c
  link-same a c da dc = rw (start-there a da, start-there c dc, row-there delay a da, row-there delay c dc)

  -- where a link joins op and o, its test is that of o's turn
  precede-turn : precedence b next ≡ true → (o : ℕ) → Near o → turn o ≡ true
  unfolding precedence_ok link_ok joins
  precede-turn h o n =
      go n.ends (link-ends b of n.number n.below) (all_to-each (link_at b next) b.e h n.number n.below)
    where
      x : ℕ
      x = cell b.from n.number

      y : ℕ
      y = cell b.to n.number

      go : ((x ≡ op) × (y ≡ o)) ⊎ ((x ≡ o) × (y ≡ op)) → (x < y) × (y < b.n) → link_test b next x y ≡ true → turn o ≡ true
      go (inl w) l t = sym (link-out o (omega arith) (omega arith)) ∙ rw (w.0, w.1) at t
      go (inr w) l t = sym (link-in o (omega arith)) ∙ rw (w.0, w.1) at t

  turns-precede : precedence b p ≡ true → ((o : ℕ) → Near o → turn o ≡ true) → precedence b next ≡ true
  unfolding precedence_ok link_ok joins
  turns-precede h t =
      each-all_to (link_at b next) b.e (λ l q. go l q (link-ends b of l q) (ℕ_discrete (cell b.from l) op) (ℕ_discrete (cell b.to l) op))
    where
      go : (l : ℕ) → l < b.e → (cell b.from l < cell b.to l) × (cell b.to l < b.n) → Dec (cell b.from l ≡ op) → Dec (cell b.to l ≡ op)
          → link_test b next (cell b.from l) (cell b.to l) ≡ true
      go l q w (yes e) v =
          rw e (link-out (cell b.to l) (omega arith) w.1 ∙ t (cell b.to l) (record { number = l; below = q; ends = inl (e, refl) }))
      go l q w (no d) (yes e) =
          rw e (link-in (cell b.from l) (omega arith) ∙ t (cell b.from l) (record { number = l; below = q; ends = inr (refl, e) }))
      go l q w (no d) (no d') = link-same (cell b.from l) (cell b.to l) d d' ∙ all_to-each (link_at b p) b.e h l q

  -- ---- resource

  abbrev share : ℕ → Bool
  share o = share_fits b.spacings p.starts p.insts s i (spacing op i) o

  share-before : (o : ℕ) → o < op → share_at b next op o ≡ share o
  unfolding share_ok share_fits
  share-before o l =
      let d : o ≡ op → ⊥ = λ e. omega arith in
      rw (inst-here, inst-there o d, start-here, start-there o d, row_here spacing, row_other spacing o d (omega arith), lt-ltb 0 s begun, and-true (placed p.starts o))
      (rw (apart-swap (start o) (spacing o (inst o)) s (spacing op i)) (go (ℕ_discrete (inst o) i)))
    where
      on : ℕ → Bool
      on k = not (eqb (inst o) i) || not (placed p.starts o) || apart s (spacing op i) (start o) (spacing o k)

      go : Dec (inst o ≡ i) → on (inst o) ≡ on i
      go (yes e) = ap on e
      go (no d) = rw (ne_eqb (inst o) i d)

  share-behind : (o : ℕ) → op < o → o < b.n → share_at b next o op ≡ share o
  unfolding share_ok share_fits
  share-behind o l lt =
      let d : o ≡ op → ⊥ = λ e. omega arith in
      rw (inst-here, inst-there o d, start-here, start-there o d, row_here spacing, row_other spacing o d lt, lt-ltb 0 s begun) (go (ℕ_discrete (inst o) i))
    where
      go : Dec (inst o ≡ i)
          → not (eqb i (inst o)) || not (placed p.starts o) || apart s (spacing op i) (start o) (spacing o (inst o))
          ≡ not (eqb (inst o) i) || not (placed p.starts o) || apart s (spacing op i) (start o) (spacing o i)
      go (yes e) = rw e
      go (no d) = rw (ne_eqb (inst o) i d, ne_eqb i (inst o) (λ e. d (sym e)))

  share-same : (c a : ℕ) → (c ≡ op → ⊥) → (a ≡ op → ⊥) → share_at b next c a ≡ share_at b p c a
  unfolding share_ok
  share-same c a dc da =
      rw (inst-there c dc, inst-there a da, start-there c dc, start-there a da, row-there spacing c dc, row-there spacing a da)

  resource-share : resource b next ≡ true → (o : ℕ) → o < b.n → (o ≡ op → ⊥) → share o ≡ true
  unfolding resource_ok beside_ok
  resource-share h o l d = go (dec_lt o op)
    where
      each : (c : ℕ) → c < b.n → (a : ℕ) → a < c → share_at b next c a ≡ true
      each c lc = all_to-each (share_at b next c) c (all_to-each (beside_at b next) b.n h c lc)

      go : Dec (o < op) → share o ≡ true
      go (yes q) = sym (share-before o q) ∙ each op lo o q
      go (no q) = let r : op < o = omega (arith, d) in sym (share-behind o r l) ∙ each o l op r

  shares-resource : resource b p ≡ true → ((o : ℕ) → o < b.n → (o ≡ op → ⊥) → share o ≡ true) → resource b next ≡ true
  unfolding resource_ok beside_ok
  shares-resource h t =
      each-all_to (beside_at b next) b.n (λ c lc.
      each-all_to (share_at b next c) c (λ a la. go c a lc la (ℕ_discrete c op) (ℕ_discrete a op)))
    where
      go : (c a : ℕ) → c < b.n → a < c → Dec (c ≡ op) → Dec (a ≡ op) → share_at b next c a ≡ true
      go c a lc la (yes e) v = rw e (share-before a (omega arith) ∙ t a (omega arith) (λ q. omega arith))
      go c a lc la (no d) (yes e) = rw e (share-behind c (omega arith) lc ∙ t c lc d)
      go c a lc la (no d) (no d') = share-same c a d d' ∙ all_to-each (share_at b p c) c (all_to-each (beside_at b p) b.n h c lc) a la

  -- ---- chains: where no operation that a link joins to op starts in step s, no run of two or more holds op

  module _ (quiet : (o : ℕ) → Near o → start o ≡ s → ⊥) where
    link-without : (r a c : ℕ) → Link of.job a c → cell next.starts a ≡ r → cell next.starts c ≡ r → (a ≡ op → ⊥) × (c ≡ op → ⊥)
    link-without r a c n ea ec = (
      λ e. quiet c (rw e at (link-joins b of a c n)) (sym (start-there c (λ q. apart-ends (e ∙ sym q))) ∙ ec ∙ sym ea ∙ rw e start-here),
      λ e. quiet a (back (rw e at (link-joins b of a c n))) (sym (start-there a (λ q. apart-ends (q ∙ sym e))) ∙ ea ∙ sym ec ∙ rw e start-here),
    )
      where
        apart-ends : a ≡ c → ⊥
        apart-ends e = omega (arith, link-rises b of a c n)

        back : Joining b.from b.to b.e a op → Joining b.from b.to b.e op a
        back m = record { number = m.number; below = m.below; ends = ⊎_elim inr inl m.ends }

    run-without : (r : ℕ) (run : List ℕ) (a c : ℕ) → Joined of.job (a ∷ c ∷ run) → AllIn (cell next.starts) r (a ∷ c ∷ run)
        → AllIn (cell p.starts) r (a ∷ c ∷ run)
        × (run_total of.job.wire (cell (times b next)) (a ∷ c ∷ run) ≡ run_total of.job.wire (cell (times b p)) (a ∷ c ∷ run))
    run-without r [] a c k w =
        let d = link-without r a c k.0 w.0 w.1.0 in (
          (sym (start-there a d.0) ∙ w.0, (sym (start-there c d.1) ∙ w.1.0, tt)),
          omega (arith, row-there time a d.0, row-there time c d.1),
        )
    run-without r (o ∷ run) a c k w =
        let d = link-without r a c k.0 w.0 w.1.0 in
        let more = run-without r run c o k.1 w.1 in
        ((sym (start-there a d.0) ∙ w.0, more.0), omega (arith, row-there time a d.0, more.1))

    runs-still : RunsFit of.job (cell p.starts) (cell (times b p)) → RunsFit of.job (cell next.starts) (cell (times b next))
    unfolding RunsFit
    runs-still h r [] z n k w = absurd (omega arith)
    runs-still h r (a ∷ []) z n k w = absurd (omega arith)
    runs-still h r (a ∷ c ∷ run) z n k w = let v = run-without r run a c k w in omega (arith, v.1, h r (a ∷ c ∷ run) z n k v.0)

    chains-still : chains b p ≡ true → chains b next ≡ true
    chains-still h = (runs-rule b of next.starts (times b next)).1 (runs-still ((runs-rule b of p.starts (times b p)).0 h))

  abbrev fitted : Bool
  fitted = chains_fit b.from b.to b.e b.wire b.clock b.times p.starts p.insts op s (time op i)

  chains-are : fitted ≡ chains b next
  unfolding chains_fit
  chains-are = rw (table-set time)

  -- a run of two
  pair_fits : chains b next ≡ true → (a c : ℕ) → Link of.job a c → cell next.starts a ≡ s → cell next.starts c ≡ s
      → cell (times b next) a + b.wire + cell (times b next) c ≤ b.clock
  unfolding RunsFit
  pair_fits h a c n ea ec =
      omega (arith, wire-is b of, clock-is b of, (runs-rule b of next.starts (times b next)).0 h s (a ∷ c ∷ []) begun (omega arith) (n, tt) (ea, (ec, tt)))

  -- of op and one that a link joins to it
  pair-ok : chains b next ≡ true
      → (o : ℕ) → Near o → pair_ok b.times p.starts p.insts b.wire b.clock s (time op i) o ≡ true
  unfolding pair_ok
  pair-ok h o n =
      where-asked (eqb (start o) s) _ (λ e.
      le-leb (time op i + b.wire + time o (inst o)) b.clock (go (eqb-true (start o) s e) n.ends))
    where
      x : ℕ
      x = cell b.from n.number

      y : ℕ
      y = cell b.to n.number

      d : o ≡ op → ⊥
      d = joining-apart b of op o n

      mine : cell (times b next) op ≡ time op i
      mine = row_here time

      other : cell (times b next) o ≡ time o (inst o)
      other = row_other time o d (joining-below b of op o n).1

      go : start o ≡ s → ((x ≡ op) × (y ≡ o)) ⊎ ((x ≡ o) × (y ≡ op)) → time op i + b.wire + time o (inst o) ≤ b.clock
      go e (inl w) =
          let l : Link of.job op o = rw (w.0, w.1) at (link-of b of n.number n.below) in
          omega (arith, mine, other, pair_fits h op o l start-here (start-there o d ∙ e))
      go e (inr w) =
          let l : Link of.job o op = rw (w.0, w.1) at (link-of b of n.number n.below) in
          omega (arith, mine, other, pair_fits h o op l (start-there o d ∙ e) start-here)

  -- ---- the whole, where all placed are below `reach` and op is not

  module _ (reach : ℕ) (empty : (o : ℕ) → reach ≤ o → start o ≡ 0) (short : reach ≤ b.n) (free : start op ≡ 0) where
    abbrev links : Bool
    links = links_fit b.times b.delays b.near p.starts p.insts b.wire b.clock reach op s (time op i) (delay op i)

    abbrev link_one : ℕ → Bool
    link_one = link_fits b.times b.delays b.near p.starts p.insts b.wire b.clock op s (time op i) (delay op i)

    abbrev shares : Bool
    shares = shares_fit b.spacings p.starts p.insts reach s i (spacing op i)

    abbrev chain : Bool
    chain = chained b.near p.starts reach op s

    turn-empty : (o : ℕ) → reach ≤ o → turn o ≡ true
    unfolding in_turn
    turn-empty o l = rw (empty o l)

    links-turn : links ≡ true → (o : ℕ) → Near o → turn o ≡ true
    unfolding links_fit link_fits
    links-turn h o n = go (dec_lt o reach)
      where
        go : Dec (o < reach) → turn o ≡ true
        go (yes l) =
            let e = says-linked b of op o lo (omega (arith, few-ops b of)) n in
            (and_both (turn o) _ (asked (linked b.near op o) _ e (all_to-each link_one reach h o l))).0
        go (no l) = turn-empty o (omega arith)

    turns-link : precedence b next ≡ true → chains b next ≡ true → links ≡ true
    unfolding links_fit link_fits
    turns-link h k =
        each-all_to link_one reach (λ o l.
        where-asked (linked b.near op o) _ (λ e.
        let n = linked-says b of op o lo (omega (arith, few-ops b of)) e in
        both-and (turn o) _ (precede-turn h o n) (pair-ok k o n)))

    shares_each : shares ≡ true → (o : ℕ) → share o ≡ true
    unfolding shares_fit
    shares_each h o = go (dec_lt o reach)
      where
        go : Dec (o < reach) → share o ≡ true
        go (yes l) = all_to-each (share_fits b.spacings p.starts p.insts s i (spacing op i)) reach h o l
        go (no l) = share-empty _ _ _ _ _ _ o (empty o (omega arith))

    each-shares : resource b next ≡ true → shares ≡ true
    unfolding shares_fit
    each-shares h =
        each-all_to (share_fits b.spacings p.starts p.insts s i (spacing op i)) reach (λ o l. go o l (ℕ_discrete o op))
      where
        go : (o : ℕ) → o < reach → Dec (o ≡ op) → share o ≡ true
        go o l (yes e) = share-empty _ _ _ _ _ _ o (rw e free)
        go o l (no d) = resource-share h o (omega arith) d

    unchained : chain ≡ false → (o : ℕ) → Near o → start o ≡ s → ⊥
    unfolding chained chained_at
    unchained h o n e = go (dec_lt o reach)
      where
        go : Dec (o < reach) → ⊥
        go (yes l) =
            let t = both-and _ _ (says-linked b of op o lo (omega (arith, few-ops b of)) n) (eq-eqb (start o) s e) in
            let c = some-any_to (chained_at b.near p.starts op s) reach o l t in
            let z : ◌≡◌ {A = ℕ} 0 1 = cc in
            omega arith
        go (no l) = omega (arith, empty o (omega arith))

    chain-chains : chains b p ≡ true → not chain || fitted ≡ true → chains b next ≡ true
    chain-chains h k = go chain refl
      where
        go : (t : Bool) → chain ≡ t → chains b next ≡ true
        go true e = sym chains-are ∙ asked chain _ e k
        go false e = chains-still (unchained e) h

    module _ (settled : Bool) (sure : settled ≡ true → (links ≡ true) × (chain ≡ false)) where
      abbrev test : Bool
      test =
          fits b.from b.to b.e b.wire b.clock b.times b.delays b.spacings b.lasts b.near p.starts p.insts settled reach op s i

      link-part : settled || (links && (not chain || fitted)) ≡ true → (links ≡ true) × (not chain || fitted ≡ true)
      link-part h =
          ⊎_elim (λ e. let w = sure e in (w.0, rw w.1)) (λ e. and_both links (not chain || fitted) e) (either settled (links && (not chain || fitted)) h)

      live_test : i < b.k → live b p ≡ true → test ≡ live b next
      unfolding fits
      live_test lk h = same_test test (live b next) onward back
        where
          last : Bool
          last = leb s (unit b.lasts op i)

          onward : test ≡ true → live b next ≡ true
          onward t =
              let w = live-parts b p h in
              let v = and_both (last && shares) (settled || (links && (not chain || fitted))) t in
              let u = and_both last shares v.0 in
              let x = link-part v.1 in
              parts-live b next (sym (rows_last lk w.0) ∙ u.0) (turns-precede w.1 (links-turn x.0))
              (shares-resource w.2 (λ o l d. shares_each u.1 o)) (chain-chains w.3 x.1)

          back : live b next ≡ true → test ≡ true
          back t =
              let v = live-parts b next t in
              let r = rows_last lk (live-parts b p h).0 ∙ v.0 in
              both-and _ _ (both-and _ _ r (each-shares v.2))
              (either-right settled _ (both-and _ _ (turns-link v.1 v.3) (where-asked chain fitted (λ e. chains-are ∙ v.3))))

pub fits-live : (b : Board) → OfJob b → (p : Placing) → length p.starts ≡ op_cells → length p.insts ≡ op_cells → live b p ≡ true
    → (settled : Bool) (reach op s i : ℕ)
    → (settled ≡ true → (links_fit b.times b.delays b.near p.starts p.insts b.wire b.clock reach op s (unit b.times op i) (unit b.delays op i) ≡ true) × (chained b.near p.starts reach op s ≡ false))
    → ((o : ℕ) → reach ≤ o → cell p.starts o ≡ 0) → reach ≤ b.n → op < b.n → i < b.k → 1 ≤ s → cell p.starts op ≡ 0
    → fits b.from b.to b.e b.wire b.clock b.times b.delays b.spacings b.lasts b.near p.starts p.insts settled reach op s i
    ≡ live b (put p op (record { start = s; inst = i }))
fits-live b of p ls li h settled reach op s i sure empty short lo lk begun free = live_test b of p ls li op s i lo begun reach empty short free settled sure lk h

-- ---- before the first start

module _ (b : Board) (p : Placing) (op s : ℕ) (begun : 1 ≤ s) where
  -- one of the first m operations is linked to op and ends behind step s
  record Ends (m : ℕ) : Type 0 where
    number : ℕ
    below : number < m
    links : linked b.near op number ≡ true
    stands : placed p.starts number ≡ true
    late : s < max (cell p.starts number) (finish (cell p.starts number) (unit b.delays number (cell p.insts number)))

  early-ends : (m : ℕ) → s < first_start b.delays b.near p.starts p.insts op m → Ends m
  unfolding first_start end_of only
  early-ends zero h = absurd (omega arith)
  early-ends (suc m) h = go (dec_lt s before) (early-ends m)
    where
      before : ℕ
      before = first_start b.delays b.near p.starts p.insts op m

      end : ℕ
      end = end_of b.delays p.starts p.insts m

      go : Dec (s < before) → (s < before → Ends m) → Ends (suc m)
      go (yes l) w = let v = w l in record { number = v.number; below = omega (arith, v.below); links = v.links; stands = v.stands; late = v.late }
      go (no l) w =
          let v = only_above (linked b.near op m) end s (let q : s < max before (only (linked b.near op m) end) = h in omega arith) in
          let u = only_above (placed p.starts m) (max (cell p.starts m) (finish (cell p.starts m) (unit b.delays m (cell p.insts m)))) s v.1 in
          record { number = m; below = omega arith; links = v.0; stands = u.0; late = u.1 }

pub early-dead : (b : Board) → OfJob b → (p : Placing) → length p.starts ≡ op_cells → length p.insts ≡ op_cells
    → (op s i : ℕ) → op < b.n → i < b.k → 1 ≤ s → s < first_start b.delays b.near p.starts p.insts op op
    → live b (put p op (record { start = s; inst = i })) ≡ false
unfolding in_turn in_turn_if finish
early-dead b of p ls li op s i lo lk begun h = go (live b (put p op (record { start = s; inst = i }))) refl
  where
    w : Ends b p op s begun op
    w = early-ends b p op s begun op h

    o : ℕ
    o = w.number

    go : (t : Bool) → live b (put p op (record { start = s; inst = i })) ≡ t → t ≡ false
    go false e = refl
    go true e =
        let n = linked-says b of op o lo (omega (arith, few-ops b of, w.below)) w.links in
        let v = precede-turn b of p ls li op s i lo begun (live-parts b (put p op (record { start = s; inst = i })) e).1 o n in
        let delay : ℕ = unit b.delays o (cell p.insts o) in
        let u = asked (placed p.starts o) (in_turn_if (ltb o op) (cell p.starts o) delay s (unit b.delays op i)) w.stands v in
        let x : precedes (cell p.starts o) delay s (unit b.delays op i) ≡ true = rw (lt-ltb o op w.below) at u in
        absurd (⊎_elim (λ y. omega (arith, w.late)) (λ y. omega (arith, w.late)) (precedes-says _ _ _ _ x))

-- ---- behind the first start links are settled

module _ (delays near starts insts : List ℕ) (op : ℕ) where
  ends-below : (m o : ℕ) → o < m → linked near op o ≡ true → end_of delays starts insts o ≤ first_start delays near starts insts op m
  unfolding first_start only
  ends-below zero o l h = absurd (omega arith)
  ends-below (suc m) o l h =
      elim (ℕ_discrete o m) [
        | yes e ↦
            let k : linked near op m ≡ true = rw e at h in
            rw (e, k) (omega arith)
        | no d ↦ omega (arith, ends-below m o (omega arith) h)
      ]

  -- a linked one that is placed has started and ended before
  ended : (s o : ℕ) → first_start delays near starts insts op op < s → o < op → linked near op o ≡ true → placed starts o ≡ true
      → (cell starts o < s) × (finish (cell starts o) (unit delays o (cell insts o)) < s)
  unfolding end_of only
  ended s o f l h k =
      let e : max (cell starts o) (finish (cell starts o) (unit delays o (cell insts o))) ≤ first_start delays near starts insts op op = rw k at (ends-below op o l h) in
      (omega arith, omega arith)

  pub settled-links : (times : List ℕ) (wire clock s time delay : ℕ) → first_start delays near starts insts op op < s
      → (links_fit times delays near starts insts wire clock op op s time delay ≡ true) × (chained near starts op op s ≡ false)
  unfolding links_fit link_fits in_turn in_turn_if pair_ok precedes chained chained_at
  settled-links times wire clock s time delay f = (each-all_to _ op fit, any_to-none _ op out)
    where
      not-here : (o : ℕ) → o < op → linked near op o ≡ true → eqb (cell starts o) s ≡ false
      not-here o l h =
          elim (dec_lt 0 (cell starts o)) [
            | yes k ↦ ne_eqb (cell starts o) s (omega (arith, (ended s o f l h (lt-ltb 0 (cell starts o) k)).0))
            | no k ↦ ne_eqb (cell starts o) s (omega arith)
          ]

      fit : (o : ℕ) → o < op → link_fits times delays near starts insts wire clock op s time delay o ≡ true
      fit o l =
          where-asked (linked near op o) _ (λ h.
          both-and _ _
          (where-asked (placed starts o) _ (λ k. rw (lt-ltb o op l) (either_left _ _ (lt-ltb _ s (ended s o f l h k).1))))
          (rw (not-here o l h)))

      out : (o : ℕ) → o < op → chained_at near starts op s o ≡ false
      out o l = go (linked near op o) refl
        where
          go : (t : Bool) → linked near op o ≡ t → t && eqb (cell starts o) s ≡ false
          go true h = not-here o l h
          go false h = refl
