-- A part of a live placing is live and costs no more (`part-live`, `part-costs`); one row less is a part (`put-part`); nothing
-- placed is live (`none-live`).
use Prim.Native.Nat.{ℕ, ◌≤◌}
use mathlib.Core.Path.{◌≡◌, refl, sym, ap, ◌∙◌, subst}
use mathlib.Core.Bool.{Bool, true, false, ◌&&◌}
use mathlib.Core.List.{List, [], ◌∷◌}
use mathlib.Core.Logic.{inl, inr, ⊎_elim}
use native.Mathlib.Decide.{ℕ_discrete, dec_lt}
use native.Mathlib.Omega.{arith}
use borrow.Author.Tests.{ltb-true}
use lib.Seq.{get_or-set_other}
use Rattle.basics.specs.Counting.{all_to}
use Rattle.basics.specs.Tables.{cell}
use Rattle.basics.proofs.CountLaws.{and_both, both-and, asked, where-asked, all_to-each, each-all_to, any_to-some, some-any_to}
use Rattle.basics.proofs.TableLaws.{cell-cells, cell-unused}
use Rattle.sheets.specs.Limits.{op_cells}
use Rattle.sheets.specs.declared.Job.{Job}
use Rattle.sheets.proofs.RecordLaws.{JobSound}
use Rattle.rules.specs.Meets.{AllIn, run_total, RunsFit}
use Rattle.rules.specs.Model.{row_at, row_table}
use Rattle.rules.specs.Rules.{placed, joins, link_ok, precedence_ok, share_ok, beside_ok, resource_ok, same_step, run_ok, run_ok_at, chains_ok}
use Rattle.rules.proofs.ChainRule.{chain-rule}
use Rattle.rules.proofs.RuleLaws.{share-unplaced}
use Rattle.placing.specs.declared.Board.{Board}
use Rattle.placing.specs.Board.{unit, board_of, OfJob}
use Rattle.placing.specs.Placing.{Placing, row_ok, live, wants, needed, cost, Part, needed_in}
use Rattle.placing.specs.Options.{Option, none, put}
use Rattle.placing.proofs.BoardLaws.{board-sound}
use Rattle.placing.proofs.CostLaws.{cost-rises, wants-says, says-wants, none-unplaced}
use Rattle.std.proofs.lemmas.Bool.{false_from_ne_true}

-- ---- the four rules, and live

abbrev Rules : Board → Placing → Type 0
Rules b p =
    (all_to (row_ok b p) b.n ≡ true)
    × (precedence_ok b.from b.to b.e p.starts (row_table (unit b.delays) p.insts) ≡ true)
    × (resource_ok b.n p.starts p.insts (row_table (unit b.spacings) p.insts) ≡ true)
    × (chains_ok b.from b.to b.e b.wire b.clock p.starts (row_table (unit b.times) p.insts) ≡ true)

live-rules : (b : Board) (p : Placing) → live b p ≡ true → Rules b p
unfolding live
live-rules b p h =
    let rows : Bool = all_to (row_ok b p) b.n in
    let precedence : Bool = precedence_ok b.from b.to b.e p.starts (row_table (unit b.delays) p.insts) in
    let resource : Bool = resource_ok b.n p.starts p.insts (row_table (unit b.spacings) p.insts) in
    let w = and_both (rows && precedence && resource) _ h in
    let v = and_both (rows && precedence) resource w.0 in
    let u = and_both rows precedence v.0 in
    (u.0, u.1, v.1, w.1)

rules-live : (b : Board) (p : Placing) → Rules b p → live b p ≡ true
unfolding live
rules-live b p h = both-and _ _ (both-and _ _ (both-and _ _ h.0 h.1) h.2) h.3

-- ---- of a part

-- a table's cell is that of the instance, whatever else is placed
row_same : (f : ℕ → ℕ → ℕ) (insts insts' : List ℕ) (o : ℕ) → cell insts o ≡ cell insts' o → cell (row_table f insts) o ≡ cell (row_table f insts') o
row_same f insts insts' o e =
    elim (dec_lt o op_cells) [
      | yes l ↦
          cell-cells (row_at f insts) op_cells op_cells o l (omega arith)
          ∙ ap (f o) e
          ∙ sym (cell-cells (row_at f insts') op_cells op_cells o l (omega arith))
      | no l ↦ cell-unused (row_at f insts) op_cells op_cells o (omega arith) ∙ sym (cell-unused (row_at f insts') op_cells op_cells o (omega arith))
    ]

module _ (p q : Placing) (part : Part p q) where
  abbrev Same : ℕ → Type 0
  Same o = (cell p.starts o ≡ cell q.starts o) × (cell p.insts o ≡ cell q.insts o)

  begun-same : (o : ℕ) → 1 ≤ cell p.starts o → Same o
  begun-same o l = ⊎_elim (λ e. absurd (omega arith)) (λ w. w) (part.rows o)

  placed_same : (o : ℕ) → placed p.starts o ≡ true → Same o
  placed_same o h = begun-same o (ltb-true 0 (cell p.starts o) h)

  placed-too : (o : ℕ) → placed p.starts o ≡ true → placed q.starts o ≡ true
  placed-too o h = rw (placed_same o h).0 at h

  -- ---- rows, precedence, resource

  part-row : (b : Board) (o : ℕ) → row_ok b q o ≡ true → row_ok b p o ≡ true
  unfolding row_ok
  part-row b o h =
      where-asked (placed p.starts o) _ (λ t.
      let w = placed_same o t in
      rw (w.0, w.1) (asked (placed q.starts o) _ (placed-too o t) h))

  part-link : (from to : List ℕ) (delay : ℕ → ℕ → ℕ) (l : ℕ) → link_ok from to q.starts (row_table delay q.insts) l ≡ true
      → link_ok from to p.starts (row_table delay p.insts) l ≡ true
  unfolding link_ok joins
  part-link from to delay l h =
      let x : ℕ = cell from l in
      let y : ℕ = cell to l in
      where-asked (placed p.starts x && placed p.starts y) _ (λ t.
      let a = and_both (placed p.starts x) (placed p.starts y) t in
      let v = placed_same x a.0 in
      let w = placed_same y a.1 in
      rw (v.0, w.0, row_same delay p.insts q.insts x v.1, row_same delay p.insts q.insts y w.1)
      (asked (placed q.starts x && placed q.starts y) _ (both-and _ _ (placed-too x a.0) (placed-too y a.1)) h))

  part-share : (spacing : ℕ → ℕ → ℕ) (y x : ℕ) → share_ok q.starts q.insts (row_table spacing q.insts) y x ≡ true
      → share_ok p.starts p.insts (row_table spacing p.insts) y x ≡ true
  unfolding share_ok
  part-share spacing y x h = go (placed p.starts x && placed p.starts y) refl
    where
      go : (t : Bool) → placed p.starts x && placed p.starts y ≡ t → share_ok p.starts p.insts (row_table spacing p.insts) y x ≡ true
      go true t =
          let a = and_both (placed p.starts x) (placed p.starts y) t in
          let v = placed_same x a.0 in
          let w = placed_same y a.1 in
          rw (v.0, w.0, v.1, w.1, row_same spacing p.insts q.insts x v.1, row_same spacing p.insts q.insts y w.1) h
      go false t = share-unplaced p.starts p.insts (row_table spacing p.insts) y x t

  -- ---- chains: a run of the part is one of the whole

  part_in : (s : ℕ) → 1 ≤ s → (run : List ℕ) → AllIn (cell p.starts) s run → AllIn (cell q.starts) s run
  part_in s z [] w = tt
  part_in s z (o ∷ run) w = (sym (begun-same o (omega (arith, w.0))).0 ∙ w.0, part_in s z run w.1)

  part-total : (wire : ℕ) (time : ℕ → ℕ → ℕ) (s : ℕ) → 1 ≤ s → (run : List ℕ) → AllIn (cell p.starts) s run
      → run_total wire (cell (row_table time p.insts)) run ≡ run_total wire (cell (row_table time q.insts)) run
  part-total wire time s z [] w = refl
  part-total wire time s z (a ∷ []) w = row_same time p.insts q.insts a (begun-same a (omega (arith, w.0))).1
  part-total wire time s z (a ∷ b ∷ run) w =
      omega (arith, row_same time p.insts q.insts a (begun-same a (omega (arith, w.0))).1, part-total wire time s z (b ∷ run) w.1)

  part-runs : (j : Job) (time : ℕ → ℕ → ℕ) → RunsFit j (cell q.starts) (cell (row_table time q.insts))
      → RunsFit j (cell p.starts) (cell (row_table time p.insts))
  unfolding RunsFit
  part-runs j time r s run z n k w = rw (part-total j.wire time s z run w) (r s run z n k (part_in s z run w))

  part-rules : (j : Job) → JobSound j → Rules (board_of j) q → Rules (board_of j) p
  unfolding board_of precedence_ok resource_ok beside_ok
  part-rules j sound h =
      let b = board_of j in
      let delay : ℕ → ℕ → ℕ = unit b.delays in
      let spacing : ℕ → ℕ → ℕ = unit b.spacings in
      let time : ℕ → ℕ → ℕ = unit b.times in (
        each-all_to (row_ok b p) b.n (λ o l. part-row b o (all_to-each (row_ok b q) b.n h.0 o l)),
        each-all_to (link_ok b.from b.to p.starts (row_table delay p.insts)) b.e (λ l e.
            part-link b.from b.to delay l (all_to-each (link_ok b.from b.to q.starts (row_table delay q.insts)) b.e h.1 l e)),
        each-all_to (beside_ok p.starts p.insts (row_table spacing p.insts)) b.n (λ y ly.
            each-all_to (share_ok p.starts p.insts (row_table spacing p.insts) y) y (λ x lx.
            let beside = all_to-each (beside_ok q.starts q.insts (row_table spacing q.insts)) b.n h.2 y ly in
            part-share spacing y x (all_to-each (share_ok q.starts q.insts (row_table spacing q.insts) y) y beside x lx))),
        (chain-rule j sound p.starts (row_table time p.insts)).1 (part-runs j time ((chain-rule j sound q.starts (row_table time q.insts)).0 h.3)),
      )

  -- ---- what is needed

  part-needed : (b : Board) (i : ℕ) → needed b p i ≡ true → needed b q i ≡ true
  unfolding needed_in
  part-needed b i h =
      let w = any_to-some (wants b p i) b.n h in
      let v = wants-says b p i w.number w.holds in
      let e = placed_same w.number v.0 in
      some-any_to (wants b q i) b.n w.number w.below
      (says-wants b q i w.number (placed-too w.number v.0) (rw e.1 at v.1) (rw e.1 at v.2))

pub part-live : (b : Board) → OfJob b → (p q : Placing) → Part p q → live b q ≡ true → live b p ≡ true
part-live b j p q part h =
    rules-live b p (subst (λ (x : Board). Rules x q → Rules x p) (sym j.is) (part-rules p q part j.job (board-sound b j)) (live-rules b q h))

pub part-costs : (b : Board) (p q : Placing) → Part p q → cost b p ≤ cost b q
unfolding cost
part-costs b p q part = cost-rises b.costs b.types (needed b p) (needed b q) b.k (λ i l. part-needed p q part b i)

pub put-part : (p : Placing) (op : ℕ) (r : Option) → cell p.starts op ≡ 0 → Part p (put p op r)
put-part p op r free =
    record {
      rows = λ o. elim (ℕ_discrete o op) [
        | yes e ↦ inl (rw e free)
        | no d ↦ inr (sym (get_or-set_other p.starts op o r.start 0 d), sym (get_or-set_other p.insts op o r.inst 0 d))
      ];
    }

-- ---- nothing placed

none-joins : (from to : List ℕ) (l : ℕ) → joins from to none.starts l ≡ true → ⊥
unfolding joins
none-joins from to l h = none-unplaced (cell from l) (and_both (placed none.starts (cell from l)) (placed none.starts (cell to l)) h).0

none-share : (spacings : List ℕ) (y x : ℕ) → share_ok none.starts none.insts spacings y x ≡ true
none-share spacings y x =
    share-unplaced none.starts none.insts spacings y x
    (false_from_ne_true (placed none.starts x && placed none.starts y) (λ t. none-unplaced x (and_both (placed none.starts x) (placed none.starts y) t).0))

pub none-live : (b : Board) → OfJob b → live b none ≡ true
unfolding row_ok precedence_ok link_ok resource_ok beside_ok chains_ok run_ok same_step
none-live b j =
    let delays : List ℕ = row_table (unit b.delays) none.insts in
    let spacings : List ℕ = row_table (unit b.spacings) none.insts in
    let times : List ℕ = row_table (unit b.times) none.insts in
    rules-live b none (
      each-all_to (row_ok b none) b.n (λ o l. where-asked (placed none.starts o) _ (λ t. absurd (none-unplaced o t))),
      each-all_to (link_ok b.from b.to none.starts delays) b.e (λ l e.
          where-asked (joins b.from b.to none.starts l) _ (λ t. absurd (none-joins b.from b.to l t))),
      each-all_to (beside_ok none.starts none.insts spacings) b.n (λ y ly.
          each-all_to (share_ok none.starts none.insts spacings y) y (λ x lx. none-share spacings y x)),
      each-all_to (run_ok_at b.from b.to b.wire b.clock none.starts times) b.e (λ l e.
          where-asked (same_step b.from b.to none.starts l) _ (λ t.
          absurd (none-joins b.from b.to l (and_both (joins b.from b.to none.starts l) _ t).0))),
    )
