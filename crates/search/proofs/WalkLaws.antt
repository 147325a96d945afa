-- What the proof of `walk` needs: a visit goes no further, or on; where the loops of a level stand (`Level`); and the ends of a visit.
use Prim.Native.Nat.{ℕ, zero, suc, ◌+◌, ◌-◌, ◌≤◌, ◌<◌}
use mathlib.Core.Path.{subst, ◌≡◌, refl, sym, ap, ◌∙◌}
use mathlib.Core.Bool.{Bool, true, false}
use mathlib.Core.List.{List, [], ◌∷◌}
use borrow.Author.Tests.{ltb-true}
use native.Mathlib.Nat.{lt_of_le_of_lt}
use native.Mathlib.Omega.{arith}
use lib.Dec.{ltb}
use lib.ListN.{set}
use Rattle.basics.specs.Tables.{cell}
use Rattle.placing.specs.Bound.{State, shut, tick, each}
use Rattle.placing.specs.Costing.{lowered, cost_on}
use Rattle.placing.specs.Fitting.{fits_on, first_on}
use Rattle.placing.specs.Closing.{Turn, goes, and_then, in_turn, split_on}
use Rattle.placing.specs.Options.{Option, put, live_ones, children}
use Rattle.placing.specs.Placing.{Placing, live, cost}
use Rattle.placing.specs.Ready.{placing_of, option_at, Ready, Places}
use Rattle.placing.specs.declared.Board.{Board}
use Rattle.placing.specs.declared.rows.Rows.{Rows}
use Rattle.placing.specs.declared.rows.Row.{Row}
use Rattle.placing.proofs.BoundLaws.{visits-walk, visits-each, walk-shut, walk-leaf, walk-open}
use Rattle.placing.proofs.RowsKept.{raised-back, taken-back, placed-ready}
use Rattle.placing.proofs.RowLaws.{row, from_start, first-positive}
use Rattle.placing.proofs.TurnLaws.{Stands, first-stands, stands-live, stands-places, after-dead, after-live, row-begins as begins, row-ends as ends, stands-end}
use Rattle.search.specs.Search.{walk_from}
use Rattle.search.specs.Walking.{state_of, counted, goes_on, Done}
use Rattle.search.specs.declared.walking.Walk.{Walk}

-- ---- a visit goes no further, or on

module _ (b : Board) (p : Placing) where
  pub visit-shut : (d : ℕ) (v : State Placing) → shut v.best (cost b p) ≡ true → walk_from b d p v ≡ tick v
  visit-shut d v h = walk-shut Placing (cost b) (children b) d p v h

  pub visit-open : (d : ℕ) (v : State Placing) → shut v.best (cost b p) ≡ false → walk_from b d p v ≡ goes_on b d p (tick v)
  unfolding goes_on
  visit-open zero v h = walk-leaf Placing (cost b) (children b) p v h
  visit-open (suc d) v h = walk-open Placing (cost b) (children b) d p v h

  pub goes-leaf : {op here : ℕ} (v : State Placing) → here ≡ cost b p → op ≡ b.n
      → goes_on b (b.n - op) p v ≡ record { visits = v.visits; best = record { held = true; cost = here; node = p } }
  unfolding goes_on
  goes-leaf {op} v h q = let z : b.n - op ≡ 0 = omega arith in rw (z, h)

-- ---- a level of the walk as a loop of turns, none of which stops

abbrev pub turn : Board → ℕ → Placing → State Placing → Turn (State Placing)
turn b op p v = goes (walk_from b (b.n - (op + 1)) p v)

goes-same : {v u : State Placing} → goes v ≡ goes u → v ≡ u
goes-same {v} {u} e = let s : v ≡ u = cc in s

each-turns : (b : Board) (op : ℕ) (ps : List Placing) (v : State Placing) → in_turn (turn b op) ps v ≡ goes (each (walk_from b (b.n - (op + 1))) ps v)
unfolding each in_turn and_then
each-turns b op [] v = refl
each-turns b op (p ∷ ps) v = each-turns b op ps (walk_from b (b.n - (op + 1)) p v)

goes-turns : (b : Board) (op : ℕ) (p : Placing) (v : State Placing) → op < b.n → in_turn (turn b op) (split_on b p op) v ≡ goes (goes_on b (b.n - op) p v)
unfolding goes_on children
goes-turns b op p v l =
    let z : b.n - op ≡ suc (b.n - (op + 1)) = omega arith in
    let y : b.n - suc (b.n - (op + 1)) ≡ op = omega arith in
    each-turns b op (split_on b p op) v ∙ ap (λ (u : State Placing). goes u) (rw (z, y) refl)

-- ---- where the loops of the level that began at w₀ stand

abbrev pub end_of : Board → ℕ → Walk → State Placing
end_of b op w₀ = goes_on b (b.n - op) (placing_of w₀.rows) (state_of w₀)

pub record Level (b : Board) (op here budget : ℕ) (w₀ w : Walk) (rs : List Option) : Type 0 where
  pub stands : Stands b op op here (turn b op) (goes (end_of b op w₀)) w₀.rows w.rows (state_of w) rs
  pub kept : w.visits ≤ budget

module _ {b : Board} {op here budget : ℕ} {w₀ : Walk} where
  pub level-begins : {first : ℕ} → Ready b op (placing_of w₀.rows) w₀.rows.lows here → op < b.n → w₀.visits ≤ budget → first ≡ first_on b (placing_of w₀.rows) op
      → Level b op here budget w₀ w₀ (from_start b first)
  level-begins {first} w more kept f =
      let s = (first-stands w more (w.behind op (omega arith)) (turn b op) (state_of w₀) first f).1 in
      record { stands = rw (goes-turns b op (placing_of w₀.rows) (state_of w₀) more) at s; kept = kept }

  module _ {w : Walk} where
    pub row-begins : (s : ℕ) → s ≤ b.t → Level b op here budget w₀ w (from_start b s) → Level b op here budget w₀ w (row b s 0)
    row-begins s l h = record { stands = begins s h.stands l; kept = h.kept }

    pub row-ends : (s i : ℕ) → b.k ≤ i → Level b op here budget w₀ w (row b s i) → Level b op here budget w₀ w (from_start b (s + 1))
    row-ends s i l h = record { stands = ends s i h.stands l; kept = h.kept }

    -- with no start left the walk is at its end
    pub level-ends : (s : ℕ) → b.t < s → Level b op here budget w₀ w (from_start b s) → Done budget (end_of b op w₀) w₀ w
    level-ends s l h =
        let e = sym (goes-same (stands-end s h.stands l)) in
        record { within = subst (λ (v : State Placing). v.visits ≤ budget) e h.kept; ends = e; keeps = h.stands.same }

    -- ---- one option further: the code's test is whether it is live

    module _ (s i : ℕ) (h : Level b op here budget w₀ w (row b s i)) (l : i < b.k) {first : ℕ} (f : first ≡ first_on b (placing_of w₀.rows) op) (m : first ≤ s)
        {fit : Bool} (t : fit ≡ fits_on b (placing_of w.rows) (ltb first s) op op s i) where
      begins-at : 1 ≤ s
      begins-at = omega (arith, f, first-positive b.delays b.near w₀.rows.starts w₀.rows.insts op op)

      lives : live b (put (placing_of w.rows) op (option_at s i)) ≡ fit
      lives = stands-live h.stands (ltb first s) first s i f (λ q. (omega arith, ltb-true first s q)) begins-at l t

      pub option-dead : fit ≡ false → Level b op here budget w₀ w (row b s (i + 1))
      option-dead d = record { stands = after-dead s i h.stands l (lives ∙ d); kept = h.kept }

      module _ (d : fit ≡ true) where
        pub option-places : Places b op op (placing_of w.rows) w.rows.lows here s i
        option-places = stands-places h.stands begins-at l (lives ∙ d)

        abbrev visited : State Placing
        visited = walk_from b (b.n - (op + 1)) (put (placing_of w.rows) op (option_at s i)) (state_of w)

        -- spent on the way, spent at the end
        pub option-spent : budget < visited.visits → budget < (end_of b op w₀).visits
        option-spent o =
            let rs = live_ones b (placing_of w.rows) op (row b s (i + 1)) in
            let e = goes-same (sym (each-turns b op rs visited) ∙ (after-live s i h.stands l (lives ∙ d) refl refl).leads) in
            omega (arith, visits-each Placing (cost b) (children b) (b.n - (op + 1)) rs visited, ap (λ (v : State Placing). v.visits) e)

        pub option-done : {w' : Walk} → Done budget visited w w' → Level b op here budget w₀ w' (row b s (i + 1))
        option-done o =
            record { stands = after-live s i h.stands l (lives ∙ d) (ap (λ (v : State Placing). goes v) (sym o.ends)) o.keeps; kept = rw (sym o.ends) at o.within }

-- ---- a visit of a live option of operation op, whose arrival is w₁, with the lowest instances r₁

module _ (b : Board) (w₀ : Walk) (op s i : ℕ) where
  abbrev whole : State Placing
  whole = walk_from b (b.n - (op + 1)) (put (placing_of w₀.rows) op (option_at s i)) (state_of w₀)

  -- there is no budget for it
  pub visit-over : {budget : ℕ} → budget ≤ w₀.visits → budget < whole.visits
  visit-over l = lt_of_le_of_lt l (visits-walk Placing (cost b) (children b) (b.n - (op + 1)) (put (placing_of w₀.rows) op (option_at s i)) (state_of w₀))

  module _ {here budget low cost' : ℕ} {r₁ : Rows} {w₁ : Walk} (w : Places b op op (placing_of w₀.rows) w₀.rows.lows here s i) (l : low ≡ cell w₀.rows.lows (cell b.types i))
      (e₁ : r₁ ≡ record w₀.rows { lows = lowered b.types w₀.rows.lows i }) (c : cost' ≡ cost_on b r₁.lows here low i) (k : w₀.visits < budget) (a : w₁ ≡ counted (record w₀ { rows = r₁ })) where
    costs : cost' ≡ cost b (put (placing_of w₀.rows) op (option_at s i))
    costs = (placed-ready w (op + 1) (omega arith) (omega arith) (omega (arith, w.more)) l e₁ c refl).tracks.costs ∙ rw e₁

    pub visit-out : shut (state_of w₁).best cost' ≡ true → {r₂ : Rows} → r₂ ≡ record w₁.rows { lows = set w₁.rows.lows (cell b.types i) low } → Done budget whole w₀ (record w₁ { rows = r₂ })
    visit-out h {r₂} e₂ =
        let z : shut (state_of w₀).best (cost b (put (placing_of w₀.rows) op (option_at s i))) ≡ true = rw (← costs) (rw a at h) in
        let e : whole ≡ tick (state_of w₀) = visit-shut b (put (placing_of w₀.rows) op (option_at s i)) (b.n - (op + 1)) (state_of w₀) z in
        rw (a, e) (record { within = omega arith; ends = refl; keeps = raised-back b.types i l e₁ (ap (λ (x : Walk). x.rows) a) e₂ })

    -- its row placed
    module _ {r₂ : Rows} (e₂ : r₂ ≡ record w₁.rows { starts = set w₁.rows.starts op s; insts = set w₁.rows.insts op i }) where
      pub next-walk : Ready b (op + 1) (placing_of r₂) r₂.lows cost' × (w₁.visits ≤ budget)
      next-walk =
          let rows : w₁.rows ≡ r₁ = ap (λ (x : Walk). x.rows) a in
          (placed-ready w (op + 1) (omega arith) (omega arith) (omega (arith, w.more)) l (rows ∙ e₁) (c ∙ ap (λ (x : Rows). cost_on b x.lows here low i) (sym rows)) e₂, rw a (omega arith))

      module _ (h : shut (state_of w₁).best cost' ≡ false) where
        visit-goes : goes_on b (b.n - (op + 1)) (placing_of r₂) (state_of (record w₁ { rows = r₂ })) ≡ whole
        visit-goes =
            let z : shut (state_of w₀).best (cost b (put (placing_of w₀.rows) op (option_at s i))) ≡ false = rw (← costs) (rw a at h) in
            rw (e₂, a, e₁) (sym (visit-open b (put (placing_of w₀.rows) op (option_at s i)) (b.n - (op + 1)) (state_of w₀) z))

        pub visit-spent : budget < (goes_on b (b.n - (op + 1)) (placing_of r₂) (state_of (record w₁ { rows = r₂ }))).visits → budget < whole.visits
        visit-spent o = rw (← visit-goes) o

        -- and taken back
        pub visit-done : {was : Row} {w₂ : Walk} {r₃ r₄ : Rows} → Done budget (goes_on b (b.n - (op + 1)) (placing_of r₂) (state_of (record w₁ { rows = r₂ }))) (record w₁ { rows = r₂ }) w₂
            → was ≡ record { start = cell w₁.rows.starts op; inst = cell w₁.rows.insts op }
            → r₃ ≡ record w₂.rows { starts = set w₂.rows.starts op was.start; insts = set w₂.rows.insts op was.inst }
            → r₄ ≡ record r₃ { lows = set r₃.lows (cell b.types i) low } → Done budget whole w₀ (record w₂ { rows = r₄ })
        visit-done o q e₃ e₄ =
            rw (← visit-goes) (record {
              within = o.within;
              ends = o.ends;
              keeps = raised-back b.types i l e₁ (taken-back op s i q e₂ o.keeps e₃ ∙ ap (λ (x : Walk). x.rows) a) e₄;
            })
