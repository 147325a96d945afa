-- What a function that places one more row can say of it. With the row the board is ready for the next one: `next-ready`; with nothing
-- placed it is: `none-ready`. A store taken back leaves what was there: `restored`. At the cost that is kept, the code's test of a claim
-- is the definition's: `may-close`.
use Prim.Native.Nat.{ℕ, ◌≤◌, ◌<◌, min}
use mathlib.Core.Path.{◌≡◌, refl, ap, ap₂, ◌∙◌}
use mathlib.Core.Bool.{Bool}
use mathlib.Core.List.{List}
use native.Mathlib.Omega.{arith}
use lib.ListN.{set, length-set, replicate}
use lib.Seq.{set-set, set-get_or, get_or-set_other}
use Rattle.basics.specs.Tables.{cell}
use Rattle.basics.proofs.TableLaws.{cell-replicate}
use Rattle.sheets.specs.Limits.{op_cells, inst_cells, type_cells}
use Rattle.placing.specs.declared.Board.{Board}
use Rattle.placing.specs.Board.{OfJob}
use Rattle.placing.specs.Closing.{Claim, allowed, closable}
use Rattle.placing.specs.Costing.{cost_with}
use Rattle.placing.specs.Options.{none, put}
use Rattle.placing.specs.Placing.{Placing}
use Rattle.placing.specs.Ready.{option_at, Ready, Places}
use Rattle.placing.proofs.CostLaws.{tracks-none, tracks-put}
use Rattle.placing.proofs.PartLaws.{none-live}

-- a store over the one before it brings the old value back
pub restored : {l l' : List ℕ} {x : ℕ} (at y : ℕ) → l' ≡ set l at y → x ≡ cell l at → set l' at x ≡ l
restored {l} {l'} {x} at y p q = ap₂ (λ (xs : List ℕ) (z : ℕ). set xs at z) p q ∙ set-set l at y (cell l at) ∙ set-get_or l at 0

-- the code's test, at the cost that it keeps, is whether the place may be closed
pub may-close : {b : Board} (claim : Claim) {reach here : ℕ} {p : Placing} {lows : List ℕ} {may : Bool} → may ≡ allowed claim here → Ready b reach p lows here
    → may ≡ closable b claim p
may-close {b} claim e w = e ∙ ap (allowed claim) w.tracks.costs

-- ---- from row to row

-- with one more row
pub next-ready : {b : Board} {reach op : ℕ} {p : Placing} {lows : List ℕ} {here s i : ℕ} (w : Places b reach op p lows here s i) (reach' : ℕ)
    → reach ≤ reach' → op < reach' → reach' ≤ b.n → {low lowest cost' : ℕ}
    → low ≡ cell lows (cell b.types i) → lowest ≡ min low i → cost' ≡ cost_with b.types b.costs (set lows (cell b.types i) lowest) b.k here low i
    → Ready b reach' (put p op (option_at s i)) (set lows (cell b.types i) lowest) cost'
next-ready {b} {reach} {op} {p} {lows} {here} {s} {i} v reach' up past few {low} {lowest} e m q =
    let w = v.able in
    record {
      of = w.of;
      few = few;
      alive = v.lives;
      behind = λ x k. get_or-set_other p.starts op x s 0 (omega arith) ∙ w.behind x (omega arith);
      tracks = rw (q, m, e) (tracks-put b w.of p w.starts-long w.insts-long lows here w.lows-long w.tracks op s i v.more v.free v.begins v.unit);
      starts-long = length-set p.starts op s ∙ w.starts-long;
      insts-long = length-set p.insts op i ∙ w.insts-long;
      lows-long = length-set lows (cell b.types i) lowest ∙ w.lows-long;
    }

-- nothing placed
pub none-ready : (b : Board) → OfJob b → (reach : ℕ) → reach ≤ b.n → Ready b reach none (replicate type_cells inst_cells) 0
none-ready b of reach few =
    record {
      of = of;
      few = few;
      alive = none-live b of;
      behind = λ o l. cell-replicate op_cells o;
      tracks = tracks-none b of;
      starts-long = refl;
      insts-long = refl;
      lows-long = refl;
    }
