-- What a function says of rows that it places and takes back, each step as `Rows` promises it. `lower`, what the rest leaves, and
-- `raise`: `raised-back`. `place`, what the rest leaves, and `take_back`: `taken-back`. Lowered and placed, the rows are those with
-- one more (`lowered-placed`), and the board is ready for the next one: `placed-ready`; lowered alone, it is ready with the row that
-- would be placed: `lowered-ready`.
use Prim.Native.Nat.{ℕ, ◌≤◌, ◌<◌}
use mathlib.Core.Path.{◌≡◌, ap, ◌∙◌}
use mathlib.Core.List.{List}
use lib.ListN.{set}
use Rattle.basics.specs.Tables.{cell}
use Rattle.placing.specs.declared.Board.{Board}
use Rattle.placing.specs.declared.rows.Rows.{Rows}
use Rattle.placing.specs.declared.rows.Row.{Row}
use Rattle.placing.specs.Costing.{lowered, cost_on}
use Rattle.placing.specs.Options.{put}
use Rattle.placing.specs.Ready.{placing_of, option_at, Ready, Places}
use Rattle.placing.proofs.ReadyLaws.{restored, next-ready}

-- the same rows and lowest instances
pub same-rows : {r r' : Rows} → placing_of r' ≡ placing_of r → r'.lows ≡ r.lows → r' ≡ r
same-rows p l = λ j. record { starts = (p j).starts; insts = (p j).insts; lows = l j }

pub raised-back : (types : List ℕ) (i : ℕ) {low : ℕ} {r r₁ r₂ r₃ : Rows} → low ≡ cell r.lows (cell types i)
    → r₁ ≡ record r { lows = lowered types r.lows i } → r₂ ≡ r₁ → r₃ ≡ record r₂ { lows = set r₂.lows (cell types i) low } → r₃ ≡ r
raised-back types i e e₁ e₂ e₃ =
    let k = e₂ ∙ e₁ in
    let l = restored (cell types i) _ (ap (λ (x : Rows). x.lows) k) e in
    e₃ ∙ (λ j. record { starts = (k j).starts; insts = (k j).insts; lows = l j })

pub taken-back : (op s i : ℕ) {was : Row} {r r₁ r₂ r₃ : Rows} → was ≡ record { start = cell r.starts op; inst = cell r.insts op }
    → r₁ ≡ record r { starts = set r.starts op s; insts = set r.insts op i } → r₂ ≡ r₁
    → r₃ ≡ record r₂ { starts = set r₂.starts op was.start; insts = set r₂.insts op was.inst } → r₃ ≡ r
taken-back op s i e e₁ e₂ e₃ =
    let k = e₂ ∙ e₁ in
    let a = restored op s (ap (λ (x : Rows). x.starts) k) (ap (λ (x : Row). x.start) e) in
    let b = restored op i (ap (λ (x : Rows). x.insts) k) (ap (λ (x : Row). x.inst) e) in
    e₃ ∙ (λ j. record { starts = a j; insts = b j; lows = (k j).lows })

pub lowered-ready : {b : Board} {reach op here s i : ℕ} {r r₁ : Rows} → Places b reach op (placing_of r) r.lows here s i → (reach' : ℕ)
    → reach ≤ reach' → op < reach' → reach' ≤ b.n → {low cost' : ℕ} → low ≡ cell r.lows (cell b.types i)
    → r₁ ≡ record r { lows = lowered b.types r.lows i } → cost' ≡ cost_on b r₁.lows here low i
    → Ready b reach' (put (placing_of r) op (option_at s i)) r₁.lows cost'
lowered-ready w reach' up past few e e₁ q = rw e₁ (next-ready w reach' up past few e (rw e) (rw e₁ at q))

pub lowered-placed : (types : List ℕ) (op s i : ℕ) (r : Rows) {r₁ r₂ : Rows} → r₁ ≡ record r { lows = lowered types r.lows i }
    → r₂ ≡ record r₁ { starts = set r₁.starts op s; insts = set r₁.insts op i } → placing_of r₂ ≡ put (placing_of r) op (option_at s i)
lowered-placed types op s i r e₁ e₂ = rw (e₂, e₁)

pub placed-ready : {b : Board} {reach op here s i : ℕ} {r r₁ r₂ : Rows} → Places b reach op (placing_of r) r.lows here s i → (reach' : ℕ)
    → reach ≤ reach' → op < reach' → reach' ≤ b.n → {low cost' : ℕ} → low ≡ cell r.lows (cell b.types i)
    → r₁ ≡ record r { lows = lowered b.types r.lows i } → cost' ≡ cost_on b r₁.lows here low i
    → r₂ ≡ record r₁ { starts = set r₁.starts op s; insts = set r₁.insts op i } → Ready b reach' (placing_of r₂) r₂.lows cost'
placed-ready w reach' up past few e e₁ q e₂ =
    rw (e₂, e₁) (next-ready w reach' up past few e (rw e) (rw e₁ at q))
