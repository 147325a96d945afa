-- The two loops over the options of an operation that take a step at each live one, which goes on or stops. `Stands` says where such
-- a loop is: its rows are as they were, and the options left lead where the split leads. It begins at the first start (`first-stands`).
-- The code's test of an option is whether it is live (`stands-live`), and a live one is a place (`stands-places`). One option further:
-- `after-dead`, `after-live`; one start further: `row-begins`, `row-ends`; the end: `stops-live`, `stands-end`. Numbers are within
-- their tables: `places-small`, `stands-small`.
use Prim.Native.Nat.{ℕ, ◌+◌, ◌≤◌, ◌<◌}
use mathlib.Core.Path.{◌≡◌, refl, sym, ap, ◌∙◌}
use mathlib.Core.Bool.{Bool, true, false}
use mathlib.Core.List.{List}
use native.Mathlib.Omega.{arith}
use Rattle.basics.specs.Tables.{cell}
use Rattle.basics.proofs.CountLaws.{all_to-fewer, any_to-none, none-any_to}
use Rattle.sheets.specs.Limits.{op_cells, inst_cells, type_cells}
use Rattle.placing.specs.declared.Board.{Board}
use Rattle.placing.specs.declared.rows.Rows.{Rows}
use Rattle.placing.specs.Board.{unit, Leads}
use Rattle.placing.specs.Closing.{Turn, goes, stops, and_then, in_turn, split_on}
use Rattle.placing.specs.Fitting.{link_fits, links_fit, chained_at, chained, fits_on, first_on}
use Rattle.placing.specs.Options.{Option, put, live_ones}
use Rattle.placing.specs.Placing.{Placing, live}
use Rattle.placing.specs.Ready.{placing_of, option_at, Ready, Places}
use Rattle.placing.proofs.BoardLaws.{few-ops, few-insts, type-small, near-leads}
use Rattle.placing.proofs.FitLaws.{fits-live, settled-links}
use Rattle.placing.proofs.RowLaws.{row, from_start, row-start, row-end, row-live, row-dead, no_rows, first-positive, first-rows}

-- where a loop over the options of op stands: its rows are as they were, and the rest of the options leads to u
pub record Stands {A : Type 0} (b : Board) (reach op here : ℕ) (f : Placing → A → Turn A) (u : Turn A) (r₀ r : Rows) (x : A) (rs : List Option) : Type 0 where
  pub able : Ready b reach (placing_of r) r.lows here
  pub more : op < b.n
  pub free : cell r.starts op ≡ 0
  pub same : r ≡ r₀
  pub leads : in_turn f (live_ones b (placing_of r) op rs) x ≡ u

-- ---- numbers within their tables

pub places-small : {b : Board} {reach op : ℕ} {p : Placing} {lows : List ℕ} {here s i : ℕ} → Places b reach op p lows here s i
    → (op < op_cells) × (i < inst_cells) × (cell b.types i < type_cells) × (b.k ≤ inst_cells)
places-small {b} w =
    let few = few-insts b w.able.of in
    (omega (arith, w.more, few-ops b w.able.of), omega (arith, w.unit), type-small b w.able.of _ w.unit, few)

module _ {A : Type 0} {b : Board} {reach op here : ℕ} {f : Placing → A → Turn A} {u : Turn A} {r₀ : Rows} where
  pub stands-small : {r : Rows} {x : A} {rs : List Option} → Stands b reach op here f u r₀ r x rs
      → (reach ≤ op_cells) × (op < op_cells) × (b.k ≤ inst_cells) × Leads b.near op
  stands-small w =
      let few = few-ops b w.able.of in
      (omega (arith, w.able.few), omega (arith, w.more), few-insts b w.able.of, near-leads b w.able.of op w.more)

  -- ---- an option

  -- links are settled only behind the first start, where no operation from op on is placed
  pub stands-live : {r : Rows} {x : A} {rs : List Option} → Stands b reach op here f u r₀ r x rs → (settled : Bool) (first s i : ℕ)
      → first ≡ first_on b (placing_of r₀) op → (settled ≡ true → (reach ≤ op) × (first < s)) → 1 ≤ s → i < b.k → {test : Bool} → test ≡ fits_on b (placing_of r) settled reach op s i
      → live b (put (placing_of r) op (option_at s i)) ≡ test
  unfolding links_fit chained
  stands-live {r} w settled first s i q sure begins more e =
      let same : first_on b (placing_of r) op ≡ first = ap (λ (x : Rows). first_on b (placing_of x) op) w.same ∙ sym q in
      sym (e ∙ fits-live b w.able.of (placing_of r) w.able.starts-long w.able.insts-long w.able.alive settled reach op s i
      (λ h.
      let k = sure h in
      let v = settled-links b.delays b.near r.starts r.insts op b.times b.wire b.clock s (unit b.times op i) (unit b.delays op i) (rw same k.1) in
      let near = chained_at b.near r.starts op s in (
        all_to-fewer (link_fits b.times b.delays b.near r.starts r.insts b.wire b.clock op s (unit b.times op i) (unit b.delays op i)) reach op k.0 v.0,
        any_to-none near reach (λ x l. none-any_to near op v.1 x (omega arith)),
      ))
      w.able.behind w.able.few w.more more begins w.free)

  pub stands-places : {r : Rows} {x : A} {rs : List Option} → Stands b reach op here f u r₀ r x rs → {s i : ℕ} → 1 ≤ s → i < b.k
      → live b (put (placing_of r) op (option_at s i)) ≡ true → Places b reach op (placing_of r) r.lows here s i
  stands-places w begins more lives = record { able = w.able; more = w.more; free = w.free; begins = begins; unit = more; lives = lives }

  -- the same rows under another name, with other options and another state
  stands-as : {r r' : Rows} {x x' : A} {rs rs' : List Option} → Stands b reach op here f u r₀ r x rs → r' ≡ r
      → in_turn f (live_ones b (placing_of r) op rs') x' ≡ u → Stands b reach op here f u r₀ r' x' rs'
  stands-as w e h = record { able = rw e w.able; more = w.more; free = rw e w.free; same = e ∙ w.same; leads = rw e h }

  module _ {r : Rows} {x : A} (s i : ℕ) (w : Stands b reach op here f u r₀ r x (row b s i)) (more : i < b.k) where
    abbrev with : Placing
    with = put (placing_of r) op (option_at s i)

    -- what the options left come to is this option's turn and then the others
    turns_at : live b with ≡ true → and_then (f with x) (in_turn f (live_ones b (placing_of r) op (row b s (i + 1)))) ≡ u
    unfolding in_turn
    turns_at l = ap (λ (ps : List Placing). in_turn f ps x) (sym (row-live b (placing_of r) op s i more l)) ∙ w.leads

    pub after-dead : live b with ≡ false → Stands b reach op here f u r₀ r x (row b s (i + 1))
    after-dead l = stands-as w refl (ap (λ (ps : List Placing). in_turn f ps x) (sym (row-dead b (placing_of r) op s i more l)) ∙ w.leads)

    pub after-live : live b with ≡ true → {r' : Rows} {x' : A} → f with x ≡ goes x' → r' ≡ r → Stands b reach op here f u r₀ r' x' (row b s (i + 1))
    unfolding and_then
    after-live l q e =
        stands-as w e (ap (λ (t : Turn A). and_then t (in_turn f (live_ones b (placing_of r) op (row b s (i + 1))))) (sym q) ∙ turns_at l)

    -- a step that stops, stops the loop
    pub stops-live : live b with ≡ true → {number : ℕ} → f with x ≡ stops number → u ≡ stops number
    unfolding and_then
    stops-live l q = sym (turns_at l) ∙ ap (λ (t : Turn A). and_then t (in_turn f (live_ones b (placing_of r) op (row b s (i + 1))))) q

  -- ---- the starts

  pub row-begins : {r : Rows} {x : A} (s : ℕ) → Stands b reach op here f u r₀ r x (from_start b s) → s ≤ b.t → Stands b reach op here f u r₀ r x (row b s 0)
  row-begins {r} {x} s w l = stands-as w refl (ap (λ (rs : List Option). in_turn f (live_ones b (placing_of r) op rs) x) (sym (row-start b s l)) ∙ w.leads)

  pub row-ends : {r : Rows} {x : A} (s i : ℕ) → Stands b reach op here f u r₀ r x (row b s i) → b.k ≤ i → Stands b reach op here f u r₀ r x (from_start b (s + 1))
  row-ends {r} {x} s i w l = stands-as w refl (ap (λ (rs : List Option). in_turn f (live_ones b (placing_of r) op rs) x) (sym (row-end b s i l)) ∙ w.leads)

  -- no options left
  pub stands-end : {r : Rows} {x : A} (s : ℕ) → Stands b reach op here f u r₀ r x (from_start b s) → b.t < s → u ≡ goes x
  unfolding in_turn
  stands-end {r} {x} s w l = sym w.leads ∙ ap (λ (ps : List Placing). in_turn f ps x) (no_rows b (placing_of r) op s l)

-- where it begins
pub first-stands : {A : Type 0} {b : Board} {reach op here : ℕ} {r : Rows} → Ready b reach (placing_of r) r.lows here → op < b.n → cell r.starts op ≡ 0
    → (f : Placing → A → Turn A) (x : A) (first : ℕ) → first ≡ first_on b (placing_of r) op
    → (1 ≤ first) × Stands b reach op here f (in_turn f (split_on b (placing_of r) op) x) r r x (from_start b first)
first-stands {b = b} {op = op} {r = r} able more free f x first e = (
  rw e (first-positive b.delays b.near r.starts r.insts op op),
  record {
    able = able;
    more = more;
    free = free;
    same = refl;
    leads =
        ap (λ (ps : List Placing). in_turn f ps x) (sym (first-rows b able.of (placing_of r) able.starts-long able.insts-long op more first e));
  },
)
