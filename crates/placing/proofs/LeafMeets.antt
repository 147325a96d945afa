-- The leaves of a job's board are its plans: a leaf gives a plan that meets the rules and costs as much (`leaf-meets`), and
-- each plan that meets them has its rows in a leaf that costs no more (`meets-leaf`).
use Prim.Native.Nat.{ℕ, ◌+◌, ◌-◌, ◌≤◌, ◌<◌}
use mathlib.Core.Path.{◌≡◌, refl, sym, ap, subst, ◌∙◌}
use mathlib.Core.Bool.{Bool, true, ◌&&◌}
use mathlib.Core.List.{List, [], ◌∷◌}
use native.Mathlib.Decide.{dec_lt}
use native.Mathlib.Omega.{arith}
use borrow.Author.Tests.{eqb-true, eq-eqb, lt-ltb}
use lib.Dec.{lit<}
use Rattle.basics.specs.Counting.{all_to}
use Rattle.basics.specs.Numbers.{counts_differ, order_broken, precedence_broken, resource_broken, chain_broken}
use Rattle.basics.specs.Tables.{cell, cells}
use Rattle.basics.proofs.CountLaws.{and_both, both-and, asked, where-asked, all_to-each, each-all_to}
use Rattle.basics.proofs.FaultLaws.{or_else-none, none-or_else, unless-none, none-unless, none_first}
use Rattle.basics.proofs.TableLaws.{length-cells, cell-cells, cell-unused, cells-cong}
use Rattle.sheets.specs.Limits.{op_cells, inst_cells}
use Rattle.sheets.specs.JobSheet.{read_job}
use Rattle.sheets.specs.declared.Job.{Job}
use Rattle.sheets.specs.declared.Plan.{Plan}
use Rattle.sheets.specs.Answers.{Read}
use Rattle.sheets.proofs.JobRoundTrip.{job-sound}
use Rattle.sheets.proofs.RecordLaws.{JobSound}
use Rattle.rules.specs.Model.{inst_count, types_of, time_of, delay_of, spacing_of, row_at, row_table, timing_in, unit_table}
use Rattle.rules.specs.Rules.{placed, row_fault, row_fault_at, rows_fault, precedence_ok, resource_ok, chains_ok}
use Rattle.rules.specs.Judge.{counts_fault, placing_fault, fault_with, judge_fault, plan_cost}
use Rattle.rules.specs.Meets.{Link, Joined, AllIn, run_total, RunsFit, start, inst, time, Meets}
use Rattle.rules.proofs.JudgeMeets.{none-exactly}
use Rattle.rules.proofs.ModelLaws.{some-step, unit-cell}
use Rattle.rules.proofs.RuleLaws.{RowOk, none_row, row-none, says-order}
use Rattle.placing.specs.Board.{unit, board_of, OfJob}
use Rattle.placing.specs.Placing.{Placing, row_ok, live, cost, smallest}
use Rattle.placing.proofs.BoardLaws.{few-insts}
use Rattle.placing.proofs.ListLaws.{Among}
use Rattle.placing.proofs.OptionLaws.{PlacedTo, leaves_of, leaf-placed, placed-leaf}
use Rattle.placing.proofs.SelectionLaws.{smallest-holds, smallest-ordered, smallest-costs, cost-of-smallest}
use Rattle.placing.specs.Plans.{plan_from}

-- ---- what the board's tables say of a row

row-tables : (f : ℕ → ℕ → ℕ) (insts : List ℕ) → ((o : ℕ) → o < op_cells → cell insts o < inst_cells) → row_table (unit (unit_table f)) insts ≡ row_table f insts
row-tables f insts h = cells-cong (row_at (unit (unit_table f)) insts) (row_at f insts) op_cells op_cells (λ o l. unit-cell f o (cell insts o) l (h o l))

-- ---- the tests of judging that live has too

module _ (j : Job) (starts insts : List ℕ) where
  abbrev Tests : Type 0
  Tests =
      (precedence_ok j.from j.to j.e starts (row_table (delay_of j) insts) ≡ true)
      × (resource_ok j.n starts insts (row_table (spacing_of j) insts) ≡ true)
      × (chains_ok j.from j.to j.e j.wire j.clock starts (row_table (time_of j) insts) ≡ true)

judged-tests : (j : Job) (q : Plan) → judge_fault j q ≡ 0 → Tests j q.starts q.insts
unfolding judge_fault fault_with placing_fault timing_in
judged-tests j q h =
    let a = or_else-none _ _ (or_else-none _ _ (or_else-none _ _ h).1).1 in
    let b = or_else-none _ _ a.1 in
    let c = or_else-none _ _ b.1 in
    (unless-none _ precedence_broken (lit< tt) b.0, unless-none _ resource_broken (lit< tt) c.0, unless-none _ chain_broken (lit< tt) c.1)

-- a leaf that has a plan's rows, and costs no more
pub record LeafFor (j : Job) (q : Plan) : Type 0 where
  pub leaf : Placing
  pub among : Among leaf (leaves_of (board_of j))
  pub same : (o : ℕ) → o < j.n → (cell leaf.starts o ≡ start j q o) × (cell leaf.insts o ≡ inst j q o)
  pub cheap : cost (board_of j) leaf ≤ plan_cost j q

module _ (sheet : List ℕ) (j : Job) (read : read_job sheet ≡ record { answer = Read; job = j }) where
  pub of-job : OfJob (board_of j)
  of-job = record { sheet = sheet; job = j; read = read; is = refl }

  sound : JobSound j
  sound = job-sound sheet j read

  module _ (p : Placing) (narrow : (o : ℕ) → o < op_cells → cell p.insts o < inst_cells) where
    live-tests : live (board_of j) p ≡ true → (all_to (row_ok (board_of j) p) j.n ≡ true) × Tests j p.starts p.insts
    unfolding live board_of
    live-tests h =
        let rows : Bool = all_to (row_ok (board_of j) p) j.n in
        let precedence : Bool = precedence_ok j.from j.to j.e p.starts (row_table (delay_of j) p.insts) in
        let resource : Bool = resource_ok j.n p.starts p.insts (row_table (spacing_of j) p.insts) in
        let chains : Bool = chains_ok j.from j.to j.e j.wire j.clock p.starts (row_table (time_of j) p.insts) in
        let h' : rows && precedence && resource && chains ≡ true =
        rw (row-tables (delay_of j) p.insts narrow, row-tables (spacing_of j) p.insts narrow, row-tables (time_of j) p.insts narrow) at h in
        let a = and_both (rows && precedence && resource) chains h' in
        let b = and_both (rows && precedence) resource a.0 in
        let c = and_both rows precedence b.0 in
        (c.0, (c.1, b.1, a.1))

    tests-live : all_to (row_ok (board_of j) p) j.n ≡ true → Tests j p.starts p.insts → live (board_of j) p ≡ true
    unfolding live board_of
    tests-live r h =
        rw (row-tables (delay_of j) p.insts narrow, row-tables (spacing_of j) p.insts narrow, row-tables (time_of j) p.insts narrow)
        (both-and _ _ (both-and _ _ (both-and _ _ r h.0) h.1) h.2)

    module _ (o : ℕ) (l : o < j.n) where
      abbrev RowHolds : Bool → Type 0
      RowHolds chosen =
          RowOk (inst_count j) j.t (cell p.insts o) (time_of j o (cell p.insts o)) chosen (cell p.starts o) (delay_of j o (cell p.insts o))

      few : o < op_cells
      few = omega (arith, sound.counts.ops)

      row-says : 1 ≤ cell p.starts o → row_ok (board_of j) p o ≡ true → RowHolds true
      unfolding row_ok board_of
      row-says s h =
          let i : ℕ = cell p.insts o in
          let fault : ℕ = row_fault (inst_count j) j.t i (unit (unit_table (time_of j)) o i) true (cell p.starts o) (unit (unit_table (delay_of j)) o i) in
          let e = none_row _ _ _ _ _ _ _ (eqb-true fault 0 (asked (placed p.starts o) _ (lt-ltb 0 (cell p.starts o) s) h)) in
          rw (unit-cell (time_of j) o i few (narrow o few), unit-cell (delay_of j) o i few (narrow o few)) at e

      says_row : RowHolds true → row_ok (board_of j) p o ≡ true
      unfolding row_ok board_of
      says_row r =
          let i : ℕ = cell p.insts o in
          where-asked (placed p.starts o) _ (λ t.
          eq-eqb (row_fault (inst_count j) j.t i (unit (unit_table (time_of j)) o i) true (cell p.starts o) (unit (unit_table (delay_of j)) o i)) 0
          (rw (unit-cell (time_of j) o i few (narrow o few), unit-cell (delay_of j) o i few (narrow o few)) (row-none _ _ _ _ _ _ _ r)))

  -- ---- a leaf is a plan

  leaf-narrow : (p : Placing) → PlacedTo (board_of j) (board_of j).n p → (o : ℕ) → o < op_cells → cell p.insts o < inst_cells
  leaf-narrow p w o l =
      elim (dec_lt o (board_of j).n) [
        | yes h ↦ omega (arith, (w.rows o h).2, few-insts (board_of j) of-job)
        | no h ↦ omega (arith, (w.unused o (omega arith)).1)
      ]

  row-cell : (f : ℕ → ℕ → ℕ) (insts : List ℕ) (o : ℕ) → o < j.n → cell (row_table f insts) o ≡ f o (cell insts o)
  row-cell f insts o l = cell-cells (row_at f insts) op_cells op_cells o (omega (arith, sound.counts.ops)) (omega arith)

  leaf-judged : (p : Placing) → PlacedTo (board_of j) (board_of j).n p → live (board_of j) p ≡ true → judge_fault j (plan_from (board_of j) p) ≡ 0
  unfolding judge_fault fault_with placing_fault counts_fault rows_fault row_fault_at timing_in board_of
  leaf-judged p w alive =
      let narrow = leaf-narrow p w in
      let t = live-tests p narrow alive in
      let sel : List ℕ = smallest (board_of j) p in
      let holds = smallest-holds (board_of j) of-job p (λ o l h. (w.rows o l).2) in
      let times : List ℕ = row_table (time_of j) p.insts in
      let delays : List ℕ = row_table (delay_of j) p.insts in
      none-or_else _ _ (none-unless _ counts_differ (both-and _ _ (eq-eqb j.n j.n refl) (eq-eqb (inst_count j) (inst_count j) refl)))
      (none-or_else _ _ (none-unless _ order_broken (says-order (types_of j) sel (inst_count j) (smallest-ordered (board_of j) of-job p)))
      (none-or_else _ _ (none_first (row_fault_at (inst_count j) j.t p.starts p.insts times delays sel) j.n (λ o l.
      let begun : 1 ≤ cell p.starts o = (w.rows o l).0 in
      let r = row-says p narrow o l begun (all_to-each (row_ok (board_of j) p) j.n t.0 o l) in
      row-none _ _ _ _ _ _ _ (record {
        instance = r.instance;
        able = subst (λ (x : ℕ). 0 < x) (sym (row-cell (time_of j) p.insts o l)) r.able;
        selects = eq-eqb (cell sel (cell p.insts o)) 1 (holds o l (lt-ltb 0 (cell p.starts o) begun));
        begins = r.begins;
        ends = subst (λ (x : ℕ). cell p.starts o + x - 1 ≤ j.t) (sym (row-cell (delay_of j) p.insts o l)) r.ends;
      })))
      (none-or_else _ _ (none-unless _ precedence_broken t.1.0)
      (none-or_else _ _ (none-unless _ resource_broken t.1.1) (none-unless _ chain_broken t.1.2)))))

  pub leaf-meets : (p : Placing) → Among p (leaves_of (board_of j))
      → Meets j (plan_from (board_of j) p) × (plan_cost j (plan_from (board_of j) p) ≡ cost (board_of j) p)
  unfolding plan_cost board_of
  leaf-meets p h =
      let w = leaf-placed (board_of j) of-job p h in
      ((none-exactly j (plan_from (board_of j) p) sound).0 (leaf-judged p w.0 w.1), cost-of-smallest (board_of j) of-job p)

  -- ---- the rules ask only of the first n rows

  module _ (q : Plan) (starts insts : List ℕ) (same : (o : ℕ) → o < j.n → (cell starts o ≡ start j q o) × (cell insts o ≡ inst j q o)) where
    abbrev again : Plan
    again = record { n = q.n; k = q.k; selection = q.selection; starts = starts; insts = insts }

    link-ends : (a b : ℕ) → Link j a b → (a < j.n) × (b < j.n)
    link-ends a b n = let w = sound.links n.number n.below in (omega (arith, n.leaves, n.enters), omega (arith, n.enters))

    in-again : (s : ℕ) (run : List ℕ) (a b : ℕ) → Joined j (a ∷ b ∷ run) → AllIn (start j again) s (a ∷ b ∷ run) → AllIn (start j q) s (a ∷ b ∷ run)
    in-again s [] a b k w =
        let e = link-ends a b k.0 in
        (sym (same a e.0).0 ∙ w.0, (sym (same b e.1).0 ∙ w.1.0, tt))
    in-again s (d ∷ run) a b k w = (sym (same a (link-ends a b k.0).0).0 ∙ w.0, in-again s run b d k.1 w.1)

    total-again : (run : List ℕ) (a b : ℕ) → Joined j (a ∷ b ∷ run)
        → run_total j.wire (time j again) (a ∷ b ∷ run) ≡ run_total j.wire (time j q) (a ∷ b ∷ run)
    total-again [] a b k =
        let e = link-ends a b k.0 in
        omega (arith, ap (time_of j a) (same a e.0).1, ap (time_of j b) (same b e.1).1)
    total-again (d ∷ run) a b k = omega (arith, ap (time_of j a) (same a (link-ends a b k.0).0).1, total-again run b d k.1)

    runs-again : RunsFit j (start j q) (time j q) → RunsFit j (start j again) (time j again)
    unfolding RunsFit
    runs-again r s [] z n k w = absurd (omega arith)
    runs-again r s (a ∷ []) z n k w = absurd (omega arith)
    runs-again r s (a ∷ b ∷ run) z n k w = rw (total-again run a b k) (r s (a ∷ b ∷ run) z n k (in-again s run a b k w))

    meets-again : Meets j q → Meets j again
    meets-again m =
        record {
          operations = m.operations;
          instances = m.instances;
          order = m.order;
          rows = λ o l.
              let e = same o l in
              let r = m.rows o l in
              record {
                instance = rw e.1 r.instance;
                able = rw e.1 r.able;
                chosen = rw e.1 r.chosen;
                begins = rw e.0 r.begins;
                ends = rw (e.0, e.1) r.ends;
              };
          precedence = λ a b n.
              let l = link-ends a b n in
              let e = same a l.0 in
              let f = same b l.1 in
              rw (e.0, e.1, f.0, f.1) (m.precedence a b n);
          resource = λ a b la lb d i l.
              let e = same a la in
              let f = same b lb in
              rw (e.0, e.1, f.0) (m.resource a b la lb d (sym e.1 ∙ i ∙ f.1) (rw (e.0, f.0) at l));
          chains = runs-again m.chains;
        }

  -- ---- a plan is a leaf

  module _ (q : Plan) (m : Meets j q) where
    abbrev rows_of : Placing
    rows_of = record { starts = cells (cell q.starts) j.n op_cells; insts = cells (cell q.insts) j.n op_cells }

    rows_same : (o : ℕ) → o < j.n → (cell rows_of.starts o ≡ start j q o) × (cell rows_of.insts o ≡ inst j q o)
    rows_same o l = (
      cell-cells (cell q.starts) j.n op_cells o l sound.counts.ops,
      cell-cells (cell q.insts) j.n op_cells o l sound.counts.ops,
    )

    rows-placed : PlacedTo (board_of j) (board_of j).n rows_of
    unfolding board_of
    rows-placed =
        record {
          starts-long = length-cells (cell q.starts) j.n op_cells;
          insts-long = length-cells (cell q.insts) j.n op_cells;
          rows = λ o l.
              let e = rows_same o l in
              let r = m.rows o l in
              let d = some-step j.clock (time j q o) sound.counts.some r.able in
              (omega (arith, e.0, r.begins), omega (arith, e.0, r.ends, d), omega (arith, e.1, r.instance));
          unused = λ o l. (cell-unused (cell q.starts) j.n op_cells o l, cell-unused (cell q.insts) j.n op_cells o l);
        }

    rows-live : live (board_of j) rows_of ≡ true
    rows-live =
        let again' = again q rows_of.starts rows_of.insts rows_same in
        let m' = meets-again q rows_of.starts rows_of.insts rows_same m in
        let narrow = leaf-narrow rows_of rows-placed in
        tests-live rows_of narrow
        (each-all_to (row_ok (board_of j) rows_of) j.n (λ o l.
        let r = m'.rows o l in
        says_row rows_of narrow o l (record { instance = r.instance; able = r.able; selects = refl; begins = r.begins; ends = r.ends })))
        (judged-tests j again' ((none-exactly j again' sound).1 m'))

    pub meets-leaf : LeafFor j q
    unfolding board_of plan_cost
    meets-leaf =
        record {
          leaf = rows_of;
          among = placed-leaf (board_of j) of-job rows_of rows-placed rows-live;
          same = rows_same;
          cheap = smallest-costs (board_of j) of-job rows_of q.selection (λ o l h. rw (rows_same o l).1 (m.rows o l).chosen) m.order;
        }
