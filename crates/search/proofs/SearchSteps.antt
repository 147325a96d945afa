-- What the proof of the search needs: how it begins, and the promise at each of its ends.
use Prim.Native.Nat.{ℕ, ◌-◌, ◌≤◌, ◌<◌}
use mathlib.Core.Path.{◌≡◌, refl, sym, ap, ◌∙◌}
use mathlib.Core.Bool.{true, false}
use mathlib.Core.List.{List}
use native.Mathlib.Nat.{lt_of_le_of_lt}
use native.Mathlib.Omega.{arith}
use borrow.Author.Tests.{le-leb, lt-leb}
use lib.ListN.{length, replicate}
use Rattle.basics.specs.Answers.{Promise}
use Rattle.basics.specs.Faults.{number_of, paper_of}
use Rattle.basics.specs.declared.refusals.Refusal.{Refusal}
use Rattle.sheets.specs.JobSheet.{read_job, job_read_of}
use Rattle.sheets.specs.Limits.{inst_cells, type_cells, max_insts}
use Rattle.sheets.specs.PlanSheet.{write_plan, plan_out}
use Rattle.sheets.specs.declared.Job.{Job}
use Rattle.sheets.specs.declared.Plan.{Plan}
use Rattle.sheets.specs.Answers.{Written, Wrote, Refused as Unwritten}
use Rattle.placing.specs.Bound.{Best, State, tick}
use Rattle.placing.specs.Board.{OfJob, board_of}
use Rattle.placing.proofs.BoardLaws.{read-limits}
use Rattle.placing.specs.Options.{none, children}
use Rattle.placing.specs.Placing.{Placing, cost, smallest}
use Rattle.placing.specs.Ready.{placing_of, Ready}
use Rattle.placing.specs.declared.rows.Rows.{Rows}
use Rattle.placing.specs.declared.Board.{Board}
use Rattle.placing.proofs.BoundLaws.{visits-walk}
use Rattle.placing.proofs.ReadyLaws.{none-ready}
use Rattle.std.specs.Prelude.{Option, Some, None, Ok, Err}
use Rattle.search.specs.Search.{begin, walked, wrote, answered, within, search_job, out_if, search_job_out, if_read, search, out_if_read, search_out}
use Rattle.placing.specs.Board.{WasRead}
use Rattle.placing.specs.Plans.{plan_from}
use Rattle.search.specs.Walking.{best_of, state_of, counted, goes_on}
use Rattle.search.specs.declared.walking.Best.{Best as Held}
use Rattle.search.specs.declared.walking.Walk.{Walk}
use Rattle.search.proofs.WalkLaws.{visit-open}
use Rattle.search.specs.Search.{Searched, Found, Nothing, Spent, Refused}

-- ---- how it begins

pub few-units : {b : Board} (j : Job) → b ≡ board_of j → WasRead j → b.k ≤ inst_cells
unfolding board_of
few-units j of r = rw of (read-limits j r).1

-- from nothing placed the walk goes on, since nothing is held
pub walk-begins : (b : Board) → walked b ≡ goes_on b (b.n - 0) none (tick begin)
unfolding walked
walk-begins b = let z : b.n - 0 ≡ b.n = omega arith in rw z (visit-open b none b.n begin refl)

pub walk-over : (b : Board) {budget : ℕ} → budget ≤ 0 → budget < (walked b).visits
unfolding walked
walk-over b l = lt_of_le_of_lt l (visits-walk Placing (cost b) (children b) b.n none begin)

module _ (b : Board) {rows : Rows} {w : Walk} (r : placing_of rows ≡ none) (a : w ≡ counted (record { visits = 0; rows = rows; best = None })) where
  pub begin-ready : {budget : ℕ} → OfJob b → rows.lows ≡ replicate type_cells max_insts → 0 < budget → Ready b 0 (placing_of w.rows) w.rows.lows 0 × (w.visits ≤ budget)
  begin-ready of l k = rw a (rw (r, l) (none-ready b of 0 (omega arith)), omega arith)

  pub begin-walk : goes_on b (b.n - 0) (placing_of w.rows) (state_of w) ≡ walked b
  begin-walk = rw a (rw r (sym (walk-begins b)))

-- ---- its ends, of a job

module _ (j : Job) (budget : ℕ) (before : List ℕ) where
  abbrev end : State Placing
  end = walked (board_of j)

  abbrev found : Plan
  found = plan_from (board_of j) end.best.node

  abbrev Answers : Searched → List ℕ → Type 0
  Answers r after = Promise (search_job j budget (length before)) (search_job_out j budget before) r after

  pub ends-spent : budget < end.visits → Answers (Spent budget) before
  unfolding search_job search_job_out answered out_if
  ends-spent l = let z : within budget end ≡ false = lt-leb end.visits budget l in record { told = rw z; bytes = rw z }

  -- the code's walk has come to it
  module _ (kept : end.visits ≤ budget) (w : Walk) (e : state_of w ≡ end) where
    held-best : {best : Option Held} → w.best ≡ best → best_of best ≡ end.best
    held-best q = ap best_of (sym q) ∙ ap (λ (v : State Placing). v.best) e

    pub ends-none : w.best ≡ None → Answers (Nothing w.visits) before
    unfolding search_job search_job_out answered out_if
    ends-none q =
        let z : within budget end ≡ true = le-leb end.visits budget kept in
        let h : end.best.held ≡ false = ap (λ (x : Best Placing). x.held) (sym (held-best q)) in
        record { told = rw (z, h) (ap (λ (v : State Placing). Nothing v.visits) e); bytes = rw (z, h) }

    module _ {b : Board} (of : b ≡ board_of j) {best : Held} (q : w.best ≡ Some best) {selection : List ℕ} (s : selection ≡ smallest b (placing_of best.rows)) where
      abbrev plan : Plan
      plan = record { n = b.n; k = b.k; selection = selection; starts = best.rows.starts; insts = best.rows.insts }

      plan-is : plan ≡ found
      plan-is =
          let p : placing_of best.rows ≡ end.best.node = ap (λ (x : Best Placing). x.node) (held-best q) in
          let c : selection ≡ smallest (board_of j) end.best.node = s ∙ (λ i. smallest (of i) (p i)) in
          λ i. record { n = (of i).n; k = (of i).k; selection = c i; starts = (p i).starts; insts = (p i).insts }

      module _ {after : List ℕ} where
        ends_found : {answer : Written} → Promise (write_plan plan (length before)) (plan_out plan before) answer after → Answers (wrote best.cost w.visits answer) after
        unfolding search_job search_job_out answered out_if
        ends_found o =
            let z : within budget end ≡ true = le-leb end.visits budget kept in
            let h : end.best.held ≡ true = ap (λ (x : Best Placing). x.held) (sym (held-best q)) in
            let c : best.cost ≡ end.best.cost = ap (λ (x : Best Placing). x.cost) (held-best q) in
            let v : w.visits ≡ end.visits = ap (λ (x : State Placing). x.visits) e in
            record { told = rw (z, h) (rw (c, v, o.told, plan-is)); bytes = rw (z, h) (o.bytes ∙ rw plan-is) }

        pub ends-written : (size : ℕ) → Promise (write_plan plan (length before)) (plan_out plan before) (Wrote size) after → Answers (Found best.cost w.visits size) after
        unfolding wrote
        ends-written size o = ends_found o

        pub ends-short : (number paper : ℕ) → Promise (write_plan plan (length before)) (plan_out plan before) (Unwritten number paper) after → Answers (Refused number paper) after
        unfolding wrote
        ends-short number paper o = ends_found o

-- ---- its ends, on bytes

module _ (job : List ℕ) (budget : ℕ) (before : List ℕ) where
  abbrev AnswersBytes : Searched → List ℕ → Type 0
  AnswersBytes r after = Promise (search job budget (length before)) (search_out job budget before) r after

  pub ends-unread : (x : Refusal) → job_read_of (Err x) ≡ read_job job → AnswersBytes (Refused (number_of x.fault) (paper_of x.paper)) before
  unfolding search search_out if_read out_if_read
  ends-unread x e = record { told = rw (← e) refl; bytes = rw (← e) refl }

  pub ends_read : (j : Job) {r : Searched} {after : List ℕ} → job_read_of (Ok j) ≡ read_job job
      → Promise (search_job j budget (length before)) (search_job_out j budget before) r after → AnswersBytes r after
  unfolding search search_out if_read out_if_read
  ends_read j e w = record { told = rw (← e) w.told; bytes = rw (← e) w.bytes }

pub was_read : (job : List ℕ) (j : Job) → job_read_of (Ok j) ≡ read_job job → WasRead j
was_read job j e = record { sheet = job; read = sym e }
