-- The judge passes a plan with a cost exactly when the papers are read, the plan meets the rules, and that is its cost:
-- `judge-passes`. No cost is above the greatest: `judge-cost`.
use Prim.Native.Nat.{ℕ, zero, suc, ◌+◌, ◌-◌, ◌^◌, ◌≤◌, ◌<◌}
use mathlib.Core.Path.{◌≡◌, refl, sym, ap, subst}
use mathlib.Core.Bool.{true, ◌&&◌}
use mathlib.Core.List.{List, [], ◌∷◌}
use mathlib.Core.Logic.{◌⊎◌, ◌↔◌}
use native.Mathlib.Omega.{arith}
use borrow.Author.Tests.{eqb-true, ltb-true, eq-eqb, lt-ltb}
use lib.Dec.{lit<}
use Rattle.basics.specs.Numbers.{counts_differ, order_broken, precedence_broken, resource_broken, chain_broken}
use Rattle.basics.specs.Tables.{cell}
use Rattle.basics.proofs.CountLaws.{and_both, both-and, asked, where-asked, all_to-each, each-all_to}
use Rattle.basics.proofs.FaultLaws.{or_else-none, none-or_else, unless-none, none-unless, first-none, none_first}
use Rattle.basics.proofs.TableLaws.{cell-cells}
use Rattle.sheets.specs.Limits.{op_cells, cost_bits}
use Rattle.sheets.specs.Answers.{Reading, Read, Unread}
use Rattle.sheets.specs.JobSheet.{read_job}
use Rattle.sheets.specs.PlanSheet.{read_plan}
use Rattle.sheets.specs.declared.Job.{Job}
use Rattle.sheets.specs.declared.Plan.{Plan}
use Rattle.sheets.proofs.JobRoundTrip.{job-sound, job-costs}
use Rattle.sheets.proofs.RecordLaws.{JobSound}
use Rattle.rules.specs.Model.{inst_count, types_of, time_of, delay_of, spacing_of, row_at, row_table, timing_in, timing_of}
use Rattle.rules.specs.Selection.{selected, order_ok}
use Rattle.rules.specs.declared.Spans.{Spans}
use Rattle.rules.specs.Rules.{row_fault_at, rows_fault, joins, placed, link_ok, precedence_ok, resource_ok, chains_ok}
use Rattle.rules.specs.Judge.{Passed, counts_fault, placing_fault, fault_with, judge_fault, plan_cost, pass_or, judged_with, judged, if_read, judge_with, judge}
use Rattle.rules.specs.Meets.{Link, Joined, run_total, RunsFit, start, inst, time, delay, Row, Resource, Meets, Passes, max_cost}
use Rattle.rules.proofs.ChainRule.{chain-rule}
use Rattle.rules.proofs.JudgeLaws.{counts-agree}
use Rattle.rules.proofs.ModelLaws.{types-rise}
use Rattle.rules.proofs.RuleLaws.{cost-most, order-says, says-order, none_row, row-none, precedes-says, says-precedes, resource-says, says-resource}

module _ (j : Job) (p : Plan) (sound : JobSound j) where
  abbrev timing : Spans op_cells
  timing = timing_of j p.insts

  -- ---- what an operation takes, as the tables have it

  few : (o : ℕ) → o < j.n → o < op_cells
  few o l = omega (arith, sound.counts.ops)

  row-cell : (of : ℕ → ℕ → ℕ) (o : ℕ) → o < j.n → cell (row_table of p.insts) o ≡ of o (inst j p o)
  row-cell of o l = cell-cells (row_at of p.insts) op_cells op_cells o (few o l) (omega arith)

  -- ---- the five parts of judging

  abbrev Parts : Type 0
  Parts =
      (order_ok (types_of j) p.selection (inst_count j) ≡ true)
      × (rows_fault j.n (inst_count j) j.t p.starts p.insts timing.times timing.delays p.selection ≡ 0)
      × (precedence_ok j.from j.to j.e p.starts timing.delays ≡ true)
      × (resource_ok j.n p.starts p.insts timing.spacings ≡ true)
      × (chains_ok j.from j.to j.e j.wire j.clock p.starts timing.times ≡ true)

  parts : judge_fault j p ≡ 0 → Parts
  unfolding judge_fault fault_with placing_fault
  parts h =
      let a = or_else-none _ _ (or_else-none _ _ h).1 in
      let b = or_else-none _ _ a.1 in
      let d = or_else-none _ _ b.1 in
      let e = or_else-none _ _ d.1 in
      (unless-none _ order_broken (lit< tt) a.0, b.0, unless-none _ precedence_broken (lit< tt) d.0, unless-none _ resource_broken (lit< tt) e.0, unless-none _ chain_broken (lit< tt) e.1)

  whole : p.n ≡ j.n → p.k ≡ inst_count j → Parts → judge_fault j p ≡ 0
  unfolding judge_fault fault_with placing_fault counts_fault
  whole n k h =
      none-or_else _ _ (none-unless _ counts_differ (both-and _ _ (eq-eqb _ _ n) (eq-eqb _ _ k)))
      (none-or_else _ _ (none-unless _ order_broken h.0)
      (none-or_else _ _ h.1
      (none-or_else _ _ (none-unless _ precedence_broken h.2)
      (none-or_else _ _ (none-unless _ resource_broken h.3) (none-unless _ chain_broken h.4)))))

  -- ---- rows

  row-says : rows_fault j.n (inst_count j) j.t p.starts p.insts timing.times timing.delays p.selection ≡ 0
      → (o : ℕ) → o < j.n → Row j p o
  unfolding rows_fault row_fault_at timing_in
  row-says h o l =
      let r = none_row _ _ _ _ _ _ _ (first-none (row_fault_at (inst_count j) j.t p.starts p.insts timing.times timing.delays p.selection) j.n h o l) in
      record {
        instance = r.instance;
        able = subst (λ (x : ℕ). 0 < x) (row-cell (time_of j) o l) r.able;
        chosen = eqb-true _ _ r.selects;
        begins = r.begins;
        ends = subst (λ (x : ℕ). start j p o + x - 1 ≤ j.t) (row-cell (delay_of j) o l) r.ends;
      }

  says_row : ((o : ℕ) → o < j.n → Row j p o)
      → rows_fault j.n (inst_count j) j.t p.starts p.insts timing.times timing.delays p.selection ≡ 0
  unfolding rows_fault row_fault_at timing_in
  says_row h =
      none_first (row_fault_at (inst_count j) j.t p.starts p.insts timing.times timing.delays p.selection) j.n (λ o l.
      let r = h o l in
      row-none _ _ _ _ _ _ _ (record {
        instance = r.instance;
        able = subst (λ (x : ℕ). 0 < x) (sym (row-cell (time_of j) o l)) r.able;
        selects = eq-eqb _ _ r.chosen;
        begins = r.begins;
        ends = subst (λ (x : ℕ). start j p o + x - 1 ≤ j.t) (sym (row-cell (delay_of j) o l)) r.ends;
      }))

  -- ---- links

  link-ends : (a b : ℕ) → Link j a b → (a < j.n) × (b < j.n)
  link-ends a b n = let w = sound.links n.number n.below in (omega (arith, n.leaves, n.enters), omega (arith, n.enters))

  module _ (begun : (o : ℕ) → o < j.n → 1 ≤ start j p o) where
    precedence-says : precedence_ok j.from j.to j.e p.starts timing.delays ≡ true
        → (a b : ℕ) → Link j a b → (start j p a + delay j p a ≤ start j p b) ⊎ ((start j p a ≡ start j p b) × (delay j p a ≡ 1) × (delay j p b ≡ 1))
    unfolding precedence_ok link_ok joins timing_in
    precedence-says h a b n =
        let w = link-ends a b n in
        let both : placed p.starts a && placed p.starts b ≡ true = both-and _ _ (lt-ltb 0 (start j p a) (begun a w.0)) (lt-ltb 0 (start j p b) (begun b w.1)) in
        let t = all_to-each (link_ok j.from j.to p.starts timing.delays) j.e h n.number n.below in
        let q = precedes-says _ _ _ _ (asked (placed p.starts a && placed p.starts b) _ both (rw (n.leaves, n.enters) at t)) in
        rw (row-cell (delay_of j) a w.0, row-cell (delay_of j) b w.1) at q

    resource-meets : resource_ok j.n p.starts p.insts timing.spacings ≡ true → Resource j p
    unfolding timing_in
    resource-meets h a b la lb d e l =
        let w = resource-says p.starts p.insts timing.spacings j.n begun h a b la lb d e l in
        (w.0, subst (λ (x : ℕ). start j p a + x ≤ start j p b) (row-cell (spacing_of j) a la) w.1)

  says-precedence : ((a b : ℕ) → Link j a b → (start j p a + delay j p a ≤ start j p b) ⊎ ((start j p a ≡ start j p b) × (delay j p a ≡ 1) × (delay j p b ≡ 1)))
      → precedence_ok j.from j.to j.e p.starts timing.delays ≡ true
  unfolding precedence_ok link_ok joins timing_in
  says-precedence h =
      each-all_to (link_ok j.from j.to p.starts timing.delays) j.e (λ l q.
      let w = sound.links l q in
      let a : ℕ = cell j.from l in
      let b : ℕ = cell j.to l in
      where-asked (joins j.from j.to p.starts l) _ (λ both.
      says-precedes _ _ _ _ (ltb-true 0 (start j p a) (and_both (placed p.starts a) (placed p.starts b) both).0) (rw (row-cell (delay_of j) a (omega arith), row-cell (delay_of j) b w.1) (h a b (record { number = l; below = q; leaves = refl; enters = refl })))))

  says-resource-meets : ((o : ℕ) → o < j.n → 1 ≤ start j p o)
      → Resource j p → resource_ok j.n p.starts p.insts timing.spacings ≡ true
  unfolding timing_in
  says-resource-meets begun h =
      says-resource p.starts p.insts timing.spacings j.n begun (λ a b la lb d e l.
      let w = h a b la lb d e l in
      (w.0, subst (λ (x : ℕ). start j p a + x ≤ start j p b) (sym (row-cell (spacing_of j) a la)) w.1))

  -- ---- runs: their operations are among the first n, and the table has their times

  run-same : (wire : ℕ) (f g : ℕ → ℕ) → ((o : ℕ) → o < j.n → f o ≡ g o) → (run : List ℕ) (a b : ℕ) → Joined j (a ∷ b ∷ run)
      → run_total wire f (a ∷ b ∷ run) ≡ run_total wire g (a ∷ b ∷ run)
  run-same wire f g h [] a b k = let w = link-ends a b k.0 in omega (arith, h a w.0, h b w.1)
  run-same wire f g h (d ∷ run) a b k = let w = link-ends a b k.0 in omega (arith, h a w.0, run-same wire f g h run b d k.1)

  runs_same : (f g : ℕ → ℕ) → ((o : ℕ) → o < j.n → f o ≡ g o) → RunsFit j (start j p) f → RunsFit j (start j p) g
  unfolding RunsFit
  runs_same f g h r s [] z n k w = absurd (omega arith)
  runs_same f g h r s (a ∷ []) z n k w = absurd (omega arith)
  runs_same f g h r s (a ∷ b ∷ run) z n k w = omega (arith, run-same j.wire f g h run a b k, r s (a ∷ b ∷ run) z n k w)

  times-same : (o : ℕ) → o < j.n → cell timing.times o ≡ time j p o
  unfolding timing_in
  times-same o l = row-cell (time_of j) o l

  -- ---- the plan breaks no rule exactly when it meets them all

  rise : (i l : ℕ) → i ≤ l → l < inst_count j → cell (types_of j) i ≤ cell (types_of j) l
  rise i l h q = types-rise j.copies j.m i l h (omega (arith, sound.insts))

  none-meets : judge_fault j p ≡ 0 → Meets j p
  unfolding judge_fault
  none-meets h =
      let c = counts-agree true j p h in
      let w = parts h in
      let r = row-says w.1 in
      let begun : (o : ℕ) → o < j.n → 1 ≤ start j p o = λ o l. (r o l).begins in
      record {
        operations = c.0;
        instances = c.1;
        order = order-says (types_of j) p.selection (inst_count j) rise w.0;
        rows = r;
        precedence = precedence-says begun w.2;
        resource = resource-meets begun w.3;
        chains = runs_same (λ o. cell timing.times o) (time j p) times-same ((chain-rule j sound p.starts timing.times).0 w.4);
      }

  meets-none : Meets j p → judge_fault j p ≡ 0
  meets-none m =
      whole m.operations m.instances (
        says-order (types_of j) p.selection (inst_count j) m.order,
        says_row m.rows,
        says-precedence m.precedence,
        says-resource-meets (λ o l. (m.rows o l).begins) m.resource,
        (chain-rule j sound p.starts timing.times).1 (runs_same (time j p) (λ o. cell timing.times o) (λ o l. sym (times-same o l)) m.chains),
      )

  pub none-exactly : (judge_fault j p ≡ 0) ↔ Meets j p
  none-exactly = (none-meets, meets-none)

-- ---- the judge on bytes

-- a pass of two records
passed_none : (fault cost c : ℕ) → pass_or fault cost ≡ Passed c → (fault ≡ 0) × (c ≡ cost)
unfolding pass_or
passed_none zero cost c e = (refl, cc)
passed_none (suc k) cost c e = cc

module _ (job plan : List ℕ) (c : ℕ) where
  -- a pass of two papers
  papers-read : (a b : Reading) → (read_job job).answer ≡ a → (read_plan plan).answer ≡ b → judge job plan ≡ Passed c
      → (a ≡ Read) × (b ≡ Read) × (judged (read_job job).job (read_plan plan).plan ≡ Passed c)
  unfolding judge judge_with judged if_read
  papers-read Read Read ea eb e = (refl, refl, rw (ea, eb) at e)
  papers-read Read (Unread number paper) ea eb e = let z = rw (ea, eb) at e in cc
  papers-read (Unread number paper) b ea eb e = let z = rw ea at e in cc

  pass_meets : judge job plan ≡ Passed c → Passes job plan c
  unfolding judged judged_with judge_fault
  pass_meets e =
      let w = papers-read (read_job job).answer (read_plan plan).answer refl refl e in
      let j : read_job job ≡ record { answer = Read; job = (read_job job).job } = λ i. record { answer = w.0 i; job = (read_job job).job } in
      let p : read_plan plan ≡ record { answer = Read; plan = (read_plan plan).plan } = λ i. record { answer = w.1 i; plan = (read_plan plan).plan } in
      let z = passed_none _ _ c w.2 in
      record {
        as_job = (read_job job).job;
        as_plan = (read_plan plan).plan;
        job_read = j;
        plan_read = p;
        meets = (none-exactly (read_job job).job (read_plan plan).plan (job-sound job (read_job job).job j)).0 z.0;
        cost = z.1;
      }

  meets-pass : Passes job plan c → judge job plan ≡ Passed c
  unfolding judge judge_with if_read judged_with judge_fault pass_or
  meets-pass m =
      let z = (none-exactly m.as_job m.as_plan (job-sound job m.as_job m.job_read)).1 m.meets in
      rw (m.job_read, m.plan_read, z) (ap (λ (x : ℕ). Passed x) (sym m.cost))

  pub judge-passes : (judge job plan ≡ Passed c) ↔ Passes job plan c
  judge-passes = (pass_meets, meets-pass)

  -- no plan costs more than every instance at the greatest cost
  pub judge-cost : judge job plan ≡ Passed c → c ≤ max_cost
  unfolding plan_cost
  judge-cost e =
      let m = pass_meets e in
      let j = m.as_job in
      omega (arith, m.cost, cost-most j.costs (types_of j) (selected m.as_plan.selection) (2 ^ cost_bits - 1) (inst_count j) (λ y. omega (arith, job-costs job j m.job_read y)), (job-sound job j m.job_read).insts)
