-- What slide and tidy share on bytes. A plan read, or the zeros in its place, has tables of their sizes: `plan-read-shape`. A pass of the
-- judge means that both papers lent are read, and that no rule asked is broken: `job-read`, `plan-read`, `none-broken`. A plan that can be
-- written is written, or the output is too short: `plan-written`, `plan-short`. The judge passes the sheet of one that meets the rules:
-- `sheet-passes`.
use Prim.Native.Nat.{ℕ, zero, suc, ◌+◌, ◌/◌, ◌<◌, ◌≤◌}
use mathlib.Core.Path.{◌≡◌, refl, sym, ◌∙◌}
use mathlib.Core.Bool.{Bool, true, false}
use mathlib.Core.List.{List, ◌++◌}
use native.Mathlib.Omega.{arith}
use borrow.Author.Tests.{leb-true, leb-false}
use lib.Dec.{leb}
use lib.ListN.{length, drop, length-replicate}
use Rattle.basics.specs.Numbers.{output_short, paper_plan, paper_request}
use Rattle.basics.proofs.TableLaws.{length-cells}
use Rattle.sheets.specs.Answers.{if_room, written}
use Rattle.sheets.specs.Columns.{column_at}
use Rattle.sheets.specs.JobSheet.{read_job}
use Rattle.sheets.specs.Limits.{op_cells, inst_cells, select_bits, step_bits, inst_bits, row_bits, plan_head}
use Rattle.sheets.specs.PlanSheet.{PlanShape, rows_at, plan_end, ops_in, insts_in, plan_of, plan_in, plan_fault, no_plan, plan_answer, read_plan}
use Rattle.sheets.specs.PlanSheet.{plan_record_fault, plan_sheet, write_plan}
use Rattle.sheets.specs.declared.Job.{Job}
use Rattle.sheets.specs.declared.Plan.{Plan}
use Rattle.sheets.specs.Answers.{Reading, Read, Unread}
use Rattle.sheets.specs.Answers.{Wrote, Refused}
use Rattle.sheets.proofs.PlanRoundTrip.{sheet-length, plan-read-written}
use Rattle.rules.specs.Judge.{fault_with, plan_cost, pass_or, judged_with, if_read, judge_with, judge}
use Rattle.rules.specs.Meets.{Meets}
use Rattle.rules.specs.Judge.{Passed, Refused as Unfit}
use Rattle.rules.proofs.JudgeMeets.{judge-passes}
use Rattle.moves.specs.Moved.{SheetWritten}

-- ---- a plan read

pub plan-read-shape : (s : List ℕ) → PlanShape (read_plan s).plan
unfolding read_plan plan_answer plan_of no_plan
plan-read-shape s = go (plan_fault s)
  where
    go : (k : ℕ) → PlanShape (plan_answer k (plan_in s)).plan
    go zero =
        record {
          selection = length-cells (column_at s plan_head select_bits select_bits) (insts_in s) inst_cells;
          starts = length-cells (column_at s (rows_at (insts_in s)) row_bits step_bits) (ops_in s) op_cells;
          insts = length-cells (column_at s (rows_at (insts_in s) + step_bits) row_bits inst_bits) (ops_in s) op_cells;
        }
    go (suc k) =
        let zeros = length-replicate {A = ℕ} op_cells 0 in
        record { selection = length-replicate {A = ℕ} inst_cells 0; starts = zeros; insts = zeros }

-- ---- a pass of the judge, selection order asked or not

passed_none : (fault cost c : ℕ) → pass_or fault cost ≡ Passed c → (fault ≡ 0) × (cost ≡ c)
unfolding pass_or
passed_none zero cost c e = let s : cost ≡ c = cc in (refl, s)
passed_none (suc k) cost c e = cc

papers-read : (order : Bool) (job plan : List ℕ) (c : ℕ) (a b : Reading) → (read_job job).answer ≡ a → (read_plan plan).answer ≡ b
    → judge_with order job plan ≡ Passed c → (a ≡ Read) × (b ≡ Read) × (judged_with order (read_job job).job (read_plan plan).plan ≡ Passed c)
unfolding judge_with if_read
papers-read order job plan c Read Read ea eb e = (refl, refl, rw (ea, eb) at e)
papers-read order job plan c Read (Unread number paper) ea eb e =
    let w : Unfit number paper ≡ Passed c = rw (ea, eb) at e in cc
papers-read order job plan c (Unread number paper) b ea eb e =
    let w : Unfit number paper ≡ Passed c = rw ea at e in cc

module _ (order : Bool) (job plan : List ℕ) (c : ℕ) (passed : judge_with order job plan ≡ Passed c) where
  both_read : ((read_job job).answer ≡ Read) × ((read_plan plan).answer ≡ Read) × (judged_with order (read_job job).job (read_plan plan).plan ≡ Passed c)
  both_read = papers-read order job plan c (read_job job).answer (read_plan plan).answer refl refl passed

  pub job-read : read_job job ≡ record { answer = Read; job = (read_job job).job }
  job-read = λ i. record { answer = both_read.0 i; job = (read_job job).job }

  pub plan-read : read_plan plan ≡ record { answer = Read; plan = (read_plan plan).plan }
  plan-read = λ i. record { answer = both_read.1 i; plan = (read_plan plan).plan }

  pub none-broken : (fault_with order (read_job job).job (read_plan plan).plan ≡ 0) × (plan_cost (read_job job).job (read_plan plan).plan ≡ c)
  unfolding judged_with
  none-broken =
      passed_none (fault_with order (read_job job).job (read_plan plan).plan) (plan_cost (read_job job).job (read_plan plan).plan) c both_read.2

-- ---- the writer's two ways with a record that has no fault

module _ (fault paper size room : ℕ) (z : fault ≡ 0) where
  wrote-fits : (n : ℕ) → written fault paper size room ≡ Wrote n → (size ≡ n) × (size ≤ room)
  unfolding written if_room
  wrote-fits n e = go (leb size room) refl (rw z at e)
    where
      go : (b : Bool) → leb size room ≡ b → if_room (leb size room) size ≡ Wrote n → (size ≡ n) × (size ≤ room)
      go true q e = let w : Wrote size ≡ Wrote n = rw q at e in let s : size ≡ n = cc in (s, leb-true size room q)
      go false q e = let w : Refused output_short paper_request ≡ Wrote n = rw q at e in cc

  refused-short : (number about : ℕ) → written fault paper size room ≡ Refused number about
      → (room < size) × (number ≡ output_short) × (about ≡ paper_request)
  unfolding written if_room
  refused-short number about e = go (leb size room) refl (rw z at e)
    where
      go : (b : Bool) → leb size room ≡ b → if_room (leb size room) size ≡ Refused number about
          → (room < size) × (number ≡ output_short) × (about ≡ paper_request)
      go true q e = let w : Wrote size ≡ Refused number about = rw q at e in cc
      go false q e =
          let w : Refused output_short paper_request ≡ Refused number about = rw q at e in
          let a : number ≡ output_short = cc in
          let b : about ≡ paper_request = cc in
          (leb-false size room q, a, b)

-- ---- a plan that can be written, and its sheet

module _ (p : Plan) (t : PlanShape p) (z : plan_record_fault p ≡ 0) where
  pub plan-written : (before after : List ℕ) (size : ℕ) → write_plan p (length before) ≡ Wrote size → after ≡ plan_sheet p ++ drop size before
      → SheetWritten p before after size
  unfolding write_plan
  plan-written before after size e bytes =
      let w = wrote-fits (plan_record_fault p) paper_plan ((plan_end p.n p.k + 7) / 8) (length before) z size e in
      record { shape = t; sound = z; fits = omega (arith, w.0, w.1); long = sheet-length p ∙ w.0; bytes = bytes }

  pub plan-short : (room number paper : ℕ) → write_plan p room ≡ Refused number paper
      → (room < length (plan_sheet p)) × (number ≡ output_short) × (paper ≡ paper_request)
  unfolding write_plan
  plan-short room number paper e =
      let w = refused-short (plan_record_fault p) paper_plan ((plan_end p.n p.k + 7) / 8) room z number paper e in
      (omega (arith, w.0, sheet-length p), w.1, w.2)

  pub sheet-passes : (job : List ℕ) (j : Job) (c : ℕ) → read_job job ≡ record { answer = Read; job = j } → Meets j p → plan_cost j p ≡ c
      → judge job (plan_sheet p) ≡ Passed c
  sheet-passes job j c r m e =
      (judge-passes job (plan_sheet p) c).1
      (record { as_job = j; as_plan = p; job_read = r; plan_read = plan-read-written p t z; meets = m; cost = sym e })
