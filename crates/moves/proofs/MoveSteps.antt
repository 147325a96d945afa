-- What the functions of the crate owe: each answer of slide and tidy, from what was lent and what was tested.
use Prim.Native.Nat.{ℕ, ◌<◌, ◌≤◌}
use mathlib.Core.Path.{◌≡◌, sym, ap, ◌∙◌}
use mathlib.Core.Bool.{Bool, true, false}
use mathlib.Core.List.{List, []}
use borrow.Author.Tests.{le-leb, lt-leb}
use lib.IntN.{ℤ}
use lib.ListN.{length}
use Rattle.basics.specs.Answers.{Promise}
use Rattle.basics.specs.Faults.{◌or_else◌, fault_unless}
use Rattle.basics.specs.Numbers.{distance_far, moved_out, paper_plan, paper_request}
use Rattle.basics.specs.Tables.{within}
use Rattle.basics.proofs.TableLaws.{each_within}
use Rattle.sheets.specs.Answers.{output}
use Rattle.sheets.specs.Limits.{op_cells, max_ops, max_insts, max_steps}
use Rattle.sheets.specs.Groups.{runs_out, form_fault}
use Rattle.sheets.specs.JobSheet.{read_job}
use Rattle.sheets.specs.PlanSheet.{plan_head_fault, plan_fault, plan_answer, read_plan, plan_record_fault, plan_sheet, write_plan, plan_out}
use Rattle.sheets.specs.JobSheet.{JobRead}
use Rattle.sheets.specs.declared.Job.{Job}
use Rattle.sheets.specs.declared.Plan.{Plan}
use Rattle.sheets.specs.Answers.{Reading, Read, Unread, Written, Refused}
use Rattle.sheets.proofs.PlanFieldLaws.{none-plan}
use Rattle.sheets.proofs.PlanRoundTrip.{plan-read-sound}
use Rattle.rules.specs.Judge.{judge_with, judge, plan_beside, Judged, Passed, Refused as Unfit, LentPapers, lent}
use Rattle.rules.specs.Model.{types_of, timing_in, timing_of}
use Rattle.rules.specs.declared.Spans.{Spans}
use Rattle.moves.proofs.LentLaws.{job-read}
use Rattle.moves.specs.Moving.{if_passed, refused_unless}
use Rattle.moves.specs.Slide.{backward, steps, moved_starts, slid, keeps, slide_plan, slide, slide_out}
use Rattle.moves.specs.Tidy.{tidied, tidy, tidy_out}

-- ---- what was lent

-- beside a job that was not read the plan is what no bytes are read as
beside-sound : (a : Reading) (plan : List ℕ) → plan_record_fault (plan_beside a plan) ≡ 0
unfolding plan_beside read_plan plan_answer plan_fault plan_head_fault form_fault runs_out fault_unless ◌or_else◌
beside-sound Read plan = plan-read-sound plan
beside-sound (Unread number paper) plan = plan-read-sound []

module _ (order : Bool) (job plan : List ℕ) (l : LentPapers) (e : l ≡ lent order job plan) where
  pub lent-sound : plan_record_fault l.plan ≡ 0
  unfolding lent
  lent-sound = rw e (beside-sound (read_job job).answer plan)

  lent-judged : (v : Judged) → l.judged ≡ v → judge_with order job plan ≡ v
  unfolding lent
  lent-judged v h = sym (ap (λ (x : LentPapers). x.judged) e) ∙ h

  lent-job : l.job ≡ (read_job job).job
  unfolding lent
  lent-job = ap (λ (x : LentPapers). x.job) e

  -- where it passed, the plan lent was read
  lent-plan : (cost : ℕ) → l.judged ≡ Passed cost → l.plan ≡ (read_plan plan).plan
  unfolding lent plan_beside
  lent-plan cost h =
      ap (λ (x : LentPapers). x.plan) e ∙ rw (ap (λ (x : JobRead). x.answer) (job-read order job plan cost (lent-judged (Passed cost) h)))

  -- the answer `next` of a plan that passed
  pub lent-passes : (cost : ℕ) (next : Written) → l.judged ≡ Passed cost → if_passed (judge_with order job plan) next ≡ next
  unfolding if_passed
  lent-passes cost next h = rw (lent-judged (Passed cost) h)

  pub lent-unfit : (number paper : ℕ) (next : Written) → l.judged ≡ Unfit number paper → if_passed (judge_with order job plan) next ≡ Refused number paper
  unfolding if_passed
  lent-unfit number paper next h = rw (lent-judged (Unfit number paper) h)

-- a plan that was read: its sizes, and starts that a distance can be added to
pub plan-sizes : (p : Plan) → plan_record_fault p ≡ 0 → (p.n ≤ max_ops) × (p.k ≤ max_insts) × (within p.starts max_steps p.n ≡ true)
plan-sizes p h = let s = none-plan p h in (s.ops, s.insts, each_within p.starts max_steps p.n s.starts)

-- ---- an answer a that is r, and the output's bytes after it

pub refuses : (a : Written) (sheet before : List ℕ) (number paper : ℕ) → a ≡ Refused number paper → Promise a (output a sheet before) (Refused number paper) before
unfolding output
refuses a sheet before number paper e = record { told = sym e; bytes = rw e }

-- an answer that is another's, with the same sheet
pub answers : (a b r : Written) (sheet sheet' before after : List ℕ) → a ≡ b → sheet ≡ sheet' → Promise b (output b sheet' before) r after
    → Promise a (output a sheet before) r after
answers a b r sheet sheet' before after e f w = record { told = w.told ∙ sym e; bytes = w.bytes ∙ rw (e, f) }

-- a plan that is written
pub writes : (a r : Written) (p q : Plan) (before after : List ℕ) → a ≡ write_plan p (length before) → q ≡ p → Promise (write_plan q (length before)) (plan_out q before) r after
    → Promise a (output a (plan_sheet p) before) r after
unfolding plan_out
writes a r p q before after e f w =
    answers a (write_plan q (length before)) r (plan_sheet p) (plan_sheet q) before after (e ∙ rw f) (rw f) w

-- ---- sliding

module _ (j : Job) (p : Plan) (d : ℤ) where
  -- the distance is too far
  pub slide-far : (before : List ℕ) → max_steps < steps d
      → Promise (slide_plan j p d (length before)) (output (slide_plan j p d (length before)) (plan_sheet (slid d p)) before) (Refused distance_far paper_request) before
  unfolding slide_plan refused_unless
  slide-far before h = refuses _ _ before distance_far paper_request (rw (lt-leb (steps d) max_steps h))

  module _ (near : steps d ≤ max_steps) (starts types : List ℕ) (timing : Spans op_cells) (kept : Bool)
      (es : starts ≡ moved_starts (backward d) (steps d) p.starts p.n) (et : types ≡ types_of j)
      (em : timing ≡ timing_in types j.clock j.kinds j.times j.intervals p.insts) (ep : kept ≡ keeps p.n j.t starts timing.delays) where
    same-starts : starts ≡ (slid d p).starts
    unfolding slid
    same-starts = es

    same_test : kept ≡ keeps p.n j.t (slid d p).starts (timing_of j p.insts).delays
    same_test = rw (ep, same-starts, em, et)

    -- a start leaves its limits
    pub slide-out : (before : List ℕ) → kept ≡ false
        → Promise (slide_plan j p d (length before)) (output (slide_plan j p d (length before)) (plan_sheet (slid d p)) before) (Refused moved_out paper_plan) before
    unfolding slide_plan refused_unless
    slide-out before h = refuses _ _ before moved_out paper_plan (rw (le-leb (steps d) max_steps near, sym same_test ∙ h))

    -- the plan is written
    pub slide-writes : (before after : List ℕ) (r : Written) → kept ≡ true
        → Promise (write_plan (record p { starts = starts }) (length before)) (plan_out (record p { starts = starts }) before) r after
        → Promise (slide_plan j p d (length before)) (output (slide_plan j p d (length before)) (plan_sheet (slid d p)) before) r after
    unfolding slide_plan refused_unless slid
    slide-writes before after r h w =
        writes (slide_plan j p d (length before)) r (slid d p) (record p { starts = starts }) before after (rw (le-leb (steps d) max_steps near, sym same_test ∙ h)) (rw same-starts) w

-- ---- the entries, of a plan that passed and of one that did not

module _ (job plan : List ℕ) (l : LentPapers) where
  module _ (e : l ≡ lent true job plan) where
    pub slide-passed : (cost : ℕ) → l.judged ≡ Passed cost → (d d' : ℤ) → d' ≡ d → (before after : List ℕ) (r : Written)
        → Promise (slide_plan l.job l.plan d' (length before)) (output (slide_plan l.job l.plan d' (length before)) (plan_sheet (slid d' l.plan)) before) r after
        → Promise (slide job plan d (length before)) (slide_out job plan d before) r after
    unfolding slide slide_out judge
    slide-passed cost h d d' ed before after r w =
        let j = lent-job true job plan l e in
        let p = lent-plan true job plan l e cost h in
        answers (slide job plan d (length before)) (slide_plan l.job l.plan d' (length before)) r _ _ before after
        (lent-passes true job plan l e cost _ h ∙ sym (rw (j, p, ed))) (sym (rw (p, ed))) w

    pub slide-unfit : (number paper : ℕ) → l.judged ≡ Unfit number paper → (d : ℤ) (before : List ℕ)
        → Promise (slide job plan d (length before)) (slide_out job plan d before) (Refused number paper) before
    unfolding slide slide_out judge
    slide-unfit number paper h d before = refuses _ _ before number paper (lent-unfit true job plan l e number paper _ h)

  module _ (e : l ≡ lent false job plan) where
    pub tidy-passed : (cost : ℕ) → l.judged ≡ Passed cost → (q : Plan) → q ≡ tidied l.job l.plan → (before after : List ℕ) (r : Written)
        → Promise (write_plan q (length before)) (plan_out q before) r after → Promise (tidy job plan (length before)) (tidy_out job plan before) r after
    unfolding tidy tidy_out
    tidy-passed cost h q eq before after r w =
        writes (tidy job plan (length before)) r _ q before after (lent-passes false job plan l e cost _ h)
        (eq ∙ rw (lent-job false job plan l e, lent-plan false job plan l e cost h)) w

    pub tidy-unfit : (number paper : ℕ) → l.judged ≡ Unfit number paper → (before : List ℕ)
        → Promise (tidy job plan (length before)) (tidy_out job plan before) (Refused number paper) before
    unfolding tidy tidy_out
    tidy-unfit number paper h before = refuses _ _ before number paper (lent-unfit false job plan l e number paper _ h)
