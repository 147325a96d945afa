-- What each answer of slide means: `slide-written` and `slide-refused`. The plan written is judged as the one lent: `slid-judged`.
use Prim.Native.Nat.{ℕ, zero, suc, ◌<◌, ◌≤◌}
use mathlib.Core.Path.{◌≡◌, refl, sym, ap, subst, ◌∙◌}
use mathlib.Core.Bool.{Bool, true, false, ◌&&◌}
use mathlib.Core.List.{List, ◌++◌}
use mathlib.Core.Logic.{◌⊎◌, inl, inr}
use native.Mathlib.Decide.{dec_lt}
use native.Mathlib.Omega.{arith}
use borrow.Author.Tests.{leb-false, le-leb, lt-leb}
use lib.Dec.{leb}
use lib.IntN.{ℤ}
use lib.ListN.{length, drop}
use Rattle.basics.specs.Counting.{all_to}
use Rattle.basics.specs.Numbers.{distance_far, moved_out, paper_plan, paper_request}
use Rattle.basics.proofs.TableLaws.{cell-cells}
use Rattle.sheets.specs.Answers.{output}
use Rattle.sheets.specs.Limits.{op_cells, max_steps}
use Rattle.sheets.specs.PlanSheet.{PlanShape, read_plan, plan_record_fault, plan_sheet, write_plan}
use Rattle.sheets.specs.declared.Plan.{Plan}
use Rattle.sheets.specs.PlanSheet.{PlanRead}
use Rattle.sheets.specs.Answers.{Written, Wrote, Refused}
use Rattle.sheets.proofs.JobRoundTrip.{job-sound}
use Rattle.sheets.proofs.PlanRoundTrip.{plan-read-sound}
use Rattle.sheets.proofs.RecordLaws.{JobSound}
use Rattle.rules.specs.Judge.{plan_cost, judge}
use Rattle.rules.specs.Meets.{Meets, Passes, delay}
use Rattle.rules.specs.Model.{delay_of, row_at, timing_in, timing_of}
use Rattle.rules.specs.Rules.{finish}
use Rattle.rules.specs.Judge.{Judged, Passed, Refused as Unfit}
use Rattle.rules.proofs.JudgeMeets.{judge-passes}
use Rattle.moves.specs.Moved.{SlidBy, Slides, Leaves, SlideRefusal}
use Rattle.moves.specs.Moving.{if_passed, refused_unless}
use Rattle.moves.specs.Slide.{steps, slid, keeps_at, keeps, slide_plan, slide, slide_out}
use Rattle.moves.proofs.LentLaws.{plan-read-shape, plan-written, plan-short, sheet-passes}
use Rattle.moves.proofs.SlideLaws.{slid-start, slid-by, slid-meets, slid-cost, slid-sound, slid-shape}

-- ---- a test that fails of some

record Fails (test : ℕ → Bool) (n : ℕ) : Type 0 where
  number : ℕ
  below : number < n
  fails : test number ≡ false

all_to-fails : (test : ℕ → Bool) (n : ℕ) → all_to test n ≡ false → Fails test n
unfolding all_to
all_to-fails test zero h = cc
all_to-fails test (suc n) h = go (all_to test n) refl (all_to-fails test n) h
  where
    go : (b : Bool) → all_to test n ≡ b → (all_to test n ≡ false → Fails test n) → all_to test n && test n ≡ false → Fails test (suc n)
    go true e before h = record { number = n; below = omega arith; fails = rw e at h }
    go false e before h = let w = before e in record { number = w.number; below = omega (arith, w.below); fails = w.fails }

-- of a start's limits
limit-fails : (t start delay : ℕ) → leb 1 start && leb (finish start delay) t ≡ false → (start ≡ 0) ⊎ (t < finish start delay)
limit-fails t start delay h = go (leb 1 start) refl
  where
    go : (b : Bool) → leb 1 start ≡ b → (start ≡ 0) ⊎ (t < finish start delay)
    go true e = inr (leb-false (finish start delay) t (rw e at h))
    go false e = inl (omega (arith, leb-false 1 start e))

-- ---- a plan lent that passed

module _ (job plan : List ℕ) (d : ℤ) (cost : ℕ) (w : Passes job plan cost) where
  sound : JobSound w.as_job
  sound = job-sound job w.as_job w.job_read

  lent_is : (read_plan plan).plan ≡ w.as_plan
  lent_is = ap (λ (r : PlanRead). r.plan) w.plan_read

  -- the plan to be written
  abbrev q : Plan
  q = slid d w.as_plan

  q-shape : PlanShape q
  q-shape = slid-shape d w.as_plan (subst PlanShape lent_is (plan-read-shape plan))

  q-bytes : (before : List ℕ) (size : ℕ) → slide job plan d (length before) ≡ Wrote size → slide_out job plan d before ≡ plan_sheet q ++ drop size before
  unfolding slide_out output
  q-bytes before size e = rw (e, w.plan_read)

  -- ---- within its limits

  abbrev kept : Bool
  kept = keeps w.as_plan.n w.as_job.t q.starts (timing_of w.as_job w.as_plan.insts).delays

  module _ (k : kept ≡ true) where
    q-slid : SlidBy d w.as_plan q
    q-slid = slid-by w.as_job sound w.as_plan d w.meets k

    q-meets : Meets w.as_job q
    q-meets = slid-meets w.as_job sound w.as_plan d w.meets k

    q-cost : plan_cost w.as_job q ≡ cost
    q-cost = slid-cost w.as_job sound w.as_plan d w.meets k ∙ sym w.cost

    q-sound : plan_record_fault q ≡ 0
    q-sound = slid-sound w.as_job sound w.as_plan d w.meets k (subst (λ (p : Plan). plan_record_fault p ≡ 0) lent_is (plan-read-sound plan))

    q-judged : judge job (plan_sheet q) ≡ Passed cost
    q-judged = sheet-passes q q-shape q-sound job w.as_job cost w.job_read q-meets q-cost

  -- ---- an operation that leaves them

  abbrev keeps_in : ℕ → Bool
  keeps_in = keeps_at w.as_job.t q.starts (timing_of w.as_job w.as_plan.insts).delays

  leaves_at : (o : ℕ) → o < w.as_plan.n → keeps_in o ≡ false → Leaves d w.as_job w.as_plan o
  unfolding keeps_at timing_in
  leaves_at o l h =
      let n : o < w.as_job.n = omega (arith, w.meets.operations) in
      let s = slid-start w.as_job sound w.as_plan d w.meets o n in
      let e = cell-cells (row_at (delay_of w.as_job) w.as_plan.insts) op_cells op_cells o (omega (arith, sound.counts.ops)) (omega arith) in
      (l, limit-fails w.as_job.t _ (delay w.as_job w.as_plan o) (rw (s, e) at h))

  leaves-some : kept ≡ false → Fails keeps_in w.as_plan.n
  unfolding keeps
  leaves-some h = all_to-fails keeps_in w.as_plan.n h

-- ---- the four ways of slide, and its answer in each

data Way (job plan : List ℕ) (d : ℤ) : Type 0 where
  refuses : (number paper : ℕ) → judge job plan ≡ Unfit number paper → Way job plan d
  strays : (cost : ℕ) → Passes job plan cost → max_steps < steps d → Way job plan d
  leaves : (cost : ℕ) (w : Passes job plan cost) → steps d ≤ max_steps → kept job plan d cost w ≡ false → Way job plan d
  stays : (cost : ℕ) (w : Passes job plan cost) → steps d ≤ max_steps → kept job plan d cost w ≡ true → Way job plan d

module _ (job plan : List ℕ) (d : ℤ) where
  way : Way job plan d
  way = go (judge job plan) refl
    where
      near : (cost : ℕ) (w : Passes job plan cost) → steps d ≤ max_steps → (b : Bool) → kept job plan d cost w ≡ b → Way job plan d
      near cost w l false k = leaves cost w l k
      near cost w l true k = stays cost w l k

      go : (v : Judged) → judge job plan ≡ v → Way job plan d
      go (Unfit number paper) e = refuses number paper e
      go (Passed cost) e =
          let w = (judge-passes job plan cost).0 e in
          elim (dec_lt max_steps (steps d)) [ yes l ↦ strays cost w l | no l ↦ near cost w (omega arith) (kept job plan d cost w) refl ]

  abbrev answer_of : ℕ → Way job plan d → Written
  answer_of room (refuses number paper e) = Refused number paper
  answer_of room (strays cost w l) = Refused distance_far paper_request
  answer_of room (leaves cost w l k) = Refused moved_out paper_plan
  answer_of room (stays cost w l k) = write_plan (q job plan d cost w) room

  answers : (room : ℕ) (y : Way job plan d) → slide job plan d room ≡ answer_of room y
  unfolding slide if_passed slide_plan refused_unless
  answers room (refuses number paper e) = rw e
  answers room (strays cost w l) = rw ((judge-passes job plan cost).1 w, lt-leb (steps d) max_steps l)
  answers room (leaves cost w l k) = rw ((judge-passes job plan cost).1 w, w.job_read, w.plan_read, le-leb (steps d) max_steps l, k)
  answers room (stays cost w l k) = rw ((judge-passes job plan cost).1 w, w.job_read, w.plan_read, le-leb (steps d) max_steps l, k)

  -- an answer of slide is that of its way
  answered : (room : ℕ) (r : Written) → slide job plan d room ≡ r → answer_of room way ≡ r
  answered room r e = sym (answers room way) ∙ e

-- ---- written

pub slide-written : (job plan : List ℕ) (d : ℤ) (before : List ℕ) (size : ℕ) → slide job plan d (length before) ≡ Wrote size
    → Slides job plan d before (slide_out job plan d before) size
slide-written job plan d before size e = go (way job plan d) (answered job plan d (length before) (Wrote size) e)
  where
    go : (y : Way job plan d) → answer_of job plan d (length before) y ≡ Wrote size → Slides job plan d before (slide_out job plan d before) size
    go (refuses number paper r) h = cc
    go (strays cost w l) h = cc
    go (leaves cost w l k) h = cc
    go (stays cost w l k) h =
        record {
          cost = cost;
          passes = w;
          near = l;
          as_plan = q job plan d cost w;
          slid = q-slid job plan d cost w k;
          meets = q-meets job plan d cost w k;
          costs = q-cost job plan d cost w k;
          written =
              plan-written (q job plan d cost w) (q-shape job plan d cost w) (q-sound job plan d cost w k) before (slide_out job plan d before) size h
              (q-bytes job plan d cost w before size e);
        }

pub slid-judged : (job plan : List ℕ) (d : ℤ) (room size : ℕ) → slide job plan d room ≡ Wrote size
    → judge job (plan_sheet (slid d (read_plan plan).plan)) ≡ judge job plan
slid-judged job plan d room size e = go (way job plan d) (answered job plan d room (Wrote size) e)
  where
    go : (y : Way job plan d) → answer_of job plan d room y ≡ Wrote size → judge job (plan_sheet (slid d (read_plan plan).plan)) ≡ judge job plan
    go (refuses number paper r) h = cc
    go (strays cost w l) h = cc
    go (leaves cost w l k) h = cc
    go (stays cost w l k) h =
        ap (λ (p : Plan). judge job (plan_sheet (slid d p))) (lent_is job plan d cost w)
        ∙ q-judged job plan d cost w k
        ∙ sym ((judge-passes job plan cost).1 w)

-- ---- refused

pub slide-refused : (job plan : List ℕ) (d : ℤ) (room number paper : ℕ) → slide job plan d room ≡ Refused number paper
    → SlideRefusal job plan d room number paper
slide-refused job plan d room number paper e = go (way job plan d) (answered job plan d room (Refused number paper) e)
  where
    go : (y : Way job plan d) → answer_of job plan d room y ≡ Refused number paper → SlideRefusal job plan d room number paper
    go (refuses number' paper' r) h =
        let a : number' ≡ number = cc in
        let b : paper' ≡ paper = cc in
        SlideRefusal.unfit (rw (← a, ← b) r)
    go (strays cost w l) h =
        let a : number ≡ distance_far = cc in
        let b : paper ≡ paper_request = cc in
        SlideRefusal.far cost w l a b
    go (leaves cost w l k) h =
        let a : number ≡ moved_out = cc in
        let b : paper ≡ paper_plan = cc in
        let f = leaves-some job plan d cost w k in
        SlideRefusal.out cost w l f.number (leaves_at job plan d cost w f.number f.below f.fails) a b
    go (stays cost w l k) h =
        let s = plan-short (q job plan d cost w) (q-shape job plan d cost w) (q-sound job plan d cost w k) room number paper h in
        SlideRefusal.short cost w l (q job plan d cost w) (q-slid job plan d cost w k) (q-meets job plan d cost w k) s.0 s.1 s.2
