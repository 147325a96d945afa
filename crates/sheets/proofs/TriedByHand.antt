-- Sheets tried by hand, by computation: document 01's empty job (case 12), its job P and the plan of case 1, each read
-- from its bytes and written back to them.
use Prim.Native.Nat.{ℕ}
use mathlib.Core.Path.{◌≡◌, refl}
use mathlib.Core.List.{List, [], ◌∷◌, ◌++◌}
use lib.ListN.{replicate}
use Rattle.basics.specs.Counting.{all_to, sum_to}
use Rattle.basics.specs.Faults.{◌or_else◌, fault_unless, first}
use Rattle.basics.specs.Tables.{filled}
use Rattle.bits.specs.Bits.{bit, field, bytes_of}
use Rattle.bits.specs.Sheet.{total, number, pack, many}
use Rattle.sheets.specs.Groups.{runs_out, form_fault, fill_fault}
use Rattle.sheets.specs.JobRecord.{job_counts_fault, ascends, link_fault, pair_sound, type_fault}
use Rattle.sheets.specs.Answers.{Read}
use Rattle.sheets.specs.JobSheet.{job_of, job_head_fault, link_group, type_group, job_tables_fault, job_body_fault, job_fault, job_answer, read_job, type_fields, job_sheet}
use Rattle.sheets.specs.PlanSheet.{plan_of, plan_counts_fault, plan_head_fault, plan_body_fault, plan_fault, plan_answer, read_plan, plan_sheet}
use Rattle.sheets.specs.declared.Job.{Job}
use Rattle.sheets.specs.declared.Plan.{Plan}

-- ---- no operations, no types, T 0, clock 1

abbrev pub empty_job : Job
empty_job =
    record {
      n = 0;
      e = 0;
      m = 0;
      t = 0;
      clock = 1;
      wire = 0;
      kinds = replicate 24 0;
      from = replicate 64 0;
      to = replicate 64 0;
      costs = replicate 8 0;
      copies = replicate 8 0;
      times = replicate 64 0;
      intervals = replicate 64 0;
    }

abbrev pub empty_sheet : List ℕ
empty_sheet = 0x10 ∷ 0x00 ∷ 0x00 ∷ 0x00 ∷ 0x20 ∷ 0x00 ∷ []

pub empty-reads : read_job empty_sheet ≡ record { answer = Read; job = empty_job }
unfolding read_job job_answer job_fault job_head_fault job_body_fault job_tables_fault link_group type_group job_counts_fault link_fault ascends type_fault pair_sound job_of runs_out form_fault fill_fault fault_unless ◌or_else◌ first all_to sum_to filled field bit
empty-reads = refl

pub empty-writes : job_sheet empty_job ≡ empty_sheet
unfolding job_sheet type_fields pack number total bytes_of many
empty-writes = refl

-- ---- job P: two multiplications feed an addition; two adders, one multiplier

abbrev pub job_p : Job
job_p =
    record {
      n = 3;
      e = 2;
      m = 2;
      t = 3;
      clock = 100;
      wire = 5;
      kinds = 1 ∷ 1 ∷ 0 ∷ replicate 21 0;
      from = 0 ∷ 1 ∷ replicate 62 0;
      to = 2 ∷ 2 ∷ replicate 62 0;
      costs = 10 ∷ 30 ∷ replicate 6 0;
      copies = 2 ∷ 1 ∷ replicate 6 0;
      times = 40 ∷ replicate 8 0 ++ (90 ∷ replicate 54 0);
      intervals = 40 ∷ replicate 8 0 ++ (90 ∷ replicate 54 0);
    }

abbrev pub sheet_p : List ℕ
sheet_p =
    0x11 ∷ 0x82 ∷ 0x21 ∷ 0x8c ∷ 0x80 ∷ 0x29 ∷ 0x20 ∷ 0x02 ∷ 0x08 ∷ 0x80 ∷ 0x02 ∷ 0x90
    ∷ 0x50 ∷ 0x14 ∷ 0x00 ∷ 0x00 ∷ 0x00 ∷ 0x00 ∷ 0x00 ∷ 0x00 ∷ 0x00 ∷ 0x00 ∷ 0x00 ∷ 0x00
    ∷ 0x00 ∷ 0x00 ∷ 0x00 ∷ 0x00 ∷ 0x00 ∷ 0x00 ∷ 0x00 ∷ 0x00 ∷ 0x00 ∷ 0xf1 ∷ 0x00 ∷ 0x00
    ∷ 0x01 ∷ 0x68 ∷ 0x5a ∷ 0x00 ∷ 0x00 ∷ 0x00 ∷ 0x00 ∷ 0x00 ∷ 0x00 ∷ 0x00 ∷ 0x00 ∷ 0x00
    ∷ 0x00 ∷ 0x00 ∷ 0x00 ∷ 0x00 ∷ 0x00 ∷ 0x00 ∷ []

pub P-reads : read_job sheet_p ≡ record { answer = Read; job = job_p }
unfolding read_job job_answer job_fault job_head_fault job_body_fault job_tables_fault link_group type_group job_counts_fault link_fault ascends type_fault pair_sound job_of runs_out form_fault fill_fault fault_unless ◌or_else◌ first all_to sum_to filled field bit
P-reads = refl

pub P-writes : job_sheet job_p ≡ sheet_p
unfolding job_sheet type_fields pack number total bytes_of many
P-writes = refl

-- ---- the plan of case 1: selection 0 1 1, rows (1,2) (2,2) (3,1)

abbrev pub plan_case1 : Plan
plan_case1 =
    record {
      n = 3;
      k = 3;
      selection = 0 ∷ 1 ∷ 1 ∷ replicate 13 0;
      starts = 1 ∷ 2 ∷ 3 ∷ replicate 21 0;
      insts = 2 ∷ 2 ∷ 1 ∷ replicate 21 0;
    }

abbrev pub sheet_case1 : List ℕ
sheet_case1 = 0x21 ∷ 0x8d ∷ 0x84 ∷ 0x84 ∷ 0x43 ∷ 0x10 ∷ []

pub case1-reads : read_plan sheet_case1 ≡ record { answer = Read; plan = plan_case1 }
unfolding read_plan plan_answer plan_fault plan_head_fault plan_body_fault plan_counts_fault plan_of runs_out form_fault fill_fault fault_unless ◌or_else◌ filled field bit
case1-reads = refl

pub case1-writes : plan_sheet plan_case1 ≡ sheet_case1
unfolding plan_sheet pack number total bytes_of many
case1-writes = refl
