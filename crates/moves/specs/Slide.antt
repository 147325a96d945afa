-- Sliding: `slid d p` is the plan p with the distance d added to every start. `slide` is the answer for any bytes and any distance,
-- `slide_out` the output's bytes after it.
use Rattle.std.specs.Prelude.{ℕ, suc, ◌+◌, ◌-◌, Bool, true, false, ◌&&◌, List, leb, ℤ, pos, negsuc, length}
use Rattle.basics.specs.Counting.{all_to}
use Rattle.basics.specs.Numbers.{distance_far, moved_out, paper_plan, paper_request}
use Rattle.basics.specs.Tables.{cell, cells}
use Rattle.sheets.specs.Answers.{Written, output}
use Rattle.sheets.specs.JobSheet.{read_job}
use Rattle.sheets.specs.Limits.{op_cells, max_steps}
use Rattle.sheets.specs.PlanSheet.{read_plan, plan_sheet, write_plan}
use Rattle.sheets.specs.declared.Job.{Job}
use Rattle.sheets.specs.declared.Plan.{Plan}
use Rattle.rules.specs.Judge.{judge}
use Rattle.rules.specs.Model.{timing_of}
use Rattle.rules.specs.Rules.{finish}
use Rattle.moves.specs.Moving.{if_passed, refused_unless}

-- ---- a distance: back or on, and so many steps

abbrev pub backward : ℤ → Bool
backward (pos d) = false
backward (negsuc d) = true

abbrev pub steps : ℤ → ℕ
steps (pos d) = d
steps (negsuc d) = suc d

-- ---- the plan moved

-- a start moved; 0, which is no step, where there are too few before it
unfoldable pub moved : Bool → ℕ → ℕ → ℕ
moved false by start = start + by
moved true by start = start - by

-- that of operation o
abbrev pub moved_at : Bool → ℕ → List ℕ → ℕ → ℕ
moved_at back by starts o = moved back by (cell starts o)

-- those of n operations
abbrev pub moved_starts : Bool → ℕ → List ℕ → ℕ → List ℕ
moved_starts back by starts n = cells (moved_at back by starts) n op_cells

unfoldable pub slid : ℤ → Plan → Plan
slid d p =
    record {
      n = p.n;
      k = p.k;
      selection = p.selection;
      starts = moved_starts (backward d) (steps d) p.starts p.n;
      insts = p.insts;
    }

-- ---- a start's limits: at least 1, and its finish at most T

unfoldable pub keeps_at : ℕ → List ℕ → List ℕ → ℕ → Bool
keeps_at t starts delays o = leb 1 (cell starts o) && leb (finish (cell starts o) (cell delays o)) t

-- n operations
unfoldable pub keeps : ℕ → ℕ → List ℕ → List ℕ → Bool
keeps n t starts delays = all_to (keeps_at t starts delays) n

-- ---- the answer

-- of a plan that passed, into an output of `room` bytes
unfoldable pub slide_plan : Job → Plan → ℤ → ℕ → Written
slide_plan j p d room =
    refused_unless (leb (steps d) max_steps) distance_far paper_request
    (refused_unless (keeps p.n j.t (slid d p).starts (timing_of j p.insts).delays) moved_out paper_plan
    (write_plan (slid d p) room))

unfoldable pub slide : List ℕ → List ℕ → ℤ → ℕ → Written
slide job plan d room = if_passed (judge job plan) (slide_plan (read_job job).job (read_plan plan).plan d room)

-- the output's bytes after it, where they were `before`
unfoldable pub slide_out : List ℕ → List ℕ → ℤ → List ℕ → List ℕ
slide_out job plan d before = output (slide job plan d (length before)) (plan_sheet (slid d (read_plan plan).plan)) before
