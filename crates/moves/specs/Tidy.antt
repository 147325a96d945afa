-- Tidying: `tidied j p` is the plan p with each type's selected instances moved to its last numbers, order kept, and the rows
-- following. `tidy` is the answer for any bytes, `tidy_out` the output's bytes after it.
use Rattle.std.specs.Prelude.{ℕ, ◌+◌, Bool, false, not, ◌&&◌, List, ltb, eqb, length}
use Rattle.basics.specs.Counting.{any_to, sum_to, only}
use Rattle.basics.specs.Tables.{cell, cells}
use Rattle.sheets.specs.Answers.{Written, output}
use Rattle.sheets.specs.JobSheet.{read_job}
use Rattle.sheets.specs.Limits.{op_cells, inst_cells}
use Rattle.sheets.specs.PlanSheet.{read_plan, plan_sheet, write_plan}
use Rattle.sheets.specs.declared.Job.{Job}
use Rattle.sheets.specs.declared.Plan.{Plan}
use Rattle.rules.specs.Judge.{judge_with}
use Rattle.rules.specs.Model.{types_of}
use Rattle.rules.specs.Selection.{selected}
use Rattle.moves.specs.Moving.{if_passed}

-- ---- where an instance moves to: past each unselected one of its type that is behind it

-- instance i moves past instance `other`
unfoldable pub moves_past : List ℕ → List ℕ → ℕ → ℕ → Bool
moves_past types selection i other = ltb i other && eqb (cell types other) (cell types i) && not (selected selection other)

abbrev pub past_at : List ℕ → List ℕ → ℕ → ℕ → ℕ
past_at types selection i other = only (moves_past types selection i other) 1

-- where instance i of k moves to
unfoldable pub moves_to : List ℕ → List ℕ → ℕ → ℕ → ℕ
moves_to types selection k i = i + sum_to (past_at types selection i) k

abbrev pub moves_in : List ℕ → List ℕ → ℕ → List ℕ
moves_in types selection k = cells (moves_to types selection k) k inst_cells

-- ---- the plan moved

-- instance i is selected, and moves to instance m
unfoldable pub takes : List ℕ → List ℕ → ℕ → ℕ → Bool
takes moves selection m i = selected selection i && eqb (cell moves i) m

-- 1 where a selected one of k instances moves to m, else 0
unfoldable pub taken_at : List ℕ → List ℕ → ℕ → ℕ → ℕ
taken_at moves selection k m = only (any_to (takes moves selection m) k) 1

abbrev pub taken_in : List ℕ → List ℕ → ℕ → List ℕ
taken_in moves selection k = cells (taken_at moves selection k) k inst_cells

-- where the instance of operation o's row moves to
abbrev pub follows_at : List ℕ → List ℕ → ℕ → ℕ
follows_at moves insts o = cell moves (cell insts o)

-- of n rows
abbrev pub follows_in : List ℕ → List ℕ → ℕ → List ℕ
follows_in moves insts n = cells (follows_at moves insts) n op_cells

unfoldable pub tidied : Job → Plan → Plan
tidied j p =
    let moves = moves_in (types_of j) p.selection p.k in
    record {
      n = p.n;
      k = p.k;
      selection = taken_in moves p.selection p.k;
      starts = p.starts;
      insts = follows_in moves p.insts p.n;
    }

-- ---- the answer, into an output of `room` bytes: selection order is not asked

unfoldable pub tidy : List ℕ → List ℕ → ℕ → Written
tidy job plan room = if_passed (judge_with false job plan) (write_plan (tidied (read_job job).job (read_plan plan).plan) room)

-- the output's bytes after it, where they were `before`
unfoldable pub tidy_out : List ℕ → List ℕ → List ℕ → List ℕ
tidy_out job plan before = output (tidy job plan (length before)) (plan_sheet (tidied (read_job job).job (read_plan plan).plan)) before
