-- What placing asks of a job: `board_of`, its numbers and tables. `lasts` and `near` say nothing new; they are at hand so that
-- one more row is tested quickly. `OfJob` is a board of a job that was read, `WasRead` such a job.
use Rattle.std.specs.Prelude.{ℕ, zero, suc, ◌+◌, ◌-◌, ◌*◌, ◌/◌, ◌%◌, ◌≤◌, ◌<◌, ◌≡◌, Bool, true, false, ◌&&◌, List, ltb, leb, eqb}
use Rattle.basics.specs.Counting.{only}
use Rattle.basics.specs.Tables.{cell, cells}
use Rattle.sheets.specs.JobSheet.{read_job}
use Rattle.sheets.specs.Limits.{op_cells, inst_cells}
use Rattle.sheets.specs.declared.Job.{Job}
use Rattle.sheets.specs.Answers.{Read}
use Rattle.rules.specs.Model.{inst_count, types_of, time_of, delay_of, spacing_of, unit_cells, unit_table}
use Rattle.placing.specs.declared.Board.{Board}

-- operation o on instance i, in a table over both
abbrev pub unit : List ℕ → ℕ → ℕ → ℕ
unit table o i = cell table (inst_cells * o + i)

-- ---- the last step in which an operation can start, with its time and delay on an instance; 0 where it never can

unfoldable pub last_start : ℕ → ℕ → ℕ → ℕ
last_start t time delay = only (ltb 0 time) (t + 1 - delay)

-- cell c of a table over both
abbrev pub last_at : ℕ → List ℕ → List ℕ → ℕ → ℕ
last_at t times delays c = last_start t (cell times c) (cell delays c)

abbrev pub last_table : ℕ → List ℕ → List ℕ → List ℕ
last_table t times delays = cells (last_at t times delays) unit_cells unit_cells

-- ---- the first operation from x on that a link joins to operation o; op_cells where there is none

unfoldable pub nearer_if : Bool → ℕ → ℕ → ℕ
nearer_if true far y = y
nearer_if false far y = far

-- a link joins a and y, and the first found so far is `far`: y where a is o and y is from x on and before that
unfoldable pub nearer : ℕ → ℕ → ℕ → ℕ → ℕ → ℕ
nearer o x far a y = nearer_if (eqb a o && leb x y && ltb y far) far y

-- over the first l links
unfoldable pub nearest : List ℕ → List ℕ → ℕ → ℕ → ℕ → ℕ
nearest from to o x zero = op_cells
nearest from to o x (suc l) = nearer o x (nearer o x (nearest from to o x l) (cell from l) (cell to l)) (cell to l) (cell from l)

-- a row of the table has a cell for every x up to op_cells
abbrev pub near_cells : ℕ
near_cells = op_cells + 1

abbrev pub near_at : List ℕ → List ℕ → ℕ → ℕ → ℕ
near_at from to e c = nearest from to (c / near_cells) (c % near_cells) e

-- of n operations
abbrev pub near_table : List ℕ → List ℕ → ℕ → ℕ → List ℕ
near_table from to e n = cells (near_at from to e) (near_cells * n) (near_cells * op_cells)

-- what the table says of operation o: which is the first from x on, and so whether a link joins it to x (below op_cells)
abbrev pub near_of : List ℕ → ℕ → ℕ → ℕ
near_of near o x = cell near (near_cells * o + x)

abbrev pub linked : List ℕ → ℕ → ℕ → Bool
linked near o x = eqb (near_of near o x) x

-- from x on it leads to the next one that is linked, or to op_cells
pub record Leads (near : List ℕ) (o : ℕ) : Type 0 where
  pub ahead : (x : ℕ) → x ≤ op_cells → x ≤ near_of near o x
  pub within : (x : ℕ) → x ≤ op_cells → near_of near o x ≤ op_cells
  pub passes : (x y : ℕ) → x ≤ op_cells → x ≤ y → y < near_of near o x → linked near o y ≡ false
  pub arrives : (x : ℕ) → x ≤ op_cells → linked near o (near_of near o x) ≡ true

-- ---- the board

unfoldable pub board_of : Job → Board
board_of j =
    record {
      n = j.n;
      k = inst_count j;
      t = j.t;
      e = j.e;
      wire = j.wire;
      clock = j.clock;
      from = j.from;
      to = j.to;
      types = types_of j;
      costs = j.costs;
      times = unit_table (time_of j);
      delays = unit_table (delay_of j);
      spacings = unit_table (spacing_of j);
      lasts = last_table j.t (unit_table (time_of j)) (unit_table (delay_of j));
      near = near_table j.from j.to j.e j.n;
    }

pub record OfJob (b : Board) : Type 0 where
  pub sheet : List ℕ
  pub job : Job
  pub read : read_job sheet ≡ record { answer = Read; job = job }
  pub is : b ≡ board_of job

-- a job that a sheet was read as
pub record WasRead (j : Job) : Type 0 where
  pub sheet : List ℕ
  pub read : read_job sheet ≡ record { answer = Read; job = j }
