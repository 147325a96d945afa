-- What a function that places one more row asks: `Ready` of the rows placed so far, and `Places` of an option that is live. `placing_of`
-- and `option_at` put together what the code has in pieces.
use Rattle.std.specs.Prelude.{ℕ, ◌≤◌, ◌<◌, ◌≡◌, true, List, length}
use Rattle.basics.specs.Tables.{cell}
use Rattle.sheets.specs.Limits.{op_cells, type_cells}
use Rattle.placing.specs.declared.Board.{Board}
use Rattle.placing.specs.declared.rows.Rows.{Rows}
use Rattle.placing.specs.Board.{OfJob}
use Rattle.placing.specs.Costing.{Tracks}
use Rattle.placing.specs.Options.{Option, put}
use Rattle.placing.specs.Placing.{Placing, live}

abbrev pub placing_of : Rows → Placing
placing_of rows = record { starts = rows.starts; insts = rows.insts }

abbrev pub option_at : ℕ → ℕ → Option
option_at s i = record { start = s; inst = i }

-- the board of a job that was read, rows that are live with none from `reach` on, and their cost
pub record Ready (b : Board) (reach : ℕ) (p : Placing) (lows : List ℕ) (here : ℕ) : Type 0 where
  pub of : OfJob b
  pub few : reach ≤ b.n
  pub alive : live b p ≡ true
  pub behind : (o : ℕ) → reach ≤ o → cell p.starts o ≡ 0
  pub tracks : Tracks b p lows here
  pub starts-long : length p.starts ≡ op_cells
  pub insts-long : length p.insts ≡ op_cells
  pub lows-long : length lows ≡ type_cells

-- and an option of operation op, which is not placed: step s on instance i, which is live
pub record Places (b : Board) (reach op : ℕ) (p : Placing) (lows : List ℕ) (here s i : ℕ) : Type 0 where
  pub able : Ready b reach p lows here
  pub more : op < b.n
  pub free : cell p.starts op ≡ 0
  pub begins : 1 ≤ s
  pub unit : i < b.k
  pub lives : live b (put p op (option_at s i)) ≡ true
