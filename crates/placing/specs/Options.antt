-- The options of an operation in their order, starts ascending and for one start instances ascending (`options`), and the
-- children of a placing: the live ones of the next operation (`children`).
use Rattle.std.specs.Prelude.{ℕ, zero, suc, ◌+◌, ◌-◌, Bool, true, false, List, [], ◌∷◌, set, replicate}
use Rattle.sheets.specs.Limits.{op_cells}
use Rattle.placing.specs.declared.Board.{Board}
use Rattle.placing.specs.Placing.{Placing, live}

pub record Option : Type 0 where
  pub start : ℕ
  pub inst : ℕ

-- ---- in their order

-- instances i, i + 1, .. (m of them) at the start s, then the rest
unfoldable pub options_at : ℕ → ℕ → ℕ → List Option → List Option
options_at s i zero rest = rest
options_at s i (suc m) rest = record { start = s; inst = i } ∷ options_at s (i + 1) m rest

-- starts s, s + 1, .. (m of them), each with instances 0 to k - 1
unfoldable pub options_from : ℕ → ℕ → ℕ → List Option
options_from k s zero = []
options_from k s (suc m) = options_at s 0 k (options_from k (s + 1) m)

abbrev pub options : Board → List Option
options b = options_from b.k 1 b.t

-- ---- placed

abbrev pub none : Placing
none = record { starts = replicate op_cells 0; insts = replicate op_cells 0 }

-- p with operation o placed so
abbrev pub put : Placing → ℕ → Option → Placing
put p o r = record { starts = set p.starts o r.start; insts = set p.insts o r.inst }

unfoldable pub keep_if : Bool → Placing → List Placing → List Placing
keep_if true p ps = p ∷ ps
keep_if false p ps = ps

-- p with operation o placed by each of these options that is live
unfoldable pub live_ones : Board → Placing → ℕ → List Option → List Placing
live_ones b p o [] = []
live_ones b p o (r ∷ rs) = keep_if (live b (put p o r)) (put p o r) (live_ones b p o rs)

-- operations are placed in number order: with d to place behind the next one, that is n - (d + 1)
unfoldable pub children : Board → ℕ → Placing → List Placing
children b d p = live_ones b p (b.n - suc d) (options b)
