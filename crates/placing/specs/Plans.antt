-- The plan of a placing, with its smallest selection: `plan_from`. A plan meets the rules exactly where its rows are a leaf of the board
-- (`leaf-meets` and `meets-leaf` in proofs/LeafMeets).
use Rattle.sheets.specs.declared.Plan.{Plan}
use Rattle.placing.specs.declared.Board.{Board}
use Rattle.placing.specs.Placing.{Placing, smallest}

abbrev pub plan_from : Board → Placing → Plan
plan_from b p = record { n = b.n; k = b.k; selection = smallest b p; starts = p.starts; insts = p.insts }
