-- The operations that a link joins to op, as the code's `Linked` gives them.
use Rattle.std.specs.Prelude.{ℕ, ◌-◌, List, filter}
use Rattle.std.specs.List.{range_with_len}
use Rattle.placing.specs.Board.{linked}
use Rattle.placing.specs.declared.links.Linked.{Linked}

-- of x, x + 1, .. (m of them)
abbrev pub linked_from : List ℕ → ℕ → ℕ → ℕ → List ℕ
linked_from near op x m = filter (linked near op) (range_with_len x m)

-- those that are left
abbrev pub linked_left : Linked → List ℕ
linked_left s = linked_from s.near.now s.op s.from (s.reach - s.from)
