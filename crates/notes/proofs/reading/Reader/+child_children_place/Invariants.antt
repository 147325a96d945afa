-- A mark is read as the definition reads it, and the loops stand where it does; each option is a child where it is live, and nothing
-- else. A child is read with its row placed, and the row is taken back; one that is closed at once needs no row.
use Prim.Native.Nat.{ℕ, ◌+◌, ◌*◌, ◌≤◌}
use mathlib.Core.List.{List}
use lib.ListN.{length}
use Rattle.placing.specs.Closing.{in_turn, split_on}
use Rattle.placing.specs.Options.{Option}
use Rattle.placing.specs.Ready.{placing_of}
use Rattle.placing.specs.declared.rows.Rows.{Rows}
use Rattle.placing.proofs.RowLaws.{row, from_start}
use Rattle.placing.proofs.TurnLaws.{Stands}
use Rattle.notes.specs.NoteSheet.{split_bits}
use Rattle.notes.specs.Reading.{place_at}
use Rattle.notes.specs.declared.reading.Reader.{Reader}
use Rattle.notes.proofs.reading.Reader.+child_children_place.Given as goal

abbrev pub decreases-child : goal.decreases-child
decreases-child l = 3 * l.left + 1

abbrev pub decreases-children : goal.decreases-children
decreases-children l = 3 * l.left + 2

abbrev pub decreases-place : goal.decreases-place
decreases-place l = 3 * l.left

-- where the reader of a split's children stands, from bit `at` on
abbrev pub ReadTo : Reader → ℕ → ℕ → ℕ → ℕ → ℕ → Rows → Rows → ℕ → List Option → Type 0
ReadTo reader left reach here op at rows₀ rows next rs =
    let b = reader.board.now in
    let read = place_at reader.note.now split_bits b reader.claim left in
    Stands b reach op here read (in_turn read (split_on b (placing_of rows₀) op) at) rows₀ rows next rs

abbrev pub invariant-children-loop-s : goal.invariant-children-loop-s
invariant-children-loop-s l =
    record {
      begins : 1 ≤ l.s;
      inside : l.next ≤ 8 * length l.self.note.now;
      stands : ReadTo l.self l.left l.reach l.here l.op l.at l.fn.rows l.rows l.next (from_start l.board l.s);
    }

abbrev pub invariant-children-loop-i : goal.invariant-children-loop-i
invariant-children-loop-i l =
    record {
      begins : 1 ≤ l.s;
      inside : l.next ≤ 8 * length l.self.note.now;
      stands : ReadTo l.self l.left l.reach l.here l.op l.at l.fn.rows l.rows l.next (row l.board l.s l.i);
    }
