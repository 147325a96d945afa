-- A mark is written as the definition writes it, and the loops stand where it does; each option is a child where it is live, and nothing
-- else. A child is written with its row placed, and the row is taken back; one that is closed at once needs no row.
use Prim.Native.Nat.{ℕ, ◌+◌, ◌-◌, ◌*◌, ◌≤◌}
use mathlib.Core.List.{List}
use mathlib.Core.Path.{◌≡◌}
use lib.ListN.{length}
use Rattle.placing.specs.Closing.{in_turn, split_on}
use Rattle.placing.specs.Options.{Option}
use Rattle.placing.specs.Ready.{placing_of}
use Rattle.placing.specs.declared.rows.Rows.{Rows}
use Rattle.placing.proofs.RowLaws.{row, from_start}
use Rattle.placing.proofs.TurnLaws.{Stands}
use Rattle.notes.specs.NoteSheet.{split_bits}
use Rattle.house.specs.Writing.{Draft, draft, write_at}
use Rattle.house.specs.declared.places.Writer.{Writer}
use Rattle.house.proofs.places.Writer.+child_children_place.Given as goal

abbrev pub decreases-child : goal.decreases-child
decreases-child l = 3 * (l.self.now.board.now.n - (l.op + 1)) + 1

abbrev pub decreases-children : goal.decreases-children
decreases-children l = 3 * (l.self.now.board.now.n - (l.op + 1)) + 2

abbrev pub decreases-place : goal.decreases-place
decreases-place l = 3 * (l.self.now.board.now.n - l.op)

-- where the writer of a split's children stands, from a draft on
abbrev pub WroteTo : Writer → ℕ → ℕ → Draft → Rows → Rows → Draft → List Option → Type 0
WroteTo writer here op begun rows₀ rows x rs =
    let b = writer.board.now in
    let write = write_at writer.room split_bits b writer.claim (b.n - (op + 1)) in
    Stands b op op here write (in_turn write (split_on b (placing_of rows₀) op) begun) rows₀ rows x rs

abbrev pub invariant-children-loop-s : goal.invariant-children-loop-s
invariant-children-loop-s l =
    record {
      begins : 1 ≤ l.s;
      inside : l.next ≤ l.self.room;
      size : length l.sheet ≡ length l.fn.sheet;
      stands : WroteTo l.self l.here l.op (draft l.fn.sheet l.at) l.fn.rows l.rows (draft l.sheet l.next) (from_start l.board l.s);
    }

abbrev pub invariant-children-loop-i : goal.invariant-children-loop-i
invariant-children-loop-i l =
    record {
      begins : 1 ≤ l.s;
      inside : l.next ≤ l.self.room;
      size : length l.sheet ≡ length l.fn.sheet;
      stands : WroteTo l.self l.here l.op (draft l.fn.sheet l.at) l.fn.rows l.rows (draft l.sheet l.next) (row l.board l.s l.i);
    }
