-- Reading the tree of a note, over any problem: `place` reads a mark and then the children, each again a place, from a bit of the
-- note on, and goes on at the bit behind them or stops with the number of a refusal.
use Rattle.std.specs.Prelude.{ℕ, zero, suc, ◌+◌, Result, Ok, Err, Bool, true, false, not, ◌&&◌, List, eqb, length}
use Rattle.basics.specs.Faults.{◌or_else◌, fault_unless, number_of}
use Rattle.basics.specs.declared.refusals.Fault.{Fault}
use Rattle.basics.specs.Numbers.{split_broken, close_broken, cheaper}
use Rattle.bits.specs.Bits.{field}
use Rattle.sheets.specs.Groups.{runs_out}
use Rattle.placing.specs.Closing.{Claim, Turn, goes, stops, goes_if, in_turn, closable, choice, split_on}
use Rattle.placing.specs.Placing.{Placing}
use Rattle.placing.specs.declared.Board.{Board}
use Rattle.notes.specs.NoteSheet.{mark_bits}

-- ---- the mark at a bit of the note

abbrev pub splits : List ℕ → ℕ → Bool
splits note at = eqb (field note at mark_bits) 1

-- it is there, and closes
abbrev pub closes : List ℕ → ℕ → Bool
closes note at = eqb (runs_out (length note) (at + mark_bits)) 0 && not (splits note at)

module _ (note : List ℕ) (w : ℕ) where
  -- the operation that it splits on, and the bit behind it
  abbrev pub split_op : ℕ → ℕ
  split_op at = field note (at + mark_bits) w

  abbrev pub split_end : ℕ → ℕ
  split_end at = at + mark_bits + w

  -- the fault of a mark that splits, or closes, where it may close and split on what `free` says
  unfoldable pub fault_if : Bool → Bool → (ℕ → Bool) → ℕ → ℕ
  fault_if true may free at = runs_out (length note) (split_end at) or_else fault_unless (free (split_op at)) split_broken
  fault_if false may free at = fault_unless may close_broken

  unfoldable pub mark_fault : Bool → (ℕ → Bool) → ℕ → ℕ
  mark_fault may free at = runs_out (length note) (at + mark_bits) or_else fault_if (splits note at) may free at

-- ---- a place

unfoldable pub unless_fault : ℕ → Turn ℕ → Turn ℕ
unless_fault zero next = next
unless_fault (suc number) next = stops (suc number)

unfoldable pub marked : Bool → Turn ℕ → Turn ℕ → Turn ℕ
marked true children closed = children
marked false children closed = closed

module _ (note : List ℕ) (w : ℕ) (Node : Type 0) (closable : Node → Bool) (choice : Node → ℕ → Bool) (children : Node → ℕ → List Node) where
  -- with d choices to make
  unfoldable pub place : ℕ → Node → ℕ → Turn ℕ
  place zero n at = goes_if (closable n) cheaper at
  place (suc d) n at =
      unless_fault (mark_fault note w (closable n) (choice n) at)
      (marked (splits note at) (in_turn (place d) (children n (split_op note w at)) (split_end note w at)) (goes (at + mark_bits)))

-- ---- a place of a board, with d operations to place

abbrev pub place_at : List ℕ → ℕ → Board → Claim → ℕ → Placing → ℕ → Turn ℕ
place_at note w b claim d p at = place note w Placing (closable b claim) (choice b) (split_on b) d p at

-- the code's result
abbrev pub turn_of : Result ℕ Fault → Turn ℕ
turn_of (Ok at) = goes at
turn_of (Err fault) = stops (number_of fault)

-- closed before bit `at`, or refused by the fault where that is not allowed: of a `Fault`, the result of `goes_if` (`closed-turn`)
unfoldable pub closed_by : {F : Type 0} → Bool → F → ℕ → Result ℕ F
closed_by true fault at = Ok at
closed_by false fault at = Err fault
