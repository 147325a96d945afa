-- The house note: it splits on the lowest unplaced operation, and closes wherever bit 0 is allowed. Over any problem:
--     house_tree  its tree
--     write      the walk that writes it, mark by mark, and stops at the first mark for which there is no room (22) or where all is
--                placed and may not be closed (44)
-- `write_note` and `note_out` are what the house writer answers for any bytes, and the output's bytes after it.
use Rattle.std.specs.Prelude.{ℕ, zero, suc, ◌+◌, ◌*◌, min, Bool, true, false, List, [], ◌∷◌, ◌++◌, leb, ltb, eqb, is_some, length, drop}
use Rattle.basics.specs.Numbers.{output_short, cheaper, paper_note, paper_request}
use Rattle.bits.specs.Sheet.{Field, total, bytes_for, pack}
use Rattle.sheets.specs.declared.Job.{Job}
use Rattle.sheets.specs.Answers.{Written, Wrote, Refused}
use Rattle.rules.specs.Rules.{placed}
use Rattle.placing.specs.Board.{board_of}
use Rattle.placing.specs.Closing.{Claim, Tree, Trees, whole, close, split, no_more, ◌then◌, Turn, goes, stops, and_then, goes_if, in_turn, closable, split_on}
use Rattle.placing.specs.Options.{none}
use Rattle.placing.specs.Placing.{Placing}
use Rattle.placing.specs.declared.Board.{Board}
use Rattle.notes.specs.Check.{Claimed, Claims, Unclaimed, asked}
use Rattle.notes.specs.NoteSheet.{close_mark, split_mark, head_fields, note_sheet, split_bits, max_note}

-- ---- over any problem, where `next` is the choice that a node is split on

unfoldable pub tree_if : Bool → Tree → Tree
tree_if true other = close
tree_if false other = other

module _ {Node : Type 0} (tree : Node → Tree) where
  unfoldable pub trees_of : List Node → Trees
  trees_of [] = no_more
  trees_of (n ∷ ns) = tree n then trees_of ns

unfoldable pub write_if : {A : Type 0} → Bool → Turn A → Turn A → Turn A
write_if true closed splits = closed
write_if false closed splits = splits

module _ (Node : Type 0) (closable : Node → Bool) (next : Node → ℕ) (children : Node → ℕ → List Node) where
  -- with d choices to make
  unfoldable pub house_tree : ℕ → Node → Tree
  house_tree zero n = whole
  house_tree (suc d) n = tree_if (closable n) (split (next n) (trees_of (house_tree d) (children n (next n))))

  -- x is what was written so far, and `add` writes a mark behind it
  module _ {A : Type 0} (w : ℕ) (add : List Field → A → Turn A) where
    unfoldable pub write : ℕ → Node → A → Turn A
    write zero n x = goes_if (closable n) cheaper x
    write (suc d) n x =
        write_if (closable n) (add close_mark x) (and_then (add (split_mark w (next n)) x) (in_turn (write d) (children n (next n))))

-- ---- of a board

unfoldable pub pick : Bool → ℕ → ℕ → ℕ
pick true x y = x
pick false x y = y

-- the lowest of the first n operations that is not placed; n where all are
unfoldable pub lowest : ℕ → List ℕ → ℕ
lowest zero starts = 0
lowest (suc o) starts = pick (ltb (lowest o starts) o) (lowest o starts) (pick (placed starts o) (suc o) o)

abbrev pub next_op : Board → Placing → ℕ
next_op b p = lowest b.n p.starts

abbrev pub house_tree_of : Board → Claim → Tree
house_tree_of b claim = house_tree Placing (closable b claim) (next_op b) (split_on b) b.n none

-- the house note of a claim
abbrev pub house_sheet : Board → Claim → List ℕ
house_sheet b claim = note_sheet (is_some claim) (house_tree_of b claim)

-- fields behind those so far, where `room` bits hold them all
unfoldable pub added : ℕ → List Field → List Field → Turn (List Field)
added room fs so_far = goes_if (leb (total so_far + total fs) room) output_short (so_far ++ fs)

-- the header is the first mark
unfoldable pub house_fields : Board → Claim → ℕ → Turn (List Field)
house_fields b claim room =
    and_then (added room (head_fields (is_some claim)) [])
    (write Placing (closable b claim) (next_op b) (split_on b) split_bits (added room) b.n none)

-- ---- the house writer

-- the room in bits of an output of so many bytes
abbrev pub room_of : ℕ → ℕ
room_of bytes = 8 * min bytes max_note

-- the paper at fault
unfoldable pub paper_if : Bool → ℕ
paper_if true = paper_request
paper_if false = paper_note

unfoldable pub stopped_by : ℕ → Written
stopped_by number = Refused number (paper_if (eqb number output_short))

unfoldable pub written_by : Turn (List Field) → Written
written_by (goes fs) = Wrote (bytes_for (total fs))
written_by (stops number) = stopped_by number

-- the output's bytes after it, where they were `before`: the sheet and what stood behind it, or all as it was
unfoldable pub out_by : Turn (List Field) → List ℕ → List ℕ
out_by (goes fs) before = pack fs ++ drop (bytes_for (total fs)) before
out_by (stops number) before = before

-- into an output of `room` bytes
unfoldable pub write_claim : Claimed → Job → ℕ → Written
write_claim (Claims claim) j room = written_by (house_fields (board_of j) claim (room_of room))
write_claim (Unclaimed number paper) j room = Refused number paper

unfoldable pub claim_out : Claimed → Job → List ℕ → List ℕ
claim_out (Claims claim) j before = out_by (house_fields (board_of j) claim (room_of (length before))) before
claim_out (Unclaimed number paper) j before = before

unfoldable pub write_note : List ℕ → List ℕ → ℕ → Written
write_note job plan room = write_claim (asked job plan).claimed (asked job plan).job room

unfoldable pub note_out : List ℕ → List ℕ → List ℕ → List ℕ
note_out job plan before = claim_out (asked job plan).claimed (asked job plan).job before
