-- What the writers of a place promise: `Drafts`, of the walk of House.antt into bytes. A draft is the bytes so far and the bit
-- behind them.
use Rattle.std.specs.Prelude.{ℕ, ◌+◌, ◌≤◌, ◌<◌, ◌≡◌, Result, Ok, List, is_some, leb, length}
use Rattle.basics.specs.declared.refusals.Fault.{Fault}
use Rattle.basics.specs.Numbers.{output_short}
use Rattle.basics.specs.Tables.{cell}
use Rattle.bits.specs.Sheet.{Field, total, put_all}
use Rattle.placing.specs.Closing.{Claim, Turn, goes, stops, and_then, goes_if, closable, split_on}
use Rattle.placing.specs.Options.{none}
use Rattle.placing.specs.Placing.{Placing}
use Rattle.placing.specs.declared.Board.{Board}
use Rattle.notes.specs.NoteSheet.{head_fields, split_bits}
use Rattle.notes.specs.Reading.{turn_of}
use Rattle.house.specs.House.{next_op, write}

pub record Draft : Type 0 where
  pub bytes : List ℕ
  pub at : ℕ

abbrev pub draft : List ℕ → ℕ → Draft
draft bytes at = record { bytes = bytes; at = at }

-- fields behind those so far, where `room` bits hold them all
unfoldable pub drafted : ℕ → List Field → Draft → Turn Draft
drafted room fs x = goes_if (leb (x.at + total fs) room) output_short (draft (put_all x.bytes x.at fs) (x.at + total fs))

abbrev pub write_at : ℕ → ℕ → Board → Claim → ℕ → Placing → Draft → Turn Draft
write_at room w b claim d p x = write Placing (closable b claim) (next_op b) (split_on b) w (drafted room) d p x

-- header and tree from the first bit of a sheet on
unfoldable pub draft_from : Board → Claim → ℕ → List ℕ → Turn Draft
draft_from b claim room sheet = and_then (drafted room (head_fields (is_some claim)) (draft sheet 0)) (write_at room split_bits b claim b.n none)

-- as the code answers
abbrev pub draft_end : Turn Draft → Turn ℕ
draft_end (goes x) = goes x.at
draft_end (stops number) = stops number

-- operations are placed in number order
pub record InOrder (p : Placing) (op : ℕ) : Type 0 where
  pub below : (o : ℕ) → o < op → 1 ≤ cell p.starts o

-- where the definition's turn is t: the answer, the bytes where it goes on, and its end in the room
pub record Drafts (room : ℕ) (t : Turn Draft) (r : Result ℕ Fault) (sheet sheet' : List ℕ) : Type 0 where
  pub answers : turn_of r ≡ draft_end t
  pub bytes : (x : Draft) → t ≡ goes x → sheet' ≡ x.bytes
  pub inside : (end : ℕ) → r ≡ Ok end → end ≤ room
  pub size : length sheet' ≡ length sheet
