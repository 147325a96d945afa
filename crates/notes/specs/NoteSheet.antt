-- The note sheet: form, verdict, and the marks of a tree. A place that is closed is bit 0; a split is bit 1 with the number of its
-- operation in w bits, and then its children's marks. `note_sheet` is the note of a tree.
use Rattle.std.specs.Prelude.{ℕ, ◌+◌, Bool, List, [], ◌∷◌, ◌++◌}
use Rattle.basics.specs.Counting.{only}
use Rattle.bits.specs.Sheet.{Field, of, pack}
use Rattle.sheets.specs.Limits.{form_bits, op_bits}
use Rattle.placing.specs.Closing.{Tree, Trees, whole, close, split, no_more, ◌then◌}

abbrev pub note_form : ℕ
note_form = 3

abbrev pub verdict_bits : ℕ
verdict_bits = 1

-- the header's end
abbrev pub note_head : ℕ
note_head = form_bits + verdict_bits

-- the bit that every mark begins with
abbrev pub mark_bits : ℕ
mark_bits = 1

-- the number of a split's operation
abbrev pub split_bits : ℕ
split_bits = op_bits

-- bytes
abbrev pub max_note : ℕ
max_note = 60000

-- ---- marks

abbrev pub close_mark : List Field
close_mark = of mark_bits 0 ∷ []

abbrev pub split_mark : ℕ → ℕ → List Field
split_mark w o = of mark_bits 1 ∷ of w o ∷ []

unfoldable mutual
  pub marks : ℕ → Tree → List Field
  marks w whole = []
  marks w close = close_mark
  marks w (split o ts) = split_mark w o ++ marks_of w ts

  pub marks_of : ℕ → Trees → List Field
  marks_of w no_more = []
  marks_of w (t then ts) = marks w t ++ marks_of w ts

-- ---- the sheet: verdict 1 is a plan, 0 none

abbrev pub head_fields : Bool → List Field
head_fields plan = of form_bits note_form ∷ of verdict_bits (only plan 1) ∷ []

abbrev pub note_fields : ℕ → Bool → Tree → List Field
note_fields w plan tree = head_fields plan ++ marks w tree

unfoldable pub note_sheet : Bool → Tree → List ℕ
note_sheet plan tree = pack (note_fields split_bits plan tree)
