-- The dossier: a header with the lengths of job, plan and note, and then the three papers. `dossier_fault` is its own first fault,
-- `check_dossier` the answer for any bytes. `dossier_sheet` is the dossier of three papers.
use Rattle.std.specs.Prelude.{ℕ, zero, suc, ◌+◌, ◌-◌, ◌*◌, ◌/◌, List, [], ◌∷◌, ◌++◌, leb, eqb, length, take, drop}
use Rattle.basics.specs.Faults.{◌or_else◌, fault_unless}
use Rattle.basics.specs.Numbers.{fill_broken, lengths_differ, dossier_long, paper_dossier}
use Rattle.bits.specs.Bits.{field}
use Rattle.bits.specs.Sheet.{Field, of, pack}
use Rattle.sheets.specs.Groups.{runs_out, form_fault}
use Rattle.sheets.specs.Limits.{form_bits}
use Rattle.notes.specs.Check.{Checked, Refused, check_note}

abbrev pub dossier_form : ℕ
dossier_form = 4

-- zero bits behind the form
abbrev pub zero_bits : ℕ
zero_bits = 4

-- a paper's length
abbrev pub length_bits : ℕ
length_bits = 16

-- where the lengths begin, and where they end
abbrev pub lengths_at : ℕ
lengths_at = form_bits + zero_bits

abbrev pub dossier_head : ℕ
dossier_head = lengths_at + 3 * length_bits

-- bytes
abbrev pub max_dossier : ℕ
max_dossier = 65536

-- ---- the papers: where each one starts, in bytes, and where the last one ends

-- the length of paper i: 0 job, 1 plan, 2 note
abbrev pub length_in : List ℕ → ℕ → ℕ
length_in s i = field s (lengths_at + length_bits * i) length_bits

abbrev pub job_at : ℕ
job_at = dossier_head / 8

abbrev pub plan_at : List ℕ → ℕ
plan_at s = job_at + length_in s 0

abbrev pub note_at : List ℕ → ℕ
note_at s = plan_at s + length_in s 1

abbrev pub note_end : List ℕ → ℕ
note_end s = note_at s + length_in s 2

-- bytes a to e - 1
abbrev pub part : List ℕ → ℕ → ℕ → List ℕ
part s a e = take (e - a) (drop a s)

abbrev pub job_part : List ℕ → List ℕ
job_part s = part s job_at (plan_at s)

abbrev pub plan_part : List ℕ → List ℕ
plan_part s = part s (plan_at s) (note_at s)

abbrev pub note_part : List ℕ → List ℕ
note_part s = part s (note_at s) (note_end s)

-- ---- its first fault

unfoldable pub dossier_fault : List ℕ → ℕ
dossier_fault s =
    fault_unless (leb (length s) max_dossier) dossier_long or_else
    runs_out (length s) dossier_head or_else
    form_fault s dossier_form or_else
    fault_unless (eqb (field s form_bits zero_bits) 0) fill_broken or_else
    fault_unless (eqb (note_end s) (length s)) lengths_differ

-- ---- the check: a plan of length 0 is none

unfoldable pub if_sound : ℕ → Checked → Checked
if_sound zero next = next
if_sound (suc number) next = Refused (suc number) paper_dossier

unfoldable pub check_dossier : List ℕ → Checked
check_dossier s = if_sound (dossier_fault s) (check_note (job_part s) (plan_part s) (note_part s))

-- ---- the dossier of three papers

abbrev pub head_fields : ℕ → ℕ → ℕ → List Field
head_fields job plan note =
    of form_bits dossier_form ∷ of zero_bits 0 ∷ of length_bits job ∷ of length_bits plan ∷ of length_bits note ∷ []

unfoldable pub dossier_sheet : List ℕ → List ℕ → List ℕ → List ℕ
dossier_sheet job plan note = pack (head_fields (length job) (length plan) (length note)) ++ (job ++ plan ++ note)
