-- The rules on rows, precedence, resource and chain. `starts` and `insts` hold each operation's start and instance, and
-- `times`, `delays` and `spacings` what it takes there; start 0 is not placed. The rule on rows is asked of each operation
-- that is to be placed, the others speak of those that are. Judge, walk and notes share them.
use Rattle.std.specs.Prelude.{ℕ, zero, suc, ◌+◌, ◌-◌, ◌*◌, ◌^◌, ◌≤◌, max, Bool, true, false, not, ◌||◌, ◌&&◌, List, ltb, leb, eqb, set, replicate}
use Rattle.basics.specs.Counting.{all_to}
use Rattle.basics.specs.Faults.{◌or_else◌, fault_unless, first}
use Rattle.basics.specs.Numbers.{row_instance, row_kind, row_unselected, row_step}
use Rattle.basics.specs.Tables.{cell}
use Rattle.sheets.specs.Limits.{op_cells}
use Rattle.rules.specs.Selection.{selected}

-- the step in which an operation ends
unfoldable pub finish : ℕ → ℕ → ℕ
finish start delay = start + delay - 1

-- ---- row: instance below K, able to do the kind, selected; start at least 1, finish at most T

unfoldable pub row_fault : ℕ → ℕ → ℕ → ℕ → Bool → ℕ → ℕ → ℕ
row_fault k t inst time chosen start delay =
    fault_unless (ltb inst k) row_instance or_else
    fault_unless (ltb 0 time) row_kind or_else
    fault_unless chosen row_unselected or_else
    fault_unless (leb 1 start && leb (finish start delay) t) row_step

-- the row of operation o, where `times` and `delays` are those of each on its instance
unfoldable pub row_fault_at : ℕ → ℕ → List ℕ → List ℕ → List ℕ → List ℕ → List ℕ → ℕ → ℕ
row_fault_at k t starts insts times delays selection o =
    row_fault k t (cell insts o) (cell times o) (selected selection (cell insts o)) (cell starts o) (cell delays o)

-- n rows
unfoldable pub rows_fault : ℕ → ℕ → ℕ → List ℕ → List ℕ → List ℕ → List ℕ → List ℕ → ℕ
rows_fault n k t starts insts times delays selection = first (row_fault_at k t starts insts times delays selection) n

-- ---- both ends of a link are placed

abbrev pub placed : List ℕ → ℕ → Bool
placed starts o = ltb 0 (cell starts o)

unfoldable pub joins : List ℕ → List ℕ → List ℕ → ℕ → Bool
joins from to starts l = placed starts (cell from l) && placed starts (cell to l)

-- ---- precedence: of a link (a, b), b starts behind a's finish (at a's start + delay or later), or both start together and
-- both delays are 1

unfoldable pub precedes : ℕ → ℕ → ℕ → ℕ → Bool
precedes start delay start' delay' = ltb (finish start delay) start' || (eqb start start' && eqb delay 1 && eqb delay' 1)

unfoldable pub link_ok : List ℕ → List ℕ → List ℕ → List ℕ → ℕ → Bool
link_ok from to starts delays l =
    not (joins from to starts l)
    || precedes (cell starts (cell from l)) (cell delays (cell from l)) (cell starts (cell to l)) (cell delays (cell to l))

unfoldable pub precedence_ok : List ℕ → List ℕ → ℕ → List ℕ → List ℕ → Bool
precedence_ok from to e starts delays = all_to (link_ok from to starts delays) e

-- ---- resource: two operations on one instance have different starts, and the later start exceeds the earlier by at least the
-- spacing of the earlier operation (where each holds its instance for a step or more, no two hold one in one step:
-- `apart-exactly` in proofs/HeldLaws)

-- an operation of this start and spacing starts before step `later`, and by its spacing or more
abbrev pub spaced : ℕ → ℕ → ℕ → Bool
spaced start spacing later = ltb start later && leb (start + spacing) later

-- of two operations, whichever of them starts earlier
unfoldable pub apart : ℕ → ℕ → ℕ → ℕ → Bool
apart start spacing start' spacing' = spaced start spacing start' || spaced start' spacing' start

unfoldable pub share_ok : List ℕ → List ℕ → List ℕ → ℕ → ℕ → Bool
share_ok starts insts spacings b a =
    not (eqb (cell insts a) (cell insts b))
    || not (placed starts a && placed starts b)
    || apart (cell starts a) (cell spacings a) (cell starts b) (cell spacings b)

-- operation b with each before it
unfoldable pub beside_ok : List ℕ → List ℕ → List ℕ → ℕ → Bool
beside_ok starts insts spacings b = all_to (share_ok starts insts spacings b) b

unfoldable pub resource_ok : ℕ → List ℕ → List ℕ → List ℕ → Bool
resource_ok n starts insts spacings = all_to (beside_ok starts insts spacings) n

-- ---- chain: the times of a run within a step, with one wire a link, total at most the clock

unfoldable pub same_step : List ℕ → List ℕ → List ℕ → ℕ → Bool
same_step from to starts l = joins from to starts l && eqb (cell starts (cell from l)) (cell starts (cell to l))

-- link l's first operation carries on what was brought to it, its own time and a wire
unfoldable pub carried : List ℕ → ℕ → List ℕ → List ℕ → ℕ → ℕ
carried from wire times brought l = cell brought (cell from l) + cell times (cell from l) + wire

-- the table with x in cell b, where less stands there
unfoldable pub raised : List ℕ → ℕ → ℕ → List ℕ
raised table b x = set table b (max (cell table b) x)

unfoldable pub raised_if : Bool → List ℕ → ℕ → ℕ → List ℕ
raised_if true table b x = raised table b x
raised_if false table b x = table

-- link l brings that to its second operation, where it joins two in one step
unfoldable pub brings : List ℕ → List ℕ → ℕ → List ℕ → List ℕ → List ℕ → ℕ → List ℕ
brings from to wire starts times brought l = raised_if (same_step from to starts l) brought (cell to l) (carried from wire times brought l)

-- the most that runs over links 0 to l - 1 bring to each operation, its own time not counted
unfoldable pub brought_by : List ℕ → List ℕ → ℕ → List ℕ → List ℕ → ℕ → List ℕ
brought_by from to wire starts times zero = replicate op_cells 0
brought_by from to wire starts times (suc l) = brings from to wire starts times (brought_by from to wire starts times l) l

-- the longest run that ends with link l, where the runs before it have brought so much
unfoldable pub run_ok : List ℕ → List ℕ → ℕ → ℕ → List ℕ → List ℕ → List ℕ → ℕ → Bool
run_ok from to wire clock starts times brought l =
    not (same_step from to starts l) || leb (carried from wire times brought l + cell times (cell to l)) clock

abbrev pub run_ok_at : List ℕ → List ℕ → ℕ → ℕ → List ℕ → List ℕ → ℕ → Bool
run_ok_at from to wire clock starts times l = run_ok from to wire clock starts times (brought_by from to wire starts times l) l

unfoldable pub chains_ok : List ℕ → List ℕ → ℕ → ℕ → ℕ → List ℕ → List ℕ → Bool
chains_ok from to e wire clock starts times = all_to (run_ok_at from to wire clock starts times) e

-- a bound on what l links can bring, so that sums of it fit: a time and a wire for each, 16 bits wide
abbrev pub link_most : ℕ
link_most = 2 * 2 ^ 16

abbrev pub Bounded : List ℕ → ℕ → Type 0
Bounded brought l = (o : ℕ) → cell brought o ≤ link_most * l
