-- The test of one more row, operation op at step s on instance i, against rows placed before: `fits`. Where those are live it
-- is `live` of the whole, in whatever order they were placed (`fits-live` in proofs/FitLaws). All operations placed are
-- below `reach`. `first_start` is a step before which no option of op is live (`early-dead`).
use Rattle.std.specs.Prelude.{ℕ, zero, suc, ◌+◌, max, Bool, true, false, not, ◌||◌, ◌&&◌, List, ltb, leb, eqb, set}
use Rattle.basics.specs.Counting.{all_to, any_to, only}
use Rattle.basics.specs.Tables.{cell}
use Rattle.rules.specs.Model.{row_table}
use Rattle.rules.specs.Rules.{placed, finish, precedes, apart, chains_ok}
use Rattle.placing.specs.Board.{unit, linked}
use Rattle.placing.specs.Placing.{Placing}
use Rattle.placing.specs.declared.Board.{Board}

-- ---- links: operation o, which a link joins to op

unfoldable pub in_turn_if : Bool → ℕ → ℕ → ℕ → ℕ → Bool
in_turn_if true start delay start' delay' = precedes start delay start' delay'
in_turn_if false start delay start' delay' = precedes start' delay' start delay

-- the earlier number precedes
unfoldable pub in_turn : List ℕ → List ℕ → List ℕ → ℕ → ℕ → ℕ → ℕ → Bool
in_turn delays starts insts op s delay o =
    not (placed starts o) || in_turn_if (ltb o op) (cell starts o) (unit delays o (cell insts o)) s delay

-- two in one step: a run of two is within the clock
unfoldable pub pair_ok : List ℕ → List ℕ → List ℕ → ℕ → ℕ → ℕ → ℕ → ℕ → Bool
pair_ok times starts insts wire clock s time o =
    not (eqb (cell starts o) s) || leb (time + wire + unit times o (cell insts o)) clock

unfoldable pub link_fits : List ℕ → List ℕ → List ℕ → List ℕ → List ℕ → ℕ → ℕ → ℕ → ℕ → ℕ → ℕ → ℕ → Bool
link_fits times delays near starts insts wire clock op s time delay o =
    not (linked near op o) || (in_turn delays starts insts op s delay o && pair_ok times starts insts wire clock s time o)

unfoldable pub links_fit : List ℕ → List ℕ → List ℕ → List ℕ → List ℕ → ℕ → ℕ → ℕ → ℕ → ℕ → ℕ → ℕ → Bool
links_fit times delays near starts insts wire clock reach op s time delay =
    all_to (link_fits times delays near starts insts wire clock op s time delay) reach

-- ---- operations on the same instance

unfoldable pub share_fits : List ℕ → List ℕ → List ℕ → ℕ → ℕ → ℕ → ℕ → Bool
share_fits spacings starts insts s i spacing o =
    not (eqb (cell insts o) i)
    || not (placed starts o)
    || apart s spacing (cell starts o) (unit spacings o i)

unfoldable pub shares_fit : List ℕ → List ℕ → List ℕ → ℕ → ℕ → ℕ → ℕ → Bool
shares_fit spacings starts insts reach s i spacing = all_to (share_fits spacings starts insts s i spacing) reach

-- ---- chains: only where a link joins op to one placed in the same step can a run gain a member

unfoldable pub chained_at : List ℕ → List ℕ → ℕ → ℕ → ℕ → Bool
chained_at near starts op s o = linked near op o && eqb (cell starts o) s

unfoldable pub chained : List ℕ → List ℕ → ℕ → ℕ → ℕ → Bool
chained near starts reach op s = any_to (chained_at near starts op s) reach

unfoldable pub chains_fit : List ℕ → List ℕ → ℕ → ℕ → ℕ → List ℕ → List ℕ → List ℕ → ℕ → ℕ → ℕ → Bool
chains_fit from to e wire clock times starts insts op s time =
    chains_ok from to e wire clock (set starts op s) (set (row_table (unit times) insts) op time)

-- ---- the whole: links are not asked where they are settled, because all those linked to op end before step s (`settled-links`)

abbrev pub free_at : List ℕ → List ℕ → List ℕ → List ℕ → ℕ → ℕ → ℕ → ℕ → Bool
free_at spacings lasts starts insts reach op s i = leb s (unit lasts op i) && shares_fit spacings starts insts reach s i (unit spacings op i)

abbrev pub links_hold : List ℕ → List ℕ → ℕ → ℕ → ℕ → List ℕ → List ℕ → List ℕ → List ℕ → List ℕ → ℕ → ℕ → ℕ → ℕ → Bool
links_hold from to e wire clock times delays near starts insts reach op s i =
    links_fit times delays near starts insts wire clock reach op s (unit times op i) (unit delays op i)
    && (not (chained near starts reach op s) || chains_fit from to e wire clock times starts insts op s (unit times op i))

unfoldable pub fits : List ℕ → List ℕ → ℕ → ℕ → ℕ → List ℕ → List ℕ → List ℕ → List ℕ → List ℕ → List ℕ → List ℕ → Bool → ℕ → ℕ → ℕ → ℕ → Bool
fits from to e wire clock times delays spacings lasts near starts insts settled reach op s i =
    free_at spacings lasts starts insts reach op s i && (settled || links_hold from to e wire clock times delays near starts insts reach op s i)

-- ---- the first start: the latest end of those before op that are linked to it, at least 1

-- the step in which operation o ends (it is not before its start), 0 where it is not placed
unfoldable pub end_of : List ℕ → List ℕ → List ℕ → ℕ → ℕ
end_of delays starts insts o = only (placed starts o) (max (cell starts o) (finish (cell starts o) (unit delays o (cell insts o))))

unfoldable pub first_start : List ℕ → List ℕ → List ℕ → List ℕ → ℕ → ℕ → ℕ
first_start delays near starts insts op zero = 1
first_start delays near starts insts op (suc o) =
    max (first_start delays near starts insts op o) (only (linked near op o) (end_of delays starts insts o))

-- ---- of a board and its rows

abbrev pub fits_on : Board → Placing → Bool → ℕ → ℕ → ℕ → ℕ → Bool
fits_on b p settled reach op s i =
    fits b.from b.to b.e b.wire b.clock b.times b.delays b.spacings b.lasts b.near p.starts p.insts settled reach op s i

abbrev pub free_on : Board → Placing → ℕ → ℕ → ℕ → ℕ → Bool
free_on b p reach op s i = free_at b.spacings b.lasts p.starts p.insts reach op s i

abbrev pub links_on : Board → Placing → ℕ → ℕ → ℕ → ℕ → Bool
links_on b p reach op s i = links_hold b.from b.to b.e b.wire b.clock b.times b.delays b.near p.starts p.insts reach op s i

abbrev pub first_on : Board → Placing → ℕ → ℕ
first_on b p op = first_start b.delays b.near p.starts p.insts op op
