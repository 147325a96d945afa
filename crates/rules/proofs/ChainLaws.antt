-- Laws of what runs bring: a raised cell, one link more, and a bound.
use Prim.Native.Nat.{ℕ, ◌+◌, ◌*◌, ◌<◌, ◌≤◌, max}
use mathlib.Core.Path.{◌≡◌, refl, sym, ◌∙◌}
use mathlib.Core.Bool.{Bool, true, false}
use mathlib.Core.List.{List}
use native.Mathlib.Decide.{ℕ_discrete, dec_lt}
use native.Mathlib.Nat.{max-le}
use native.Mathlib.Numerals.{add-one}
use native.Mathlib.Omega.{arith}
use borrow.Author.Tests.{le-leb, lt-leb}
use lib.Dec.{leb}
use lib.ListN.{length, replicate, set, length-set}
use lib.Seq.{set_out, get_or-set_same, get_or-set_other}
use Rattle.basics.specs.Counting.{all_to}
use Rattle.basics.specs.Tables.{cell}
use Rattle.basics.proofs.CountLaws.{all_to-more, all_to-not, both-and}
use Rattle.basics.proofs.TableLaws.{cell-replicate}
use Rattle.sheets.specs.Limits.{op_cells}
use Rattle.rules.specs.Rules.{same_step, carried, raised, raised_if, brings, brought_by, run_ok, run_ok_at, chains_ok, link_most, Bounded}

-- ---- a raised cell

pub raised-within : (table : List ℕ) (b x m : ℕ) → m ≡ max (cell table b) x → set table b m ≡ raised table b x
unfolding raised
raised-within table b x m e = rw e

pub raised-out : (table : List ℕ) (b x : ℕ) → length table ≤ b → table ≡ raised table b x
unfolding raised
raised-out table b x h = sym (set_out table b _ h)

pub ruleset raised_laws = (raised-within, raised-out)

pub raised-length : (table : List ℕ) (b x : ℕ) → length (raised table b x) ≡ length table
unfolding raised
raised-length table b x = length-set table b (max (cell table b) x)

pub raised-here : (table : List ℕ) (b x : ℕ) → b < length table → cell (raised table b x) b ≡ max (cell table b) x
unfolding raised
raised-here table b x h = get_or-set_same table b (max (cell table b) x) 0 h

pub raised-there : (table : List ℕ) (b x o : ℕ) → (o ≡ b → ⊥) → cell (raised table b x) o ≡ cell table o
unfolding raised
raised-there table b x o h = get_or-set_other table b o (max (cell table b) x) 0 h

pub raised-most : (table : List ℕ) (b x k : ℕ) → ((o : ℕ) → cell table o ≤ k) → x ≤ k → (o : ℕ) → cell (raised table b x) o ≤ k
raised-most table b x k h l o =
    elim (ℕ_discrete o b) [
      | yes e ↦
          elim (dec_lt b (length table)) [
            | yes q ↦ rw (e, raised-here table b x q) (max-le (h b) l)
            | no q ↦ rw (← raised-out table b x (omega arith)) (h o)
          ]
      | no e ↦ rw (raised-there table b x o e) (h o)
    ]

raised_if-length : (test : Bool) (table : List ℕ) (b x : ℕ) → length (raised_if test table b x) ≡ length table
unfolding raised_if
raised_if-length true table b x = raised-length table b x
raised_if-length false table b x = refl

-- ---- one link more

module _ (from to : List ℕ) (wire : ℕ) (starts times : List ℕ) where
  pub brings-on : (brought : List ℕ) (l : ℕ) → same_step from to starts l ≡ true
      → brings from to wire starts times brought l ≡ raised brought (cell to l) (carried from wire times brought l)
  unfolding brings raised_if
  brings-on brought l h = rw h

  pub brings-off : (brought : List ℕ) (l : ℕ) → same_step from to starts l ≡ false → brings from to wire starts times brought l ≡ brought
  unfolding brings raised_if
  brings-off brought l h = rw h

  pub brings-length : (brought : List ℕ) (l : ℕ) → length (brings from to wire starts times brought l) ≡ length brought
  unfolding brings
  brings-length brought l = raised_if-length (same_step from to starts l) brought (cell to l) (carried from wire times brought l)

-- ---- one link after another: what stands where the first l have been tested, and what has been brought

pub record Tested (from to : List ℕ) (wire clock : ℕ) (starts times brought : List ℕ) (l : ℕ) : Type 0 where
  pub counted : length brought ≡ op_cells
  pub brings : brought ≡ brought_by from to wire starts times l
  pub bounded : Bounded brought l
  pub kept : all_to (run_ok_at from to wire clock starts times) l ≡ true

module _ (from to : List ℕ) (wire clock : ℕ) (starts times : List ℕ) where
  pub tested-none : Tested from to wire clock starts times (replicate op_cells 0) 0
  unfolding brought_by all_to
  tested-none = record { counted = refl; brings = refl; bounded = λ o. omega (arith, cell-replicate op_cells o); kept = refl }

  module _ (brought : List ℕ) (l : ℕ) (t : Tested from to wire clock starts times brought l) where
    -- link l's test, by what has been brought
    one-more : (r : Bool) → r ≡ run_ok from to wire clock starts times brought l → r ≡ true
        → all_to (run_ok_at from to wire clock starts times) (l + 1) ≡ true
    one-more r e h = rw all_to-more (both-and _ _ t.kept (rw (← t.brings) (sym e ∙ h)))

    brought-more : (after : List ℕ) → after ≡ brings from to wire starts times brought l → after ≡ brought_by from to wire starts times (l + 1)
    unfolding brought_by
    brought-more after e = rw (add-one, ← t.brings) e

    -- a link that joins no two in one step brings nothing, and no run ends with it
    pub tested-off : same_step from to starts l ≡ false → Tested from to wire clock starts times brought (l + 1)
    unfolding run_ok
    tested-off h =
        record {
          counted = t.counted;
          brings = brought-more brought (sym (brings-off from to wire starts times brought l h));
          bounded = λ o. omega (arith, t.bounded o);
          kept = one-more true (rw h) refl;
        }

    module _ (x b : ℕ) (same : same_step from to starts l ≡ true) (carries : x ≡ carried from wire times brought l) (there : b ≡ cell to l) where
      run-is : leb (x + cell times b) clock ≡ run_ok from to wire clock starts times brought l
      unfolding run_ok
      run-is = rw (same, carries, there)

      pub tested-on : (after : List ℕ) → x ≤ link_most * (l + 1) → x + cell times b ≤ clock → after ≡ raised brought b x
          → Tested from to wire clock starts times after (l + 1)
      tested-on after most fits e =
          let on : after ≡ brings from to wire starts times brought l = e ∙ (rw (carries, there) (sym (brings-on from to wire starts times brought l same))) in
          record {
            counted = rw e (raised-length brought b x ∙ t.counted);
            brings = brought-more after on;
            bounded = rw e (raised-most brought b x (link_most * (l + 1)) (λ o. omega (arith, t.bounded o)) most);
            kept = one-more _ run-is (le-leb (x + cell times b) clock fits);
          }

      -- a run that is too long
      pub tested-breaks : (e : ℕ) → l < e → clock < x + cell times b → false ≡ chains_ok from to e wire clock starts times
      unfolding chains_ok
      tested-breaks e q long =
          sym (all_to-not (run_ok_at from to wire clock starts times) e l q (rw (← t.brings) (sym run-is ∙ lt-leb (x + cell times b) clock long)))

  pub tested-all : (brought : List ℕ) (e : ℕ) → Tested from to wire clock starts times brought e → true ≡ chains_ok from to e wire clock starts times
  unfolding chains_ok
  tested-all brought e t = sym t.kept

pub ruleset tested_laws = (tested-breaks, tested-all)
