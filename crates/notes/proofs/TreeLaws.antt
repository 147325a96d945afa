-- Reading a tree, over any problem. What is read to its end is a tree that closes the node, and its marks stand there (`place-tree`);
-- every tree that closes the node is read to its end where its marks stand (`tree-place`). What stops has a number (`place-stops`). The
-- marks of a tree that closes a node fit where the choices do (`closes-fit`).
use Prim.Native.Nat.{ℕ, zero, suc, ◌+◌, ◌*◌, ◌^◌, ◌≤◌, ◌<◌}
use mathlib.Core.Path.{◌≡◌, refl, sym, ap, subst, ◌∙◌}
use mathlib.Core.Bool.{Bool, true, false}
use mathlib.Core.List.{List, [], ◌∷◌, ◌++◌}
use native.Mathlib.Nat.{add-zero}
use native.Mathlib.Omega.{arith}
use borrow.Author.Tests.{eqb-true, eqb-false, eq-eqb, ne_eqb}
use lib.Dec.{lit<}
use lib.ListN.{length}
use Rattle.basics.specs.Numbers.{split_broken, close_broken, cheaper}
use Rattle.basics.proofs.FaultLaws.{or_else-none, none-or_else, unless-none, none-unless}
use Rattle.bits.specs.Bits.{field}
use Rattle.bits.specs.Sheet.{Field, total}
use Rattle.bits.proofs.FieldLaws.{field_lt}
use Rattle.bits.proofs.SheetLaws.{Fit, Holds, fit_append, holds-append, append-holds, total-append}
use Rattle.sheets.specs.Groups.{runs_out}
use Rattle.sheets.proofs.GroupLaws.{whole-none, none-whole}
use Rattle.placing.specs.Closing.{Tree, Trees, whole, close, split, no_more, ◌then◌, Each, Closes, Turn, goes, stops, and_then, goes_if, in_turn}
use Rattle.notes.specs.NoteSheet.{mark_bits, marks, marks_of}
use Rattle.notes.specs.Reading.{splits, split_op, split_end, fault_if, mark_fault, unless_fault, marked, place}

-- ---- turns that go on

abbrev end_of : Turn ℕ → ℕ
end_of (goes at) = at
end_of (stops number) = 0

not_stopped : {A : Type 0} (number end : ℕ) → ◌≡◌ {A = Turn ℕ} (stops number) (goes end) → A
not_stopped number end e = absurd (cc)

then-goes : (t : Turn ℕ) (f : ℕ → Turn ℕ) (end : ℕ) → and_then t f ≡ goes end → (mid : ℕ) × (t ≡ goes mid) × (f mid ≡ goes end)
unfolding and_then
then-goes (goes mid) f end e = (mid, refl, e)
then-goes (stops number) f end e = not_stopped number end e

if-goes : (test : Bool) (number at end : ℕ) → goes_if test number at ≡ goes end → (test ≡ true) × (at ≡ end)
unfolding goes_if
if-goes true number at end e = (refl, ap end_of e)
if-goes false number at end e = not_stopped number end e

if-stops : (test : Bool) (number at k : ℕ) → goes_if test number at ≡ stops k → k ≡ number
unfolding goes_if
if-stops true number at k e = not_stopped k at (sym e)
if-stops false number at k e = cc

module _ (note : List ℕ) (w : ℕ) where
  unless-stops : (fault : ℕ) (next : Turn ℕ) (k : ℕ) → unless_fault fault next ≡ stops k → k ≡ 0 → next ≡ stops k
  unfolding unless_fault
  unless-stops zero next k e z = e
  unless-stops (suc number) next k e z = absurd (let q : suc number ≡ k = cc in omega arith)

  unless-goes : (fault : ℕ) (next : Turn ℕ) (end : ℕ) → unless_fault fault next ≡ goes end → (fault ≡ 0) × (next ≡ goes end)
  unfolding unless_fault
  unless-goes zero next end e = (refl, e)
  unless-goes (suc number) next end e = not_stopped (suc number) end e

  -- a mark that closes where it may, and one that splits on what it may
  close-goes : (may : Bool) (free : ℕ → Bool) (at : ℕ) (kids : Turn ℕ) → field note at mark_bits ≡ 0 → at + mark_bits ≤ 8 * length note → may ≡ true
      → unless_fault (mark_fault note w may free at) (marked (splits note at) kids (goes (at + mark_bits))) ≡ goes (at + mark_bits)
  unfolding unless_fault mark_fault fault_if marked
  close-goes may free at kids v l h =
      rw (ne_eqb (field note at mark_bits) 1 (λ e. omega arith), none-or_else _ _ (whole-none (length note) (at + mark_bits) l) (none-unless may close_broken h))

  split_goes : (may : Bool) (free : ℕ → Bool) (at o : ℕ) (kids : Turn ℕ) → field note at mark_bits ≡ 1 → split_op note w at ≡ o
      → split_end note w at ≤ 8 * length note → free o ≡ true
      → unless_fault (mark_fault note w may free at) (marked (splits note at) kids (goes (at + mark_bits))) ≡ kids
  unfolding unless_fault mark_fault fault_if marked
  split_goes may free at o kids v e l h =
      let bit = whole-none (length note) (at + mark_bits) (omega arith) in
      let op = whole-none (length note) (split_end note w at) l in
      rw (eq-eqb (field note at mark_bits) 1 v, none-or_else _ _ bit (none-or_else _ _ op (none-unless (free (split_op note w at)) split_broken (rw e h))))

  module _ (Node : Type 0) (closable : Node → Bool) (choice : Node → ℕ → Bool) (children : Node → ℕ → List Node) where
    -- a tree that closes a node with d choices to make, and its marks stand from bit `at` to bit `end`
    pub record TreeAt (d : ℕ) (n : Node) (at end : ℕ) : Type 0 where
      pub tree : Tree
      pub closes : Closes Node closable choice children d n tree
      pub holds : Holds note at (marks w tree)
      pub fit : Fit (marks w tree)
      pub ends : end ≡ at + total (marks w tree)
      pub within : at ≤ 8 * length note → end ≤ 8 * length note

    -- such trees, one after another
    record TreesAt (d : ℕ) (ns : List Node) (at end : ℕ) : Type 0 where
      trees : Trees
      closes : Each (Closes Node closable choice children d) ns trees
      holds : Holds note at (marks_of w trees)
      fit : Fit (marks_of w trees)
      ends : end ≡ at + total (marks_of w trees)
      within : at ≤ 8 * length note → end ≤ 8 * length note

    abbrev place_here : ℕ → Node → ℕ → Turn ℕ
    place_here d n at = place note w Node closable choice children d n at

    -- ---- what is read

    trees-read : (d : ℕ) → ((n : Node) (at end : ℕ) → place_here d n at ≡ goes end → TreeAt d n at end)
        → (ns : List Node) (at end : ℕ) → in_turn (place_here d) ns at ≡ goes end → TreesAt d ns at end
    unfolding in_turn marks_of Holds Fit total
    trees-read d each [] at end e =
        record {
          trees = no_more;
          closes = tt;
          holds = tt;
          fit = tt;
          ends = omega (arith, ap end_of e);
          within = λ l. omega (arith, ap end_of e);
        }
    trees-read d each (n ∷ ns) at end e =
        let a = then-goes (place_here d n at) (in_turn (place_here d) ns) end e in
        let t = each n at a.0 a.1 in
        let ts = trees-read d each ns a.0 end a.2 in
        record {
          trees = t.tree then ts.trees;
          closes = (t.closes, ts.closes);
          holds =
              append-holds note at (marks w t.tree) (marks_of w ts.trees) t.holds
              (subst (λ (k : ℕ). Holds note k (marks_of w ts.trees)) t.ends ts.holds);
          fit = fit_append (marks w t.tree) (marks_of w ts.trees) t.fit ts.fit;
          ends = omega (arith, total-append (marks w t.tree) (marks_of w ts.trees), t.ends, ts.ends);
          within = λ l. ts.within (t.within l);
        }

    read-close : (d : ℕ) (n : Node) (at end : ℕ) → splits note at ≡ false → at + mark_bits ≤ 8 * length note → closable n ≡ true → at + mark_bits ≡ end
        → TreeAt (suc d) n at end
    unfolding Closes marks Holds Fit total
    read-close d n at end s l may e =
        let zero_bit : field note at mark_bits ≡ 0 = omega (arith, eqb-false (field note at mark_bits) 1 s, field_lt note at mark_bits) in
        record { tree = close; closes = may; holds = (zero_bit, tt); fit = (lit< tt, tt); ends = sym e; within = λ q. omega arith }

    read-split : (d : ℕ) (n : Node) (at end : ℕ) → splits note at ≡ true → split_end note w at ≤ 8 * length note → choice n (split_op note w at) ≡ true
        → TreesAt d (children n (split_op note w at)) (split_end note w at) end → TreeAt (suc d) n at end
    unfolding Closes marks Holds Fit total
    read-split d n at end s l free ts =
        record {
          tree = split (split_op note w at) ts.trees;
          closes = (free, ts.closes);
          holds = (eqb-true (field note at mark_bits) 1 s, (refl, ts.holds));
          fit = (lit< tt, (field_lt note (at + mark_bits) w, ts.fit));
          ends = omega (arith, ts.ends);
          within = λ q. ts.within l;
        }

    pub place-tree : (d : ℕ) (n : Node) (at end : ℕ) → place_here d n at ≡ goes end → TreeAt d n at end
    unfolding place mark_fault fault_if marked Closes marks Holds Fit total
    place-tree zero n at end e =
        let a = if-goes (closable n) cheaper at end e in
        record { tree = whole; closes = a.0; holds = tt; fit = tt; ends = omega (arith, a.1); within = λ l. omega (arith, a.1) }
    place-tree (suc d) n at end e =
        let a = unless-goes (mark_fault note w (closable n) (choice n) at) _ end e in
        let f = or_else-none (runs_out (length note) (at + mark_bits)) (fault_if note w (splits note at) (closable n) (choice n) at) a.0 in
        go (place-tree d) (splits note at) refl (none-whole (length note) (at + mark_bits) f.0) f.1 a.1
      where
        kids : Turn ℕ
        kids = in_turn (place_here d) (children n (split_op note w at)) (split_end note w at)

        go : ((c : Node) (at end : ℕ) → place_here d c at ≡ goes end → TreeAt d c at end)
            → (t : Bool) → splits note at ≡ t → at + mark_bits ≤ 8 * length note → fault_if note w t (closable n) (choice n) at ≡ 0
            → marked t kids (goes (at + mark_bits)) ≡ goes end → TreeAt (suc d) n at end
        go each true s l f e =
            let q = or_else-none (runs_out (length note) (split_end note w at)) _ f in
            read-split d n at end s (none-whole (length note) (split_end note w at) q.0) (unless-none _ split_broken (lit< tt) q.1)
            (trees-read d each (children n (split_op note w at)) (split_end note w at) end e)
        go each false s l f e = read-close d n at end s l (unless-none _ close_broken (lit< tt) f) (ap end_of e)

    -- ---- what is closed

    trees-place : (d : ℕ)
        → ((n : Node) (t : Tree) (at : ℕ) → Closes Node closable choice children d n t → Holds note at (marks w t) → at + total (marks w t) ≤ 8 * length note
        → place_here d n at ≡ goes (at + total (marks w t)))
        → (ns : List Node) (ts : Trees) (at : ℕ) → Each (Closes Node closable choice children d) ns ts → Holds note at (marks_of w ts)
        → at + total (marks_of w ts) ≤ 8 * length note → in_turn (place_here d) ns at ≡ goes (at + total (marks_of w ts))
    unfolding in_turn and_then marks_of total
    trees-place d each [] no_more at h v l = rw add-zero
    trees-place d each [] (t then ts) at h v l = absurd h
    trees-place d each (n ∷ ns) no_more at h v l = absurd h
    trees-place d each (n ∷ ns) (t then ts) at h v l =
        let a : List Field = marks w t in
        let b : List Field = marks_of w ts in
        let u = holds-append note at a b v in
        let m : total (a ++ b) ≡ total a + total b = total-append a b in
        let e : at + total a + total b ≡ at + total (a ++ b) = omega arith in
        rw (each n t at h.0 u.0 (omega arith)) (trees-place d each ns ts (at + total a) h.1 u.1 (omega arith) ∙ ap (λ (k : ℕ). goes k) e)

    pub tree-place : (d : ℕ) (n : Node) (t : Tree) (at : ℕ) → Closes Node closable choice children d n t → Holds note at (marks w t)
        → at + total (marks w t) ≤ 8 * length note → place_here d n at ≡ goes (at + total (marks w t))
    unfolding place goes_if unless_fault mark_fault fault_if marked Closes marks Holds total
    tree-place zero n whole at h v l = rw (h, add-zero)
    tree-place zero n close at h v l = absurd h
    tree-place zero n (split o ts) at h v l = absurd h
    tree-place (suc d) n whole at h v l = absurd h
    tree-place (suc d) n close at h v l = close-goes (closable n) (choice n) at _ v.0 l h
    tree-place (suc d) n (split o ts) at h v l =
        split_goes (closable n) (choice n) at o _ v.0 v.1.0 (omega arith) h.0
        ∙ rw v.1.0 (trees-place d (tree-place d) (children n o) ts (split_end note w at) h.1 v.1.1 (omega arith))
        ∙ ap (λ (k : ℕ). goes k) (let e : split_end note w at + total (marks_of w ts) ≡ at + (mark_bits + (w + total (marks_of w ts))) = omega arith in e)

    -- ---- no place stops with 0

    turns-stop : (d : ℕ) → ((n : Node) (at number : ℕ) → place_here d n at ≡ stops number → number ≡ 0 → ⊥)
        → (ns : List Node) (at number : ℕ) → in_turn (place_here d) ns at ≡ stops number → number ≡ 0 → ⊥
    unfolding in_turn and_then
    turns-stop d each [] at number e z = not_stopped number at (sym e)
    turns-stop d each (n ∷ ns) at number e z = go (place_here d n at) refl e (λ mid e. turns-stop d each ns mid number e z)
      where
        go : (t : Turn ℕ) → place_here d n at ≡ t → and_then t (in_turn (place_here d) ns) ≡ stops number
            → ((mid : ℕ) → in_turn (place_here d) ns mid ≡ stops number → ⊥) → ⊥
        go (goes mid) s e more = more mid e
        go (stops number') s e more = each n at number (s ∙ e) z

    pub place-stops : (d : ℕ) (n : Node) (at number : ℕ) → place_here d n at ≡ stops number → number ≡ 0 → ⊥
    unfolding place marked
    place-stops zero n at number e z = let k = if-stops (closable n) cheaper at number e in omega arith
    place-stops (suc d) n at number e z =
        go (splits note at) (turns-stop d (place-stops d)) (unless-stops (mark_fault note w (closable n) (choice n) at) _ number e z)
      where
        kids : Turn ℕ
        kids = in_turn (place_here d) (children n (split_op note w at)) (split_end note w at)

        go : (t : Bool) → ((ns : List Node) (at number : ℕ) → in_turn (place_here d) ns at ≡ stops number → number ≡ 0 → ⊥)
            → marked t kids (goes (at + mark_bits)) ≡ stops number → ⊥
        go true each e = each (children n (split_op note w at)) (split_end note w at) number e z
        go false each e = not_stopped number (at + mark_bits) (sym e)

-- ---- where each choice fits w bits, the marks of a tree that closes a node fit

module _ (w : ℕ) (Node : Type 0) (closable : Node → Bool) (choice : Node → ℕ → Bool) (children : Node → ℕ → List Node)
    (narrow : (n : Node) (o : ℕ) → choice n o ≡ true → o < 2 ^ w) where
  trees-fit : (d : ℕ) → ((n : Node) (t : Tree) → Closes Node closable choice children d n t → Fit (marks w t))
      → (ns : List Node) (ts : Trees) → Each (Closes Node closable choice children d) ns ts → Fit (marks_of w ts)
  unfolding marks_of Fit
  trees-fit d each [] no_more h = tt
  trees-fit d each [] (t then ts) h = absurd h
  trees-fit d each (n ∷ ns) no_more h = absurd h
  trees-fit d each (n ∷ ns) (t then ts) h = fit_append (marks w t) (marks_of w ts) (each n t h.0) (trees-fit d each ns ts h.1)

  pub closes-fit : (d : ℕ) (n : Node) (t : Tree) → Closes Node closable choice children d n t → Fit (marks w t)
  unfolding Closes marks Fit
  closes-fit zero n whole h = tt
  closes-fit zero n close h = absurd h
  closes-fit zero n (split o ts) h = absurd h
  closes-fit (suc d) n whole h = absurd h
  closes-fit (suc d) n close h = (lit< tt, tt)
  closes-fit (suc d) n (split o ts) h = (lit< tt, (narrow n o h.0, trees-fit d (closes-fit d) (children n o) ts h.1))
