-- The house writer over any problem. What it wrote is the house tree's marks, in the room, and the tree closes the node (`wrote-closes`);
-- where the tree closes it and the marks fit they are written (`closes-wrote`), and where it stops one of the two fails (`stopped`). The
-- house tree closes a node where every leaf may be closed (`house-closes`). Its marks fit their widths (`mark-widths`).
use Prim.Native.Nat.{ℕ, zero, suc, ◌+◌, ◌^◌, ◌≤◌, ◌<◌}
use mathlib.Core.Path.{◌≡◌, refl, sym, ap, ◌∙◌}
use mathlib.Core.Bool.{Bool, true, false, true≢false}
use mathlib.Core.List.{List, [], ◌∷◌, ◌++◌, append_assoc, append-nil}
use mathlib.Core.Logic.{◌⊎◌, inl, inr, ⊎_elim}
use native.Mathlib.Omega.{arith}
use borrow.Author.Tests.{leb-true, leb-false, le-leb}
use lib.Dec.{leb, lit<}
use Rattle.basics.specs.Numbers.{output_short, cheaper}
use Rattle.bits.specs.Sheet.{Field, total}
use Rattle.bits.proofs.SheetLaws.{Fit, total-append, fit_append}
use Rattle.placing.specs.Bound.{All}
use Rattle.placing.specs.Closing.{Tree, Trees, split, Each, Closes, Turn, goes, stops, and_then, goes_if, in_turn}
use Rattle.notes.specs.NoteSheet.{close_mark, split_mark, marks, marks_of}
use Rattle.house.specs.House.{tree_if, trees_of, write_if, house_tree, write, added}

-- ---- turns

module _ {A : Type 0} where
  never : {P : Type 0} (number : ℕ) (x : A) → stops number ≡ goes x → P
  never number x e = absurd (cc)

  pub then-goes : (t : Turn A) (f : A → Turn A) (y : A) → and_then t f ≡ goes y → (x : A) × (t ≡ goes x) × (f x ≡ goes y)
  unfolding and_then
  then-goes (goes x) f y e = (x, refl, e)
  then-goes (stops number) f y e = never number y e

  pub then-stops : (t : Turn A) (f : A → Turn A) (number : ℕ) → and_then t f ≡ stops number
      → (t ≡ stops number) ⊎ ((x : A) × (t ≡ goes x) × (f x ≡ stops number))
  unfolding and_then
  then-stops (goes x) f number e = inr (x, refl, e)
  then-stops (stops k) f number e = inl e

  if-goes : (t : Bool) (number : ℕ) (x y : A) → goes_if t number x ≡ goes y → (t ≡ true) × (y ≡ x)
  unfolding goes_if
  if-goes true number x y e = (refl, cc)
  if-goes false number x y e = never number y e

  if-stops : (t : Bool) (number : ℕ) (x : A) (k : ℕ) → goes_if t number x ≡ stops k → (t ≡ false) × (k ≡ number)
  unfolding goes_if
  if-stops true number x k e = never k x (sym e)
  if-stops false number x k e = (refl, cc)

-- ---- marks behind those so far

pub added_goes : (room : ℕ) (gs so_far fs : List Field) → added room gs so_far ≡ goes fs → (fs ≡ so_far ++ gs) × (total fs ≤ room)
unfolding added
added_goes room gs so_far fs e =
    let r = if-goes (leb (total so_far + total gs) room) output_short (so_far ++ gs) fs e in
    (r.1, omega (arith, leb-true (total so_far + total gs) room r.0, ap total r.1, total-append so_far gs))

pub added-stops : (room : ℕ) (gs so_far : List Field) (number : ℕ) → added room gs so_far ≡ stops number
    → (number ≡ output_short) × (room < total (so_far ++ gs))
unfolding added
added-stops room gs so_far number e =
    let r = if-stops (leb (total so_far + total gs) room) output_short (so_far ++ gs) number e in
    (r.1, omega (arith, leb-false (total so_far + total gs) room r.0, total-append so_far gs))

pub fits-added : (room : ℕ) (gs so_far : List Field) → total (so_far ++ gs) ≤ room → added room gs so_far ≡ goes (so_far ++ gs)
unfolding added goes_if
fits-added room gs so_far l = rw (le-leb (total so_far + total gs) room (omega (arith, total-append so_far gs)))

-- with more behind them they are no shorter
total-front : (a b c : List Field) → total (a ++ b) ≤ total (a ++ (b ++ c))
total-front a b c = omega (arith, ap total (append_assoc a b c), total-append (a ++ b) c)

-- ---- the writer

module _ (Node : Type 0) (closable : Node → Bool) (choice : Node → ℕ → Bool) (next : Node → ℕ) (children : Node → ℕ → List Node) where
  abbrev tree_at : ℕ → Node → Tree
  tree_at d n = house_tree Node closable next children d n

  abbrev trees_at : ℕ → List Node → Trees
  trees_at d ns = trees_of (tree_at d) ns

  abbrev kids : Node → List Node
  kids n = children n (next n)

  abbrev HouseCloses : ℕ → Node → Type 0
  HouseCloses d n = Closes Node closable choice children d n (tree_at d n)

  abbrev EachCloses : ℕ → List Node → Type 0
  EachCloses d ns = Each (Closes Node closable choice children d) ns (trees_at d ns)

  module _ (w room : ℕ) where
    abbrev write_on : ℕ → Node → List Field → Turn (List Field)
    write_on d n so_far = write Node closable next children w (added room) d n so_far

    marks-split : (d : ℕ) (n : Node) → closable n ≡ false
        → marks w (tree_at (suc d) n) ≡ split_mark w (next n) ++ marks_of w (trees_at d (kids n))
    unfolding house_tree tree_if marks
    marks-split d n e = rw e

    marks-close : (d : ℕ) (n : Node) → closable n ≡ true → marks w (tree_at (suc d) n) ≡ close_mark
    unfolding house_tree tree_if marks
    marks-close d n e = rw e

    write-split : (d : ℕ) (n : Node) (so_far : List Field) → closable n ≡ false
        → write_on (suc d) n so_far ≡ and_then (added room (split_mark w (next n)) so_far) (in_turn (write_on d) (kids n))
    unfolding write write_if
    write-split d n so_far e = rw e

    write-close : (d : ℕ) (n : Node) (so_far : List Field) → closable n ≡ true → write_on (suc d) n so_far ≡ added room close_mark so_far
    unfolding write write_if
    write-close d n so_far e = rw e

    -- what was written

    record Wrote (d : ℕ) (n : Node) (so_far fs : List Field) : Type 0 where
      fields : fs ≡ so_far ++ marks w (tree_at d n)
      fits : total so_far ≤ room → total fs ≤ room

    turns-wrote : (d : ℕ) → ((n : Node) (so_far fs : List Field) → write_on d n so_far ≡ goes fs → Wrote d n so_far fs)
        → (ns : List Node) (so_far fs : List Field) → in_turn (write_on d) ns so_far ≡ goes fs
        → (fs ≡ so_far ++ marks_of w (trees_at d ns)) × (total so_far ≤ room → total fs ≤ room)
    unfolding in_turn trees_of marks
    turns-wrote d ih [] so_far fs e = let z : fs ≡ so_far = cc in (z ∙ sym (append-nil so_far), λ l. rw z l)
    turns-wrote d ih (n ∷ ns) so_far fs e =
        let (x, a, b) = then-goes (write_on d n so_far) (in_turn (write_on d) ns) fs e in
        let one = ih n so_far x a in
        let more = turns-wrote d ih ns x fs b in (
          more.0 ∙ ap (λ (y : List Field). y ++ marks_of w (trees_at d ns)) one.fields
              ∙ append_assoc so_far (marks w (tree_at d n)) (marks_of w (trees_at d ns)),
          λ l. more.1 (one.fits l),
        )

    wrote : (d : ℕ) (n : Node) (so_far fs : List Field) → write_on d n so_far ≡ goes fs → Wrote d n so_far fs
    unfolding write house_tree marks
    wrote zero n so_far fs e =
        let z : fs ≡ so_far = (if-goes (closable n) cheaper so_far fs e).1 in
        record { fields = z ∙ sym (append-nil so_far); fits = λ l. rw z l }
    wrote (suc d) n so_far fs e = go (closable n) refl (turns-wrote d (wrote d) (kids n))
      where
        go : (t : Bool) → closable n ≡ t
            → ((x fs : List Field) → in_turn (write_on d) (kids n) x ≡ goes fs
            → (fs ≡ x ++ marks_of w (trees_at d (kids n))) × (total x ≤ room → total fs ≤ room))
            → Wrote (suc d) n so_far fs
        go true c turns =
            let r = added_goes room close_mark so_far fs (sym (write-close d n so_far c) ∙ e) in
            record { fields = r.0 ∙ ap (λ (gs : List Field). so_far ++ gs) (sym (marks-close d n c)); fits = λ l. r.1 }
        go false c turns =
            let mark : List Field = split_mark w (next n) in
            let below : List Field = marks_of w (trees_at d (kids n)) in
            let (x, a, b) = then-goes (added room mark so_far) (in_turn (write_on d) (kids n)) fs (sym (write-split d n so_far c) ∙ e) in
            let r = added_goes room mark so_far x a in
            let more = turns x fs b in
            record {
              fields =
                  more.0 ∙ ap (λ (y : List Field). y ++ below) r.0 ∙ append_assoc so_far mark below
                  ∙ ap (λ (gs : List Field). so_far ++ gs) (sym (marks-split d n c));
              fits = λ l. more.1 r.1;
            }

    -- what is to be written

    closes-split : (d : ℕ) (n : Node) → closable n ≡ false → HouseCloses (suc d) n → (choice n (next n) ≡ true) × EachCloses d (kids n)
    unfolding house_tree tree_if Closes
    closes-split d n e h = rw e at h

    turns-write : (d : ℕ)
        → ((n : Node) (so_far : List Field) → HouseCloses d n → total (so_far ++ marks w (tree_at d n)) ≤ room
        → write_on d n so_far ≡ goes (so_far ++ marks w (tree_at d n)))
        → (ns : List Node) (so_far : List Field) → EachCloses d ns → total (so_far ++ marks_of w (trees_at d ns)) ≤ room
        → in_turn (write_on d) ns so_far ≡ goes (so_far ++ marks_of w (trees_at d ns))
    unfolding in_turn trees_of marks and_then
    turns-write d ih [] so_far h l = ap goes (sym (append-nil so_far))
    turns-write d ih (n ∷ ns) so_far h l =
        let one : List Field = marks w (tree_at d n) in
        let more : List Field = marks_of w (trees_at d ns) in
        rw (ih n so_far h.0 (omega (arith, total-front so_far one more)))
        (turns-write d ih ns (so_far ++ one) h.1 (omega (arith, ap total (append_assoc so_far one more))) ∙ ap goes (append_assoc so_far one more))

    pub closes-wrote : (d : ℕ) (n : Node) (so_far : List Field) → HouseCloses d n → total (so_far ++ marks w (tree_at d n)) ≤ room
        → write_on d n so_far ≡ goes (so_far ++ marks w (tree_at d n))
    unfolding write house_tree marks Closes goes_if and_then
    closes-wrote zero n so_far h l = rw h (ap goes (sym (append-nil so_far)))
    closes-wrote (suc d) n so_far h l = go (closable n) refl (turns-write d (closes-wrote d) (kids n))
      where
        go : (t : Bool) → closable n ≡ t
            → ((x : List Field) → EachCloses d (kids n) → total (x ++ marks_of w (trees_at d (kids n))) ≤ room
            → in_turn (write_on d) (kids n) x ≡ goes (x ++ marks_of w (trees_at d (kids n))))
            → write_on (suc d) n so_far ≡ goes (so_far ++ marks w (tree_at (suc d) n))
        go true c turns =
            let m = marks-close d n c in
            write-close d n so_far c ∙ rw m (fits-added room close_mark so_far (rw m at l))
        go false c turns =
            let m = marks-split d n c in
            let mark : List Field = split_mark w (next n) in
            let below : List Field = marks_of w (trees_at d (kids n)) in
            let l' : total (so_far ++ (mark ++ below)) ≤ room = rw m at l in
            let assoc = append_assoc so_far mark below in
            write-split d n so_far c
            ∙ ap (λ (t : Turn (List Field)). and_then t (in_turn (write_on d) (kids n))) (fits-added room mark so_far (omega (arith, total-front so_far mark below)))
            ∙ turns (so_far ++ mark) (closes-split d n c h).1 (omega (arith, ap total assoc))
            ∙ ap goes assoc ∙ ap (λ (gs : List Field). goes (so_far ++ gs)) (sym m)

    -- where it stops

    abbrev Stopped : ℕ → ℕ → Node → List Field → Type 0
    Stopped number d n so_far =
        ((number ≡ output_short) × (room < total (so_far ++ marks w (tree_at d n)))) ⊎ ((number ≡ cheaper) × (HouseCloses d n → ⊥))

    turns_stopped : (d : ℕ) (number : ℕ)
        → ((n : Node) (so_far : List Field) → write_on d n so_far ≡ stops number → Stopped number d n so_far)
        → (ns : List Node) (so_far : List Field) → in_turn (write_on d) ns so_far ≡ stops number
        → ((number ≡ output_short) × (room < total (so_far ++ marks_of w (trees_at d ns)))) ⊎ ((number ≡ cheaper) × (EachCloses d ns → ⊥))
    unfolding in_turn trees_of marks
    turns_stopped d number ih [] so_far e = never number so_far (sym e)
    turns_stopped d number ih (n ∷ ns) so_far e =
        let one : List Field = marks w (tree_at d n) in
        let more : List Field = marks_of w (trees_at d ns) in
        ⊎_elim
        (λ a. ⊎_elim (λ s. inl (s.0, omega (arith, s.1, total-front so_far one more))) (λ s. inr (s.0, λ h. s.1 h.0)) (ih n so_far a))
        (λ (x, a, b).
        let same = (wrote d n so_far x a).fields in
        ⊎_elim
        (λ s. inl (s.0, omega (arith, s.1, ap (λ (y : List Field). total (y ++ more)) same, ap total (append_assoc so_far one more))))
        (λ s. inr (s.0, λ h. s.1 h.1))
        (turns_stopped d number ih ns x b))
        (then-stops (write_on d n so_far) (in_turn (write_on d) ns) number e)

    write-stopped : (d : ℕ) (n : Node) (so_far : List Field) (number : ℕ) → write_on d n so_far ≡ stops number → Stopped number d n so_far
    unfolding write house_tree Closes
    write-stopped zero n so_far number e =
        let s = if-stops (closable n) cheaper so_far number e in
        inr (s.1, λ h. true≢false (sym h ∙ s.0))
    write-stopped (suc d) n so_far number e = go (closable n) refl (turns_stopped d number (λ m x. write-stopped d m x number) (kids n))
      where
        go : (t : Bool) → closable n ≡ t
            → ((x : List Field) → in_turn (write_on d) (kids n) x ≡ stops number
            → ((number ≡ output_short) × (room < total (x ++ marks_of w (trees_at d (kids n))))) ⊎ ((number ≡ cheaper) × (EachCloses d (kids n) → ⊥)))
            → Stopped number (suc d) n so_far
        go true c turns = rw (marks-close d n c) (inl (added-stops room close_mark so_far number (sym (write-close d n so_far c) ∙ e)))
        go false c turns =
            let m = marks-split d n c in
            let mark : List Field = split_mark w (next n) in
            let below : List Field = marks_of w (trees_at d (kids n)) in
            ⊎_elim
            (λ a. let s = added-stops room mark so_far number a in inl (s.0, rw m (omega (arith, s.1, total-front so_far mark below))))
            (λ (x, a, b).
            let same = (added_goes room mark so_far x a).0 in
            ⊎_elim
            (λ s. inl (s.0, rw m (omega (arith, s.1, ap (λ (y : List Field). total (y ++ below)) same, ap total (append_assoc so_far mark below)))))
            (λ s. inr (s.0, λ h. s.1 (closes-split d n c h).1))
            (turns x b))
            (then-stops (added room mark so_far) (in_turn (write_on d) (kids n)) number (sym (write-split d n so_far c) ∙ e))

  -- ---- Ok d n: n is a node that can be met with d choices to make; there `next` can be chosen, and its children are Ok

  module _ (Ok : ℕ → Node → Type 0) (steps : (d : ℕ) (n : Node) → Ok (suc d) n → (choice n (next n) ≡ true) × All (Ok d) (kids n)) where
    -- a split closes where its children do
    split-closes : (d : ℕ) (n : Node) → Ok (suc d) n → (closable n ≡ false → EachCloses d (kids n)) → HouseCloses (suc d) n
    unfolding house_tree tree_if Closes
    split-closes d n ok h = go (closable n) refl
      where
        go : (t : Bool) → closable n ≡ t → Closes Node closable choice children (suc d) n (tree_if t (split (next n) (trees_at d (kids n))))
        go true c = c
        go false c = ((steps d n ok).0, h c)

    each-closes : (d : ℕ) → ((n : Node) → Ok d n → HouseCloses d n) → (ns : List Node) → All (Ok d) ns → EachCloses d ns
    unfolding trees_of
    each-closes d ih [] oks = tt
    each-closes d ih (n ∷ ns) oks = (ih n oks.0, each-closes d ih ns oks.1)

    pub house-closes : (d : ℕ) (n : Node) → Ok d n → ((leaf : Node) → Ok 0 leaf → closable leaf ≡ true) → HouseCloses d n
    unfolding house_tree Closes
    house-closes zero n ok h = h n ok
    house-closes (suc d) n ok h = split-closes d n ok (λ _. each-closes d (λ m o. house-closes d m o h) (kids n) (steps d n ok).1)

    module _ (w room : ℕ) where
      each-written : (d : ℕ) → ((n : Node) → Ok d n → (so_far fs : List Field) → write_on w room d n so_far ≡ goes fs → HouseCloses d n)
          → (ns : List Node) → All (Ok d) ns → (so_far fs : List Field) → in_turn (write_on w room d) ns so_far ≡ goes fs → EachCloses d ns
      unfolding in_turn trees_of
      each-written d ih [] oks so_far fs e = tt
      each-written d ih (n ∷ ns) oks so_far fs e =
          let (x, a, b) = then-goes (write_on w room d n so_far) (in_turn (write_on w room d) ns) fs e in
          (ih n oks.0 so_far x a, each-written d ih ns oks.1 x fs b)

      written-closes : (d : ℕ) (n : Node) → Ok d n → (so_far fs : List Field) → write_on w room d n so_far ≡ goes fs → HouseCloses d n
      unfolding write house_tree Closes
      written-closes zero n ok so_far fs e = (if-goes (closable n) cheaper so_far fs e).0
      written-closes (suc d) n ok so_far fs e =
          split-closes d n ok (λ c.
          let (x, a, b) = then-goes (added room (split_mark w (next n)) so_far) (in_turn (write_on w room d) (kids n)) fs
          (sym (write-split w room d n so_far c) ∙ e) in
          each-written d (written-closes d) (kids n) (steps d n ok).1 x fs b)

      pub wrote-closes : (d : ℕ) (n : Node) → Ok d n → (so_far fs : List Field) → write_on w room d n so_far ≡ goes fs
          → HouseCloses d n × (fs ≡ so_far ++ marks w (tree_at d n)) × (total so_far ≤ room → total fs ≤ room)
      wrote-closes d n ok so_far fs e =
          let r = wrote w room d n so_far fs e in
          (written-closes d n ok so_far fs e, r.fields, r.fits)

      pub stopped : (d : ℕ) (n : Node) → Ok d n → (so_far : List Field) (number : ℕ) → write_on w room d n so_far ≡ stops number
          → ((number ≡ output_short) × (room < total (so_far ++ marks w (tree_at d n)))) ⊎ ((number ≡ cheaper) × (HouseCloses d n → ⊥))
      stopped d n ok = write-stopped w room d n

    -- ---- widths: the choices are numbers of w bits

    module _ (w : ℕ) (small : (d : ℕ) (n : Node) → Ok (suc d) n → next n < 2 ^ w) where
      widths-of : (d : ℕ) → ((n : Node) → Ok d n → Fit (marks w (tree_at d n))) → (ns : List Node) → All (Ok d) ns → Fit (marks_of w (trees_at d ns))
      unfolding trees_of marks Fit
      widths-of d ih [] oks = tt
      widths-of d ih (n ∷ ns) oks = fit_append (marks w (tree_at d n)) (marks_of w (trees_at d ns)) (ih n oks.0) (widths-of d ih ns oks.1)

      pub mark-widths : (d : ℕ) (n : Node) → Ok d n → Fit (marks w (tree_at d n))
      unfolding house_tree tree_if marks Fit
      mark-widths zero n ok = tt
      mark-widths (suc d) n ok = go (closable n) (widths-of d (mark-widths d) (kids n) (steps d n ok).1)
        where
          go : (t : Bool) → Fit (marks_of w (trees_at d (kids n))) → Fit (marks w (tree_if t (split (next n) (trees_at d (kids n)))))
          go true below = (lit< tt, tt)
          go false below =
              fit_append (split_mark w (next n)) (marks_of w (trees_at d (kids n))) (lit< tt, (small d n ok, tt)) below
