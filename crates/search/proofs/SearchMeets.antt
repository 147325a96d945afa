-- What the walk of a job that is read leaves held: nothing exactly where no plan meets the rules (`search-none`), else the plan
-- that is to be found (`search-found`), as a record without fault (`found-shape`, `found-sound`).
use Prim.Native.Nat.{ℕ, ◌≤◌, ◌<◌}
use mathlib.Core.Path.{◌≡◌, refl, sym, ap, subst, ◌∙◌}
use mathlib.Core.Bool.{Bool, true, false}
use mathlib.Core.List.{List, [], ◌∷◌}
use mathlib.Core.Logic.{◌⊎◌, inl, inr, ⊎_elim, ◌↔◌}
use native.Mathlib.Decide.{dec_lt}
use native.Mathlib.Omega.{arith}
use borrow.Author.Tests.{le-leb, lt-ltb, le-ltb}
use lib.ListN.{length}
use Rattle.basics.specs.Numbers.{outside_limit, record_broken}
use Rattle.basics.specs.Tables.{cell, cell_blank, blank}
use Rattle.basics.proofs.CountLaws.{both-and, each-all_to, only-small}
use Rattle.basics.proofs.FaultLaws.{none-or_else, none-unless}
use Rattle.basics.proofs.TableLaws.{length-cells, blank-cells, each_within}
use Rattle.sheets.specs.Limits.{inst_cells, max_ops, max_insts, max_select, max_steps, max_inst}
use Rattle.sheets.specs.JobSheet.{read_job}
use Rattle.sheets.specs.PlanSheet.{PlanShape, plan_counts_fault, plan_fits, plan_record_fault}
use Rattle.sheets.specs.declared.Job.{Job}
use Rattle.sheets.specs.declared.Plan.{Plan}
use Rattle.sheets.specs.Answers.{Read}
use Rattle.sheets.proofs.JobRoundTrip.{job-sound}
use Rattle.rules.specs.Meets.{Meets}
use Rattle.placing.specs.Board.{board_of}
use Rattle.placing.specs.Bound.{All, First}
use Rattle.placing.specs.Placing.{Placing, cost, needed, needed_at, smallest, smallest_in}
use Rattle.placing.specs.Options.{none, children}
use Rattle.placing.proofs.BoundLaws.{walk-finds, nothing-held, some_first, first-least}
use Rattle.placing.proofs.BoardLaws.{few-ops, few-insts}
use Rattle.placing.proofs.ListLaws.{Among, InOrder, all_among, among-right, among-either, ordered-behind}
use Rattle.placing.proofs.OptionLaws.{PlacedTo, RowsBefore, Met, leaves_of, none-met, grows, leaf-placed, leaves-ordered}
use Rattle.placing.proofs.SelectionLaws.{smallest-cell, smallest-least}
use Rattle.search.specs.Search.{begin, walked}
use Rattle.placing.specs.Plans.{plan_from}
use Rattle.search.specs.Cheapest.{SameRows, Before, FirstCheapest}
use Rattle.placing.proofs.LeafMeets.{of-job, LeafFor, leaf-meets, meets-leaf}

-- a table whose cells behind the first n are 0
each-blank : (table : List ℕ) (n : ℕ) → ((i : ℕ) → n ≤ i → cell table i ≡ 0) → blank table n ≡ true
unfolding blank
each-blank table n h = each-all_to (cell_blank table n) (length table) (λ i l. go i (dec_lt i n))
  where
    go : (i : ℕ) → Dec (i < n) → cell_blank table n i ≡ true
    go i (yes a) = rw (lt-ltb i n a)
    go i (no a) = rw (le-ltb i n (omega arith), h i (omega arith))

module _ (sheet : List ℕ) (j : Job) (read : read_job sheet ≡ record { answer = Read; job = j }) where
  abbrev held : Bool
  held = (walked (board_of j)).best.held

  abbrev leaf : Placing
  leaf = (walked (board_of j)).best.node

  abbrev found : Plan
  found = plan_from (board_of j) leaf

  -- ---- nothing held, no plan

  no-leaf : (held ≡ false) ↔ (leaves_of (board_of j) ≡ [])
  unfolding walked
  no-leaf =
      nothing-held Placing (cost (board_of j)) (children (board_of j)) (Met (board_of j)) (grows (board_of j) (of-job sheet j read)) (board_of j).n none begin
      (none-met (board_of j) (of-job sheet j read)) refl

  none-no-plan : held ≡ false → (q : Plan) → Meets j q → ⊥
  none-no-plan h q m = subst (λ (ls : List Placing). Among (meets-leaf sheet j read q m).leaf ls) (no-leaf.0 h) (meets-leaf sheet j read q m).among

  no-plan-none : ((q : Plan) → Meets j q → ⊥) → held ≡ false
  no-plan-none h = no-leaf.1 (go (leaves_of (board_of j)) refl)
    where
      go : (ls : List Placing) → leaves_of (board_of j) ≡ ls → ls ≡ []
      go [] e = refl
      go (p ∷ ls) e = absurd (h (plan_from (board_of j) p) (leaf-meets sheet j read p (subst (λ (xs : List Placing). Among p xs) (sym e) (inl refl))).0)

  pub search-none : (held ≡ false) ↔ ((q : Plan) → Meets j q → ⊥)
  search-none = (none-no-plan, no-plan-none)

  -- ---- the best is held

  module _ (h : held ≡ true) where
    first : First (cost (board_of j)) (leaves_of (board_of j)) (walked (board_of j)).best
    unfolding walked
    first =
        some_first Placing (cost (board_of j)) begin.best (leaves_of (board_of j)) (walked (board_of j)).best refl
        (walk-finds Placing (cost (board_of j)) (children (board_of j)) (Met (board_of j)) (grows (board_of j) (of-job sheet j read)) (board_of j).n none begin
        (none-met (board_of j) (of-job sheet j read))) h

    found_among : Among leaf (leaves_of (board_of j))
    found_among = subst (λ (ls : List Placing). Among leaf ls) (sym first.split) (among-right leaf first.sooner (leaf ∷ first.later) (inl refl))

    found-placed : PlacedTo (board_of j) (board_of j).n leaf
    found-placed = (leaf-placed (board_of j) (of-job sheet j read) leaf found_among).0

    leaf-least : (p : Placing) → Among p (leaves_of (board_of j)) → (walked (board_of j)).best.cost ≤ cost (board_of j) p
    leaf-least p a =
        all_among (λ l. (walked (board_of j)).best.cost ≤ cost (board_of j) l) (leaves_of (board_of j))
        (first-least Placing (cost (board_of j)) (leaves_of (board_of j)) (walked (board_of j)).best first) p a

    -- another leaf that costs as much is the one found, or comes behind it
    leaf_first : (p : Placing) → Among p (leaves_of (board_of j)) → cost (board_of j) p ≤ (walked (board_of j)).best.cost
        → (p ≡ leaf) ⊎ RowsBefore (board_of j).n leaf p
    leaf_first p a c =
        ⊎_elim (λ s. absurd (omega (arith, all_among (λ l. (walked (board_of j)).best.cost < cost (board_of j) l) first.sooner first.dearer p s)))
        (⊎_elim inl (λ s. inr (all_among (RowsBefore (board_of j).n leaf) first.later behind p s)))
        (among-either p first.sooner (leaf ∷ first.later) (subst (λ (ls : List Placing). Among p ls) first.split a))
      where
        behind : All (RowsBefore (board_of j).n leaf) first.later
        behind =
            ordered-behind (RowsBefore (board_of j).n) first.sooner leaf first.later
            (subst (λ (ls : List Placing). InOrder (RowsBefore (board_of j).n) ls) first.split (leaves-ordered (board_of j) (of-job sheet j read)))

    rows-first : (q : Plan) → (l : LeafFor j q) → (l.leaf ≡ leaf) ⊎ RowsBefore (board_of j).n leaf l.leaf → SameRows j found q ⊎ Before j found q
    unfolding board_of
    rows-first q l (inl e) =
        inl (λ o b.
        let s = l.same o b in
        (ap (λ (p : Placing). cell p.starts o) (sym e) ∙ s.0, ap (λ (p : Placing). cell p.insts o) (sym e) ∙ s.1))
    rows-first q l (inr r) =
        let s = l.same r.op r.below in
        inr (record {
          op = r.op;
          below = r.below;
          alike = λ o b. let e = r.alike o b in let s = l.same o (omega (arith, r.below)) in (e.0 ∙ s.0, e.1 ∙ s.1);
          sooner = rw (← s.0, ← s.1) r.sooner;
        })

    pub search-found : FirstCheapest j found (walked (board_of j)).best.cost
    unfolding board_of
    search-found =
        let w = leaf-meets sheet j read leaf found_among in
        record {
          meets = w.0;
          costs = w.1 ∙ sym first.is-cost;
          least = λ q m. let l = meets-leaf sheet j read q m in omega (arith, leaf-least l.leaf l.among, l.cheap);
          first = λ q m c. let l = meets-leaf sheet j read q m in rows-first q l (leaf_first l.leaf l.among (omega (arith, l.cheap)));
          smallest = λ q m s. smallest-least (board_of j) (of-job sheet j read) leaf q.selection (λ o l t. rw (s o l).1 (m.rows o l).chosen) m.order;
        }

    pub found-shape : PlanShape found
    unfolding smallest_in
    found-shape =
        record {
          selection = length-cells (needed_at (board_of j).n (board_of j).types leaf.starts leaf.insts) (board_of j).k inst_cells;
          starts = found-placed.starts-long;
          insts = found-placed.insts-long;
        }

    few-steps : (board_of j).t ≤ max_steps
    unfolding board_of
    few-steps = (job-sound sheet j read).steps

    pub found-sound : plan_record_fault found ≡ 0
    unfolding plan_record_fault plan_counts_fault plan_fits smallest_in
    found-sound =
        let w = found-placed in
        let b = board_of j in
        let n = few-ops b (of-job sheet j read) in
        let k = few-insts b (of-job sheet j read) in
        let marks =
        each_within (smallest b leaf) max_select b.k (λ i l. omega (arith, smallest-cell b (of-job sheet j read) leaf i l, only-small (needed b leaf i) 1)) in
        let starts = each_within leaf.starts max_steps b.n (λ o l. omega (arith, (w.rows o l).1, few-steps)) in
        let insts = each_within leaf.insts max_inst b.n (λ o l. omega (arith, (w.rows o l).2, k)) in
        none-or_else _ _ (none-unless _ outside_limit (both-and _ _ (le-leb b.n max_ops n) (le-leb b.k max_insts k)))
        (none-unless _ record_broken
        (both-and _ _ (both-and _ _ (both-and _ _ (both-and _ _ (both-and _ _ marks starts) insts) (blank-cells (needed_at b.n b.types leaf.starts leaf.insts) b.k inst_cells))
        (each-blank leaf.starts b.n (λ o l. (w.unused o l).0))) (each-blank leaf.insts b.n (λ o l. (w.unused o l).1))))
