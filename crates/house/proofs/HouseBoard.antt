-- The house tree of a board: in number order the lowest unplaced operation is the next (`lowest-next`), so a walk that splits on it meets
-- what the search meets (`house-steps`). Of a job's board it closes for a cheapest plan (`cheapest-closes`), and for none where no plan meets
-- the rules (`none-closes`); and where it closes, none costs less (`closed-least` in placing's ClosingLaws). Its marks fit their widths
-- (`house-widths`).
use Prim.Native.Nat.{ℕ, zero, suc, ◌-◌, ◌^◌, ◌≤◌, ◌<◌}
use mathlib.Core.Path.{◌≡◌, sym, ap, subst, ◌∙◌}
use mathlib.Core.Bool.{true}
use mathlib.Core.List.{List}
use native.Mathlib.Decide.{ℕ_discrete}
use native.Mathlib.Omega.{arith}
use borrow.Author.Tests.{lt-ltb, le-ltb}
use lib.Dec.{ltb}
use Rattle.basics.specs.Tables.{cell}
use Rattle.bits.proofs.SheetLaws.{Fit}
use Rattle.sheets.specs.JobSheet.{read_job}
use Rattle.sheets.specs.declared.Job.{Job}
use Rattle.sheets.specs.declared.Plan.{Plan}
use Rattle.sheets.specs.Answers.{Read}
use Rattle.rules.specs.Judge.{plan_cost}
use Rattle.rules.specs.Meets.{Meets}
use Rattle.placing.specs.Board.{board_of, OfJob}
use Rattle.placing.specs.Bound.{All}
use Rattle.placing.specs.Closing.{Claim, unplaced, closable, choice, split_on, ClosesBoard}
use Rattle.placing.specs.Options.{none, children}
use Rattle.placing.specs.Placing.{Placing, cost}
use Rattle.placing.specs.Plans.{plan_from}
use Rattle.placing.specs.declared.Board.{Board}
use Rattle.placing.proofs.BoardLaws.{few-ops}
use Rattle.placing.proofs.BoundLaws.{all_map}
use Rattle.placing.proofs.ClosingLaws.{says-allowed}
use Rattle.placing.proofs.LeafMeets.{of-job, leaf-meets}
use Rattle.placing.proofs.OptionLaws.{PlacedTo, Met, none-met, grows, placed-leaf}
use Rattle.notes.specs.Check.{plan_claim, no_claim}
use Rattle.notes.specs.NoteSheet.{split_bits, marks}
use Rattle.house.specs.House.{pick, lowest, next_op, house_tree_of}
use Rattle.house.proofs.HouseLaws.{house-closes, mark-widths}

-- ---- the lowest unplaced operation

pub lowest-next : (n op : ℕ) (starts : List ℕ) → op ≤ n → ((o : ℕ) → o < op → 1 ≤ cell starts o) → (op < n → cell starts op ≡ 0) → lowest n starts ≡ op
unfolding lowest pick
lowest-next zero op starts l below here = omega arith
lowest-next (suc n) op starts l below here = go (ℕ_discrete op (suc n)) (ℕ_discrete op n) (lowest-next n)
  where
    go : Dec (op ≡ suc n) → Dec (op ≡ n)
        → ((op : ℕ) (starts : List ℕ) → op ≤ n → ((o : ℕ) → o < op → 1 ≤ cell starts o) → (op < n → cell starts op ≡ 0) → lowest n starts ≡ op)
        → pick (ltb (lowest n starts) n) (lowest n starts) (pick (ltb 0 (cell starts n)) (suc n) n) ≡ op
    go (yes e) d ih =
        let z = ih n starts (omega arith) (λ o h. below o (omega arith)) (λ h. absurd (omega arith)) in
        rw (z, le-ltb n n (omega arith), lt-ltb 0 (cell starts n) (below n (omega arith))) (sym e)
    go (no e) (yes d) ih =
        let z = ih n starts (omega arith) (λ o h. below o (omega arith)) (λ h. absurd (omega arith)) in
        let free : cell starts n ≡ 0 = ap (cell starts) (sym d) ∙ here (omega arith) in
        rw (z, le-ltb n n (omega arith), free) (sym d)
    go (no e) (no d) ih =
        let z = ih op starts (omega (arith, e)) below (λ h. here (omega arith)) in
        rw (z, lt-ltb op n (omega (arith, e, d)))

module _ (b : Board) where
  next-is : (d : ℕ) (p : Placing) → Met b (suc d) p → next_op b p ≡ b.n - suc d
  next-is d p m =
      lowest-next b.n (b.n - suc d) p.starts (omega arith) (λ o l. (m.placed.rows o l).0) (λ l. (m.placed.unused (b.n - suc d) (omega arith)).0)

  next-free : (d : ℕ) (p : Placing) → Met b (suc d) p → choice b p (next_op b p) ≡ true
  unfolding unplaced
  next-free d p m =
      let op : ℕ = b.n - suc d in
      rw (next-is d p m, (m.placed.unused op (omega arith)).0, lt-ltb op b.n (omega (arith, m.few)))

  module _ (of : OfJob b) where
    pub house-steps : (d : ℕ) (p : Placing) → Met b (suc d) p → (choice b p (next_op b p) ≡ true) × All (Met b d) (split_on b p (next_op b p))
    unfolding children
    house-steps d p m = (
      next-free d p m,
      rw (next-is d p m) (all_map (λ c. Met b d c × (cost b p ≤ cost b c)) (Met b d) (λ c w. w.0) (children b d p) (grows b of d p m)),
    )

    next_small : (d : ℕ) (p : Placing) → Met b (suc d) p → next_op b p < 2 ^ split_bits
    next_small d p m = omega (arith, next-is d p m, few-ops b of)

    -- the number of a split's operation fits its bits
    pub house-widths : (claim : Claim) → Fit (marks split_bits (house_tree_of b claim))
    house-widths claim =
        mark-widths Placing (closable b claim) (choice b) (next_op b) (split_on b) (Met b) house-steps split_bits next_small b.n none (none-met b of)

    -- the house tree closes where each live placing of all operations may be closed
    board-closes : (claim : Claim) → ((leaf : Placing) → Met b 0 leaf → closable b claim leaf ≡ true) → ClosesBoard b claim b.n none (house_tree_of b claim)
    board-closes claim h =
        house-closes Placing (closable b claim) (choice b) (next_op b) (split_on b) (Met b) house-steps b.n none (none-met b of) h

-- ---- of a job that was read

module _ (sheet : List ℕ) (j : Job) (read : read_job sheet ≡ record { answer = Read; job = j }) where
  leaf-plan : (leaf : Placing) → Met (board_of j) 0 leaf
      → Meets j (plan_from (board_of j) leaf) × (plan_cost j (plan_from (board_of j) leaf) ≡ cost (board_of j) leaf)
  leaf-plan leaf m =
      let e : (board_of j).n - 0 ≡ (board_of j).n = omega arith in
      leaf-meets sheet j read leaf
      (placed-leaf (board_of j) (of-job sheet j read) leaf (subst (λ (k : ℕ). PlacedTo (board_of j) k leaf) e m.placed) m.alive)

  pub cheapest-closes : (c : ℕ) → ((q : Plan) → Meets j q → c ≤ plan_cost j q)
      → ClosesBoard (board_of j) (plan_claim c) (board_of j).n none (house_tree_of (board_of j) (plan_claim c))
  cheapest-closes c least =
      board-closes (board_of j) (of-job sheet j read) (plan_claim c) (λ leaf m.
      let w = leaf-plan leaf m in
      says-allowed (plan_claim c) (cost (board_of j) leaf) (omega (arith, w.1, least (plan_from (board_of j) leaf) w.0)))

  pub none-closes : ((q : Plan) → Meets j q → ⊥) → ClosesBoard (board_of j) no_claim (board_of j).n none (house_tree_of (board_of j) no_claim)
  none-closes no-plan =
      board-closes (board_of j) (of-job sheet j read) no_claim (λ leaf m. absurd (no-plan (plan_from (board_of j) leaf) (leaf-plan leaf m).0))
