-- What a closed tree says. Over any problem: where what may be closed still may be further down, all that stands below a node that a tree
-- closes may be closed (`closes-below`). Of a job's board: where a tree closes it, a plan that meets the rules is claimed, and does not cost
-- less than the claim (`closed-least`).
use Prim.Native.Nat.{ℕ, zero, suc, ◌≤◌, ◌<◌}
use mathlib.Core.Path.{◌≡◌, ◌∙◌}
use mathlib.Core.Bool.{Bool, true, not}
use mathlib.Core.List.{List, [], ◌∷◌}
use mathlib.Core.Logic.{◌⊎◌, inl, inr, ⊎_elim}
use Rattle.std.specs.Prelude.{Some, None}
use native.Mathlib.Decide.{ℕ_discrete}
use native.Mathlib.Omega.{arith}
use borrow.Author.Tests.{leb-true, le-leb, ltb-true}
use lib.Dec.{ltb}
use lib.ListN.{length, length-set, length-replicate}
use lib.Seq.{get_or-set_same, get_or-set_other}
use Rattle.basics.specs.Tables.{cell}
use Rattle.basics.proofs.CountLaws.{and_both}
use Rattle.basics.proofs.TableLaws.{cell-replicate}
use Rattle.sheets.specs.JobSheet.{read_job}
use Rattle.sheets.specs.Limits.{op_cells}
use Rattle.sheets.specs.declared.Job.{Job}
use Rattle.sheets.specs.declared.Plan.{Plan}
use Rattle.sheets.specs.Answers.{Read}
use Rattle.rules.specs.Judge.{plan_cost}
use Rattle.rules.specs.Meets.{Meets}
use Rattle.rules.specs.Rules.{placed}
use Rattle.placing.specs.declared.Board.{Board}
use Rattle.placing.specs.Board.{board_of, OfJob}
use Rattle.placing.specs.Closing.{Tree, Trees, whole, close, split, no_more, ◌then◌, Each, Closes, Claim, allowed, AtMost, closable, unplaced, choice, split_on, ClosesBoard}
use Rattle.placing.specs.Options.{Option, options, none, put}
use Rattle.placing.specs.Placing.{Placing, live, cost, Part}
use Rattle.placing.proofs.BoardLaws.{few-ops}
use Rattle.placing.proofs.LeafMeets.{of-job, meets-leaf}
use Rattle.placing.proofs.ListLaws.{Among}
use Rattle.placing.proofs.OptionLaws.{PlacedTo, options-exactly, ones-among, leaf-placed}
use Rattle.placing.proofs.PartLaws.{part-live, part-costs}

-- ---- over any problem

-- each node among those that trees are for has its own
each-among : {Node : Type 0} (P : Node → Tree → Type 0) (ns : List Node) (ts : Trees) → Each P ns ts → (n : Node) → Among n ns → (t : Tree) × P n t
each-among P [] ts h n a = absurd a
each-among P (m ∷ ns) no_more h n a = absurd h
each-among P (m ∷ ns) (t then ts) h n (inl e) = (t, rw e h.0)
each-among P (m ∷ ns) (t then ts) h n (inr a) = each-among P ns ts h.1 n a

module _ (Node : Type 0) (closable : Node → Bool) (choice : Node → ℕ → Bool) (children : Node → ℕ → List Node)
    (Below : Node → Node → Type 0)
    (reaches : (n y : Node) (o : ℕ) → choice n o ≡ true → Below n y → (c : Node) × Among c (children n o) × Below c y)
    (rises : (n y : Node) → Below n y → closable n ≡ true → closable y ≡ true) where
  pub closes-below : (d : ℕ) (n : Node) (t : Tree) → Closes Node closable choice children d n t → (y : Node) → Below n y → closable y ≡ true
  unfolding Closes
  closes-below zero n whole h y b = rises n y b h
  closes-below zero n close h y b = absurd h
  closes-below zero n (split o ts) h y b = absurd h
  closes-below (suc d) n whole h y b = absurd h
  closes-below (suc d) n close h y b = rises n y b h
  closes-below (suc d) n (split o ts) h y b =
      let r = reaches n y o h.0 b in
      let w = each-among (Closes Node closable choice children d) (children n o) ts h.1 r.0 r.1 in
      closes-below d r.0 w.0 w.1 y r.2

-- ---- a board's placings

pub allowed-says : (claim : Claim) (c : ℕ) → allowed claim c ≡ true → AtMost claim c
unfolding allowed
allowed-says None c h = cc
allowed-says (Some least) c h = leb-true least c h

pub says-allowed : (claim : Claim) (c : ℕ) → AtMost claim c → allowed claim c ≡ true
unfolding allowed
says-allowed None c h = absurd h
says-allowed (Some least) c h = le-leb least c h

-- what costs more is at most that too
at_most-on : (claim : Claim) (c d : ℕ) → AtMost claim c → c ≤ d → AtMost claim d
at_most-on None c d h l = h
at_most-on (Some least) c d h l = omega arith

-- an operation to split on is one of the board's, and not placed
pub unplaced-below : (n : ℕ) (starts : List ℕ) (o : ℕ) → unplaced n starts o ≡ true → o < n
unfolding unplaced
unplaced-below n starts o h = ltb-true o n (and_both (ltb o n) (not (placed starts o)) h).0

-- y, which places all operations and is live, goes on from p
record Below (b : Board) (p y : Placing) : Type 0 where
  starts-long : length p.starts ≡ op_cells
  insts-long : length p.insts ≡ op_cells
  part : Part p y
  all_placed : PlacedTo b b.n y
  alive : live b y ≡ true

module _ (b : Board) (of : OfJob b) (claim : Claim) where
  -- the option of an operation that a placing has
  abbrev row_in : Placing → ℕ → Option
  row_in y o = record { start = cell y.starts o; inst = cell y.insts o }

  put-below : (p y : Placing) (o : ℕ) → o < op_cells → Below b p y → Below b (put p o (row_in y o)) y
  put-below p y o l w =
      record {
        starts-long = length-set p.starts o (cell y.starts o) ∙ w.starts-long;
        insts-long = length-set p.insts o (cell y.insts o) ∙ w.insts-long;
        part = record { rows = λ x. row x (ℕ_discrete x o) };
        all_placed = w.all_placed;
        alive = w.alive;
      }
    where
      row : (x : ℕ) → Dec (x ≡ o) → (cell (put p o (row_in y o)).starts x ≡ 0)
          ⊎ ((cell (put p o (row_in y o)).starts x ≡ cell y.starts x) × (cell (put p o (row_in y o)).insts x ≡ cell y.insts x))
      row x (yes e) =
          inr (rw e (
            get_or-set_same p.starts o (cell y.starts o) 0 (omega (arith, w.starts-long)),
            get_or-set_same p.insts o (cell y.insts o) 0 (omega (arith, w.insts-long)),
          ))
      row x (no d) =
          let s = get_or-set_other p.starts o x (cell y.starts o) 0 d in
          let i = get_or-set_other p.insts o x (cell y.insts o) 0 d in
          ⊎_elim (λ e. inl (s ∙ e)) (λ e. inr (s ∙ e.0, i ∙ e.1)) (w.part.rows x)

  below-reaches : (p y : Placing) (o : ℕ) → choice b p o ≡ true → Below b p y → (c : Placing) × Among c (split_on b p o) × Below b c y
  below-reaches p y o h w =
      let l = unplaced-below b.n p.starts o h in
      let r : Option = row_in y o in
      let v = put-below p y o (omega (arith, few-ops b of)) w in
      let alive = part-live b of (put p o r) y v.part v.alive in
      (put p o r, ones-among b p o r (options b) ((options-exactly b r).1 (w.all_placed.rows o l)) alive, v)

  below-rises : (p y : Placing) → Below b p y → closable b claim p ≡ true → closable b claim y ≡ true
  below-rises p y w h =
      says-allowed claim (cost b y) (at_most-on claim (cost b p) (cost b y) (allowed-says claim (cost b p) h) (part-costs b p y w.part))

  none_below : (y : Placing) → PlacedTo b b.n y → live b y ≡ true → Below b none y
  none_below y w alive =
      record {
        starts-long = length-replicate {A = ℕ} op_cells 0;
        insts-long = length-replicate {A = ℕ} op_cells 0;
        part = record { rows = λ o. inl (cell-replicate op_cells o) };
        all_placed = w;
        alive = alive;
      }

  -- every live placing of all operations keeps the claim
  closed_all : (tree : Tree) → ClosesBoard b claim b.n none tree → (y : Placing) → PlacedTo b b.n y → live b y ≡ true
      → AtMost claim (cost b y)
  closed_all tree h y w alive =
      allowed-says claim (cost b y)
      (closes-below Placing (closable b claim) (choice b) (split_on b) (Below b) below-reaches below-rises b.n none tree h y (none_below y w alive))

pub closed-least : (sheet : List ℕ) (j : Job) → read_job sheet ≡ record { answer = Read; job = j } → (claim : Claim) (tree : Tree)
    → ClosesBoard (board_of j) claim (board_of j).n none tree → (q : Plan) → Meets j q → AtMost claim (plan_cost j q)
closed-least sheet j read claim tree h q m =
    let of = of-job sheet j read in
    let l = meets-leaf sheet j read q m in
    let w = leaf-placed (board_of j) of l.leaf l.among in
    at_most-on claim (cost (board_of j) l.leaf) (plan_cost j q) (closed_all (board_of j) of claim tree h l.leaf w.0 w.1) l.cheap
