-- Laws of tidying. An instance stays within its type (`to_below`, `to_type`), the selected keep their order and stay apart (`to-ordered`,
-- `to-apart`), and the selection moved keeps selection order and its cost (`taken-order`, `taken-cost`). So a plan tidied passes
-- (`tidied-passes`) at the same cost (`tidied-cost`), can be written (`tidied-sound`, `tidied-shape`), and is the one lent with its selected
-- instances moved (`tidied-to`).
use Prim.Native.Nat.{ℕ, zero, suc, ◌+◌, ◌*◌, ◌<◌, ◌≤◌}
use mathlib.Core.Path.{◌≡◌, refl, sym, ap, subst, ◌∙◌}
use mathlib.Core.Bool.{Bool, true, false, not}
use mathlib.Core.List.{List}
use native.Mathlib.Decide.{ℕ_discrete, dec_lt}
use native.Mathlib.Omega.{arith}
use borrow.Author.Tests.{eqb-true, lt-ltb, le-ltb, eq-eqb, ne_eqb}
use lib.Dec.{eqb, lit<}
use Rattle.basics.specs.Counting.{any_to, sum_to, only}
use Rattle.basics.specs.Faults.{◌or_else◌, fault_unless}
use Rattle.basics.specs.Numbers.{counts_differ, order_broken, precedence_broken, resource_broken, chain_broken, record_broken}
use Rattle.basics.specs.Tables.{cell}
use Rattle.basics.proofs.CountLaws.{sum_to-cong, and_both, both-and, any_to-some, some-any_to, any_to-none, only-small}
use Rattle.basics.proofs.FaultLaws.{or_else-none, none-or_else, unless-none, none-unless, first-none, none_first}
use Rattle.basics.proofs.TableLaws.{length-cells, cell-cells, cell-unused, cells-cong, each_within, blank-each, blank-cells}
use Rattle.sheets.specs.Limits.{kind_count, op_cells, inst_cells, max_select, max_steps, max_inst}
use Rattle.sheets.specs.PlanSheet.{PlanShape, plan_fits, plan_record_fault}
use Rattle.sheets.specs.declared.Job.{Job}
use Rattle.sheets.specs.declared.Plan.{Plan}
use Rattle.sheets.proofs.PlanFieldLaws.{PlanSound, none-plan}
use Rattle.rules.specs.Judge.{counts_fault, placing_fault, fault_with, judge_fault, plan_cost}
use Rattle.rules.specs.Model.{inst_count, types_of, span_of, in_steps, steps_of, row_at, row_table, timing_in, timing_of}
use Rattle.rules.specs.Rules.{row_fault_at, rows_fault, precedence_ok, resource_ok, chains_ok}
use Rattle.rules.specs.Selection.{selected, order_ok, cost_at, selection_cost}
use Rattle.rules.specs.declared.Spans.{Spans}
use Rattle.rules.proofs.JudgeLaws.{counts-agree}
use Rattle.rules.proofs.ModelLaws.{types-rise}
use Rattle.rules.proofs.RuleLaws.{says-order, RowOk, none_row, row-none, resource-says, says-resource}
use Rattle.moves.specs.Moved.{TidiedTo}
use Rattle.moves.specs.Tidy.{moves_past, past_at, moves_to, moves_in, takes, taken_at, taken_in, follows_at, follows_in, tidied}
use Rattle.moves.proofs.SumLaws.{sum_to-none, sum_to-but, or_off, only-not, only-on, only-off, eqb-only, last_to, last_to-holds}

-- ---- which instances one moves past

module _ (types selection : List ℕ) (i l : ℕ) where
  past-before : l ≤ i → past_at types selection i l ≡ 0
  unfolding moves_past only
  past-before h = rw (le-ltb i l h)

  past-other : (cell types l ≡ cell types i → ⊥) → past_at types selection i l ≡ 0
  unfolding moves_past only
  past-other d =
      elim (dec_lt i l) [
        | yes h ↦ rw (lt-ltb i l h, ne_eqb (cell types l) (cell types i) d)
        | no h ↦ past-before (omega arith)
      ]

  past_same : i < l → cell types l ≡ cell types i → past_at types selection i l ≡ only (not (selected selection l)) 1
  unfolding moves_past
  past_same h e = rw (lt-ltb i l h, eq-eqb (cell types l) (cell types i) e)

-- an instance that is selected and moves to instance m, of k
record Comes (types selection : List ℕ) (k m : ℕ) : Type 0 where
  number : ℕ
  below : number < k
  chosen : cell selection number ≡ 1
  there : moves_to types selection k number ≡ m

-- ---- where an instance moves to, of k instances whose types rise

module _ (types selection : List ℕ) (k : ℕ) (rise : (i l : ℕ) → i ≤ l → l < k → cell types i ≤ cell types l) where
  abbrev to : ℕ → ℕ
  to i = moves_to types selection k i

  abbrev one : ℕ → ℕ
  one i = only (selected selection i) 1

  one_on : (i : ℕ) → cell selection i ≡ 1 → one i ≡ 1
  one_on i s = only-on (selected selection i) (eq-eqb (cell selection i) 1 s)

  one-off : (i : ℕ) → (cell selection i ≡ 1 → ⊥) → one i ≡ 0
  one-off i d = only-off (selected selection i) (ne_eqb (cell selection i) 1 d)

  to-behind : (i : ℕ) → i ≤ to i
  unfolding moves_to
  to-behind i = omega arith

  -- a neighbour of the type moves to the same place, or one further where it is selected
  past_next : (i : ℕ) → cell types (suc i) ≡ cell types i → (l : ℕ) → (l ≡ suc i → ⊥) → past_at types selection i l ≡ past_at types selection (suc i) l
  past_next i e l d =
      elim (dec_lt i l) [
        | yes h ↦
            elim (ℕ_discrete (cell types l) (cell types i)) [
              | yes t ↦ past_same types selection i l h t ∙ sym (past_same types selection (suc i) l (omega (arith, d)) (t ∙ sym e))
              | no t ↦ past-other types selection i l t ∙ sym (past-other types selection (suc i) l (λ w. t (w ∙ e)))
            ]
        | no h ↦ past-before types selection i l (omega arith) ∙ sym (past-before types selection (suc i) l (omega arith))
      ]

  to-next : (i : ℕ) → suc i < k → cell types (suc i) ≡ cell types i → to (suc i) ≡ to i + one (suc i)
  unfolding moves_to
  to-next i l e =
      let here : past_at types selection i (suc i) ≡ past_at types selection (suc i) (suc i) + only (not (selected selection (suc i))) 1 =
      omega (arith, past_same types selection i (suc i) (omega arith) e, past-before types selection (suc i) (suc i) (omega arith)) in
      let gaps =
      sum_to-but (past_at types selection i) (past_at types selection (suc i)) (suc i) (only (not (selected selection (suc i))) 1) k l here (λ a w d.
      past_next i e a d) in
      omega (arith, gaps, only-not (selected selection (suc i)))

  -- the last of a type stays
  to_last : (i : ℕ) → (suc i < k → cell types (suc i) ≡ cell types i → ⊥) → to i ≡ i
  unfolding moves_to
  to_last i none =
      let far : (l : ℕ) → l < k → past_at types selection i l ≡ 0 =
      λ l w. elim (dec_lt i l) [
        | yes h ↦
            past-other types selection i l (λ t.
            none (omega arith) (omega (arith, t, rise i (suc i) (omega arith) (omega arith), rise (suc i) l (omega arith) w)))
        | no h ↦ past-before types selection i l (omega arith)
      ] in
      omega (arith, sum_to-none (past_at types selection i) k far)

  -- an instance stays within its type; `more` is how many may be behind it
  to-within : (more i : ℕ) → i < k → k ≤ more + i → (to i < k) × (cell types (to i) ≡ cell types i)
  to-within zero i l h = absurd (omega arith)
  to-within (suc more) i l h =
      let stays : (suc i < k → cell types (suc i) ≡ cell types i → ⊥) → (to i < k) × (cell types (to i) ≡ cell types i) =
      λ none. let e = to_last i none in (omega (arith, e), ap (λ (x : ℕ). cell types x) e) in
      elim (dec_lt (suc i) k) [
        | yes n ↦
            elim (ℕ_discrete (cell types (suc i)) (cell types i)) [
              | yes e ↦
                  let w = to-within more (suc i) n (omega arith) in
                  let s = to-next i n e in
                  let b : to i < k = omega (arith, w.0) in
                  (b, omega (arith, w.1, e, rise i (to i) (to-behind i) b, rise (to i) (to (suc i)) (omega arith) w.0))
              | no d ↦ stays (λ a. d)
            ]
        | no d ↦ stays (λ a t. d a)
      ]

  pub to_below : (i : ℕ) → i < k → to i < k
  to_below i l = (to-within k i l (omega arith)).0

  pub to_type : (i : ℕ) → i < k → cell types (to i) ≡ cell types i
  to_type i l = (to-within k i l (omega arith)).1

  -- order is kept
  to-rises : (i l : ℕ) → i < l → l < k → cell types i ≡ cell types l → to i + one l ≤ to l
  to-rises i zero h w e = absurd (omega arith)
  to-rises i (suc l) h w e =
      let q : cell types l ≡ cell types i = omega (arith, e, rise i l (omega arith) (omega arith), rise l (suc l) (omega arith) w) in
      let s = to-next l w (sym e ∙ sym q) in
      elim (dec_lt i l) [
        | yes a ↦ omega (arith, s, to-rises i l a (omega arith) (sym q))
        | no a ↦ let z : i ≡ l = omega arith in let t : to i ≡ to l = ap (λ (x : ℕ). to x) z in omega (arith, s, t)
      ]

  pub to-ordered : (i l : ℕ) → i < l → l < k → cell types i ≡ cell types l → cell selection l ≡ 1 → to i < to l
  to-ordered i l h w e s = omega (arith, to-rises i l h w e, one_on l s)

  -- two selected instances do not move to one
  pub to-apart : (i l : ℕ) → i < k → l < k → cell selection i ≡ 1 → cell selection l ≡ 1 → to i ≡ to l → i ≡ l
  to-apart i l a b s t e =
      let same : cell types i ≡ cell types l = sym (to_type i a) ∙ ap (λ (x : ℕ). cell types x) e ∙ to_type l b in
      elim (dec_lt i l) [
        | yes h ↦ absurd (omega (arith, e, to-ordered i l h b same t))
        | no h ↦ elim (dec_lt l i) [ yes w ↦ absurd (omega (arith, e, to-ordered l i w a (sym same) s)) | no w ↦ omega arith ]
      ]

  -- where i moves to m and m has a neighbour behind it in the type, a selected one behind i moves there
  to-follows : (more i m : ℕ) → i < k → k ≤ more + i → to i ≡ m → suc m < k → cell types (suc m) ≡ cell types i → Comes types selection k (suc m)
  to-follows zero i m l h e n t = absurd (omega arith)
  to-follows (suc more) i m l h e n t =
      elim (dec_lt (suc i) k) [
        | yes a ↦
            elim (ℕ_discrete (cell types (suc i)) (cell types i)) [
              | yes q ↦
                  elim (ℕ_discrete (cell selection (suc i)) 1) [
                    | yes s ↦ record { number = suc i; below = a; chosen = s; there = omega (arith, e, to-next i a q, one_on (suc i) s) }
                    | no s ↦ to-follows more (suc i) m a (omega arith) (omega (arith, e, to-next i a q, one-off (suc i) s)) n (t ∙ sym q)
                  ]
              | no d ↦ absurd (let z : m ≡ i = sym e ∙ to_last i (λ b. d) in d (ap (λ (x : ℕ). cell types (suc x)) (sym z) ∙ t))
            ]
        | no d ↦ absurd (omega (arith, e, to_last i (λ b q. d b)))
      ]

  -- ---- the selection moved

  module _ (few : k ≤ inst_cells) where
    abbrev moves : List ℕ
    moves = moves_in types selection k

    abbrev marks : List ℕ
    marks = taken_in moves selection k

    moves_cell : (i : ℕ) → i < k → cell moves i ≡ to i
    moves_cell i l = cell-cells (moves_to types selection k) k inst_cells i l few

    takes-says : (m i : ℕ) → i < k → takes moves selection m i ≡ true → (cell selection i ≡ 1) × (to i ≡ m)
    unfolding takes
    takes-says m i l h =
        let w = and_both (selected selection i) (eqb (cell moves i) m) h in
        (eqb-true (cell selection i) 1 w.0, sym (moves_cell i l) ∙ eqb-true (cell moves i) m w.1)

    says-takes : (m i : ℕ) → i < k → cell selection i ≡ 1 → to i ≡ m → takes moves selection m i ≡ true
    unfolding takes
    says-takes m i l s e = both-and _ _ (eq-eqb (cell selection i) 1 s) (eq-eqb (cell moves i) m (moves_cell i l ∙ e))

    takes-not : (m i : ℕ) → i < k → (cell selection i ≡ 1 → to i ≡ m → ⊥) → takes moves selection m i ≡ false
    takes-not m i l d = go (takes moves selection m i) refl
      where
        go : (b : Bool) → takes moves selection m i ≡ b → takes moves selection m i ≡ false
        go true e = absurd (let w = takes-says m i l e in d w.0 w.1)
        go false e = e

    marks-cell : (m : ℕ) → m < k → cell marks m ≡ only (any_to (takes moves selection m) k) 1
    unfolding taken_at
    marks-cell m l = cell-cells (taken_at moves selection k) k inst_cells m l few

    marks-selected : (m : ℕ) → m < k → selected marks m ≡ any_to (takes moves selection m) k
    marks-selected m l = ap (λ (x : ℕ). eqb x 1) (marks-cell m l) ∙ eqb-only (any_to (takes moves selection m) k)

    marks-any : (m : ℕ) → m < k → cell marks m ≡ 1 → any_to (takes moves selection m) k ≡ true
    marks-any m l h = sym (marks-selected m l) ∙ eq-eqb (cell marks m) 1 h

    -- the selected are those to which a selected one moves
    comes-taken : (m : ℕ) → m < k → Comes types selection k m → cell marks m ≡ 1
    comes-taken m l w =
        marks-cell m l ∙ only-on (any_to (takes moves selection m) k)
        (some-any_to (takes moves selection m) k w.number w.below (says-takes m w.number w.below w.chosen w.there))

    taken-comes : (m : ℕ) → m < k → cell marks m ≡ 1 → Comes types selection k m
    taken-comes m l h =
        let w = any_to-some (takes moves selection m) k (marks-any m l h) in
        let t = takes-says m w.number w.below w.holds in
        record { number = w.number; below = w.below; chosen = t.0; there = t.1 }

    to-taken : (i : ℕ) → i < k → cell selection i ≡ 1 → cell marks (to i) ≡ 1
    to-taken i l s = comes-taken (to i) (to_below i l) (record { number = i; below = l; chosen = s; there = refl })

    -- the one that moves to m, found by looking
    abbrev comes_to : ℕ → ℕ
    comes_to m = last_to (takes moves selection m) k

    taken-found : (m : ℕ) → m < k → cell marks m ≡ 1 → (comes_to m < k) × (cell selection (comes_to m) ≡ 1) × (to (comes_to m) ≡ m)
    taken-found m l h =
        let w = last_to-holds (takes moves selection m) k (marks-any m l h) in
        let t = takes-says m (comes_to m) w.0 w.1 in
        (w.0, t.0, t.1)

    -- ---- it keeps selection order

    taken_next : (m : ℕ) → suc m < k → cell types m ≡ cell types (suc m) → cell marks m ≡ 1 → cell marks (suc m) ≡ 1
    taken_next m l e h =
        let w = taken-comes m (omega arith) h in
        let t : cell types m ≡ cell types w.number = ap (λ (x : ℕ). cell types x) (sym w.there) ∙ to_type w.number w.below in
        comes-taken (suc m) l (to-follows k w.number m w.below (omega arith) w.there l (sym e ∙ t))

    taken-ordered : (i l : ℕ) → i < l → l < k → cell types i ≡ cell types l → cell marks i ≡ 1 → cell marks l ≡ 1
    taken-ordered i zero h w e s = absurd (omega arith)
    taken-ordered i (suc l) h w e s =
        let q : cell types l ≡ cell types (suc l) = omega (arith, e, rise i l (omega arith) (omega arith), rise l (suc l) (omega arith) w) in
        elim (dec_lt i l) [
          | yes a ↦ taken_next l w q (taken-ordered i l a (omega arith) (e ∙ sym q) s)
          | no a ↦ let z : i ≡ l = omega arith in taken_next l w q (ap (λ (x : ℕ). cell marks x) (sym z) ∙ s)
        ]

    pub taken-order : order_ok types marks k ≡ true
    taken-order = says-order types marks k taken-ordered

    -- ---- it costs the same

    -- f over those to which the first n move is f over the first n
    taken-sum : (f : ℕ → ℕ) → ((i : ℕ) → i < k → f (to i) ≡ f i) → (n : ℕ) → n ≤ k
        → sum_to (λ m. only (any_to (takes moves selection m) n) (f m)) k ≡ sum_to (λ i. only (selected selection i) (f i)) n
    unfolding any_to only sum_to
    taken-sum f h zero l = sum_to-none (λ m. only (any_to (takes moves selection m) 0) (f m)) k (λ m w. refl)
    taken-sum f h (suc n) l =
        let before = taken-sum f h n (omega arith) in
        let more : ℕ → ℕ = λ m. only (any_to (takes moves selection m) (suc n)) (f m) in
        let fewer : ℕ → ℕ = λ m. only (any_to (takes moves selection m) n) (f m) in
        let other : (m : ℕ) → takes moves selection m n ≡ false → more m ≡ fewer m =
        λ m e. ap (λ (b : Bool). only b (f m)) (or_off (any_to (takes moves selection m) n) (takes moves selection m n) e) in
        elim (ℕ_discrete (cell selection n) 1) [
          | yes s ↦
              let none : any_to (takes moves selection (to n)) n ≡ false =
              any_to-none (takes moves selection (to n)) n (λ i w. takes-not (to n) i (omega arith) (λ c e.
              let z : i ≡ n = to-apart i n (omega arith) l c s e in
              omega arith)) in
              let here : more (to n) ≡ fewer (to n) + f n = rw (none, says-takes (to n) n l s refl) (omega (arith, h n l)) in
              let sum = sum_to-but more fewer (to n) (f n) k (to_below n l) here (λ m w d. other m (takes-not m n l (λ c e. d (sym e)))) in
              let own : only (selected selection n) (f n) ≡ f n = rw (eq-eqb (cell selection n) 1 s) in
              omega (arith, sum, before, own)
          | no s ↦
              let sum = sum_to-cong more fewer k (λ m w. other m (takes-not m n l (λ c e. s c))) in
              let own : only (selected selection n) (f n) ≡ 0 = rw (ne_eqb (cell selection n) 1 s) in
              omega (arith, sum, before, own)
        ]

    pub taken-cost : (costs : List ℕ) → selection_cost costs types (selected marks) k ≡ selection_cost costs types (selected selection) k
    unfolding selection_cost cost_at
    taken-cost costs =
        let f : ℕ → ℕ = λ m. cell costs (cell types m) in
        sum_to-cong (cost_at costs types (selected marks)) (λ m. only (any_to (takes moves selection m) k) (f m)) k (λ m l.
        ap (λ (b : Bool). only b (f m)) (marks-selected m l))
        ∙ taken-sum f (λ i l. ap (λ (y : ℕ). cell costs y) (to_type i l)) k (omega arith)

-- ---- what a row takes depends on no more of its instance than the type

timing-same : (types : List ℕ) (clock : ℕ) (kinds times intervals insts insts' : List ℕ)
    → ((o : ℕ) → o < op_cells → cell types (cell insts o) ≡ cell types (cell insts' o))
    → timing_in types clock kinds times intervals insts ≡ timing_in types clock kinds times intervals insts'
unfolding timing_in
timing-same types clock kinds times intervals insts insts' h =
    let span : (pairs : List ℕ) (o : ℕ) → o < op_cells → span_of types kinds pairs o (cell insts o) ≡ span_of types kinds pairs o (cell insts' o) =
    λ pairs o l. ap (λ (y : ℕ). cell pairs (kind_count * y + cell kinds o)) (h o l) in
    let table : (of : ℕ → ℕ → ℕ) → ((o : ℕ) → o < op_cells → of o (cell insts o) ≡ of o (cell insts' o)) → row_table of insts ≡ row_table of insts' =
    λ of w. cells-cong (row_at of insts) (row_at of insts') op_cells op_cells w in
    let t = table (span_of types kinds times) (span times) in
    let d = table (steps_of clock (span_of types kinds times)) (λ o l. ap (λ (x : ℕ). in_steps clock x) (span times o l)) in
    let s = table (steps_of clock (span_of types kinds intervals)) (λ o l. ap (λ (x : ℕ). in_steps clock x) (span intervals o l)) in
    λ i. record { times = t i; delays = d i; spacings = s i }

-- ---- a plan that breaks no rule but possibly selection order

module _ (j : Job) (p : Plan) (shape : PlanShape p) (written : plan_record_fault p ≡ 0) (unbroken : fault_with false j p ≡ 0) where
  abbrev place_of : ℕ → ℕ
  place_of i = moves_to (types_of j) p.selection p.k i

  abbrev places : List ℕ
  places = moves_in (types_of j) p.selection p.k

  abbrev new_marks : List ℕ
  new_marks = taken_in places p.selection p.k

  abbrev new_insts : List ℕ
  new_insts = follows_in places p.insts p.n

  abbrev timing : Spans op_cells
  timing = timing_of j p.insts

  sound : PlanSound p
  sound = none-plan p written

  counts : (p.n ≡ j.n) × (p.k ≡ inst_count j)
  counts = counts-agree false j p unbroken

  types-risen : (i l : ℕ) → i ≤ l → l < p.k → cell (types_of j) i ≤ cell (types_of j) l
  types-risen i l h w = types-rise j.copies j.m i l h (omega (arith, sound.insts))

  -- the four parts of judging that are asked of it
  parts : (rows_fault j.n (inst_count j) j.t p.starts p.insts timing.times timing.delays p.selection ≡ 0)
      × (precedence_ok j.from j.to j.e p.starts timing.delays ≡ true)
      × (resource_ok j.n p.starts p.insts timing.spacings ≡ true)
      × (chains_ok j.from j.to j.e j.wire j.clock p.starts timing.times ≡ true)
  unfolding fault_with placing_fault
  parts =
      let a = or_else-none _ _ (or_else-none _ _ unbroken).1 in
      let b = or_else-none _ _ a.1 in
      let d = or_else-none _ _ b.1 in
      let e = or_else-none _ _ d.1 in
      (b.0, unless-none _ precedence_broken (lit< tt) d.0, unless-none _ resource_broken (lit< tt) e.0, unless-none _ chain_broken (lit< tt) e.1)

  row : (o : ℕ) → o < j.n
      → RowOk (inst_count j) j.t (cell p.insts o) (cell timing.times o) (selected p.selection (cell p.insts o)) (cell p.starts o)
      (cell timing.delays o)
  unfolding rows_fault row_fault_at
  row o l =
      let fault : ℕ → ℕ = row_fault_at (inst_count j) j.t p.starts p.insts timing.times timing.delays p.selection in
      none_row _ _ _ _ _ _ _ (first-none fault j.n parts.0 o l)

  row_below : (o : ℕ) → o < j.n → cell p.insts o < p.k
  row_below o l = omega (arith, (row o l).instance, counts.1)

  row-chosen : (o : ℕ) → o < j.n → cell p.selection (cell p.insts o) ≡ 1
  row-chosen o l = eqb-true (cell p.selection (cell p.insts o)) 1 (row o l).selects

  -- ---- its rows moved

  row-follows : (o : ℕ) → o < j.n → cell new_insts o ≡ place_of (cell p.insts o)
  row-follows o l =
      cell-cells (follows_at places p.insts) p.n op_cells o (omega (arith, counts.0)) sound.ops
      ∙ moves_cell (types_of j) p.selection p.k types-risen sound.insts (cell p.insts o) (row_below o l)

  row_type : (o : ℕ) → o < op_cells → cell (types_of j) (cell new_insts o) ≡ cell (types_of j) (cell p.insts o)
  row_type o l =
      elim (dec_lt o p.n) [
        | yes h ↦
            let w : o < j.n = omega (arith, counts.0) in
            ap (λ (x : ℕ). cell (types_of j) x) (row-follows o w) ∙ to_type (types_of j) p.selection p.k types-risen (cell p.insts o) (row_below o w)
        | no h ↦
            let z : cell new_insts o ≡ 0 = cell-unused (follows_at places p.insts) p.n op_cells o (omega arith) in
            let y : cell p.insts o ≡ 0 = blank-each p.insts p.n sound.unused_rows o (omega arith) (omega (arith, shape.insts)) in
            ap (λ (x : ℕ). cell (types_of j) x) (z ∙ sym y)
      ]

  timing-kept : timing_of j new_insts ≡ timing
  timing-kept = timing-same (types_of j) j.clock j.kinds j.times j.intervals new_insts p.insts row_type

  -- ---- the parts of judging, of the plan moved

  order-kept : order_ok (types_of j) new_marks (inst_count j) ≡ true
  order-kept =
      subst (λ (k : ℕ). order_ok (types_of j) new_marks k ≡ true) counts.1
      (taken-order (types_of j) p.selection p.k types-risen sound.insts)

  rows-kept : rows_fault j.n (inst_count j) j.t p.starts new_insts timing.times timing.delays new_marks ≡ 0
  unfolding rows_fault row_fault_at
  rows-kept =
      none_first (row_fault_at (inst_count j) j.t p.starts new_insts timing.times timing.delays new_marks) j.n (λ o l.
      let r = row o l in
      let i : ℕ = cell p.insts o in
      let e : cell new_insts o ≡ place_of i = row-follows o l in
      let below = to_below (types_of j) p.selection p.k types-risen i (row_below o l) in
      let taken : cell new_marks (cell new_insts o) ≡ 1 =
      ap (λ (x : ℕ). cell new_marks x) e ∙ to-taken (types_of j) p.selection p.k types-risen sound.insts i (row_below o l) (row-chosen o l) in
      row-none _ _ _ _ _ _ _ (record {
        instance = omega (arith, e, below, counts.1);
        able = r.able;
        selects = eq-eqb (cell new_marks (cell new_insts o)) 1 taken;
        begins = r.begins;
        ends = r.ends;
      }))

  resource-kept : resource_ok j.n p.starts new_insts timing.spacings ≡ true
  resource-kept =
      let begun : (o : ℕ) → o < j.n → 1 ≤ cell p.starts o = λ o l. (row o l).begins in
      says-resource p.starts new_insts timing.spacings j.n begun (λ a b la lb d e l.
      let one : cell p.insts a ≡ cell p.insts b =
      to-apart (types_of j) p.selection p.k types-risen (cell p.insts a) (cell p.insts b) (row_below a la) (row_below b lb)
      (row-chosen a la) (row-chosen b lb) (sym (row-follows a la) ∙ e ∙ row-follows b lb) in
      resource-says p.starts p.insts timing.spacings j.n begun parts.2 a b la lb d one l)

  -- its fault, where its rows take so much
  abbrev fault_taking : Spans op_cells → ℕ
  fault_taking taking =
      counts_fault p.n p.k j.n (inst_count j) or_else
      fault_unless (order_ok (types_of j) new_marks (inst_count j)) order_broken or_else
      rows_fault j.n (inst_count j) j.t p.starts new_insts taking.times taking.delays new_marks or_else
      placing_fault j.n j.e j.wire j.clock j.from j.to p.starts new_insts taking

  fault-none : fault_taking timing ≡ 0
  unfolding counts_fault placing_fault
  fault-none =
      none-or_else _ _ (none-unless _ counts_differ (both-and _ _ (eq-eqb _ _ counts.0) (eq-eqb _ _ counts.1)))
      (none-or_else _ _ (none-unless _ order_broken order-kept)
      (none-or_else _ _ rows-kept
      (none-or_else _ _ (none-unless _ precedence_broken parts.1)
      (none-or_else _ _ (none-unless _ resource_broken resource-kept) (none-unless _ chain_broken parts.3)))))

  pub tidied-passes : judge_fault j (tidied j p) ≡ 0
  unfolding judge_fault fault_with tidied
  tidied-passes = subst (λ (taking : Spans op_cells). fault_taking taking ≡ 0) (sym timing-kept) fault-none

  pub tidied-cost : plan_cost j (tidied j p) ≡ plan_cost j p
  unfolding plan_cost tidied
  tidied-cost =
      let cost : List ℕ → ℕ → ℕ = λ marks k. selection_cost j.costs (types_of j) (selected marks) k in
      subst (λ (k : ℕ). cost new_marks k ≡ cost p.selection k) counts.1
      (taken-cost (types_of j) p.selection p.k types-risen sound.insts j.costs)

  -- ---- the record

  pub tidied-sound : plan_record_fault (tidied j p) ≡ 0
  unfolding plan_record_fault plan_fits tidied
  tidied-sound =
      let a =
      each_within new_marks max_select p.k (λ i l.
      let e = marks-cell (types_of j) p.selection p.k types-risen sound.insts i l in
      omega (arith, e, only-small (any_to (takes places p.selection i) p.k) 1)) in
      let b = each_within p.starts max_steps p.n sound.starts in
      let d =
      each_within new_insts max_inst p.n (λ o l.
      let w : o < j.n = omega (arith, counts.0) in
      omega (arith, row-follows o w, to_below (types_of j) p.selection p.k types-risen (cell p.insts o) (row_below o w), sound.insts)) in
      none-or_else _ _ (or_else-none _ _ written).0
      (none-unless _ record_broken (both-and _ _ (both-and _ _ (both-and _ _ (both-and _ _ (both-and _ _ a b) d)
      (blank-cells (taken_at places p.selection p.k) p.k inst_cells))
      sound.unused_starts)
      (blank-cells (follows_at places p.insts) p.n op_cells)))

  pub tidied-shape : PlanShape (tidied j p)
  unfolding tidied
  tidied-shape =
      record {
        selection = length-cells (taken_at places p.selection p.k) p.k inst_cells;
        starts = shape.starts;
        insts = length-cells (follows_at places p.insts) p.n op_cells;
      }

  -- ---- what has become of each instance

  pub tidied-to : TidiedTo j p (tidied j p)
  unfolding tidied
  tidied-to =
      let in-plan : (i : ℕ) → i < inst_count j → i < p.k = λ i l. omega (arith, counts.1) in
      record {
        operations = refl;
        instances = refl;
        to = place_of;
        below = λ i l s. omega (arith, counts.1, to_below (types_of j) p.selection p.k types-risen i (in-plan i l));
        same_type = λ i l s. to_type (types_of j) p.selection p.k types-risen i (in-plan i l);
        in_order = λ i l h w e s t. to-ordered (types_of j) p.selection p.k types-risen i l h (in-plan l w) e t;
        taken = λ i l s. to-taken (types_of j) p.selection p.k types-risen sound.insts i (in-plan i l) s;
        from = comes_to (types_of j) p.selection p.k types-risen sound.insts;
        found = λ m l h.
            let w = taken-found (types_of j) p.selection p.k types-risen sound.insts m (in-plan m l) h in
            (omega (arith, counts.1, w.0), w.1, w.2);
        rows = row-follows;
        starts = refl;
      }
