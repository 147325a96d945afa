-- What each answer of the search on bytes means: `spent-exactly`, `none-exactly`, `found-exactly` and `refused-exactly`. Only found
-- changes the output (`untouched`). There is one plan to be found (`one-plan`), and one answer of the code for each (`one_searched`).
use Prim.Native.Nat.{ℕ, ◌+◌, ◌/◌, ◌≤◌, ◌<◌}
use mathlib.Core.Path.{◌≡◌, refl, sym, ap, subst, ◌∙◌}
use mathlib.Core.Bool.{Bool, true, false}
use mathlib.Core.List.{List, ◌++◌}
use mathlib.Core.Logic.{◌⊎◌, inl, inr, ⊎_elim, ◌↔◌}
use native.Mathlib.Decide.{dec_lt, ℕ_discrete}
use native.Mathlib.Omega.{arith}
use borrow.Author.Tests.{le-leb, lt-leb}
use lib.ListN.{length, drop}
use lib.Seq.{ext_get_or}
use Rattle.basics.specs.Numbers.{output_short, paper_request}
use Rattle.basics.specs.Tables.{cell, blank}
use Rattle.basics.proofs.TableLaws.{blank-each}
use Rattle.sheets.specs.Answers.{if_room, written, output}
use Rattle.sheets.specs.JobSheet.{read_job}
use Rattle.sheets.specs.PlanSheet.{PlanShape, plan_end, plan_record_fault, plan_sheet, write_plan, plan_out}
use Rattle.sheets.specs.declared.Job.{Job}
use Rattle.sheets.specs.declared.Plan.{Plan}
use Rattle.sheets.specs.Answers.{Reading, Read, Unread}
use Rattle.sheets.proofs.PlanFieldLaws.{none-plan}
use Rattle.sheets.proofs.PlanRoundTrip.{sheet-length}
use Rattle.rules.specs.Model.{inst_count}
use Rattle.rules.specs.Meets.{Meets, start, inst, Selected}
use Rattle.placing.specs.Board.{board_of}
use Rattle.search.specs.Search.{walked, wrote, answered, found_of, searched_of, searched_says, search_job, out_if, search_job_out, if_read, search, out_if_read, search_out}
use Rattle.placing.specs.Plans.{plan_from}
use Rattle.search.specs.Cheapest.{SameRow, SameRows, Before, FirstCheapest, Spends, NoPlan, Finds, Refusal}
use Rattle.std.specs.Prelude.{Result, Ok, Err, IfOk, IfErr}
use Rattle.basics.specs.Answers.{refused_says}
use Rattle.basics.specs.declared.Answer.{Answer}
use Rattle.basics.specs.Faults.{number_of, paper_of}
use Rattle.basics.specs.declared.refusals.Refusal.{Refusal as Reason}
use Rattle.basics.proofs.AnswerLaws.{refusal-one}
use Rattle.search.specs.declared.Finding.{Finding}
use Rattle.search.specs.declared.Finding.TheVariants.{Found as IsFound, Nothing as IsNothing, Spent as IsSpent}
use Rattle.search.specs.Search.{Searched, Found, Nothing, Spent, Refused}
use Rattle.search.proofs.SearchMeets.{search-none, search-found, found-shape, found-sound}

-- ---- one plan to be found

module _ (j : Job) where
  abbrev SoonerRow : Plan → Plan → ℕ → Type 0
  SoonerRow p q o = (start j p o < start j q o) ⊎ ((start j p o ≡ start j q o) × (inst j p o < inst j q o))

  unlike : (p q : Plan) (o : ℕ) → SoonerRow p q o → SameRow j q p o → ⊥
  unlike p q o h e = ⊎_elim (λ l. omega (arith, e.0)) (λ l. omega (arith, e.1, l.1)) h

  not-both : (p q : Plan) → Before j p q → Before j q p → ⊥
  not-both p q a b =
      elim (dec_lt a.op b.op) [
        | yes l ↦ unlike p q a.op a.sooner (b.alike a.op l)
        | no l ↦
            elim (dec_lt b.op a.op) [
              | yes m ↦ unlike q p b.op b.sooner (a.alike b.op m)
              | no m ↦
                  let e : b.op ≡ a.op = omega arith in
                  let s : SoonerRow q p a.op = rw e at b.sooner in
                  ⊎_elim (λ x. ⊎_elim (λ y. omega arith) (λ y. omega (arith, y.0)) s)
                  (λ x. ⊎_elim (λ y. omega (arith, x.0)) (λ y. omega (arith, x.1, y.1)) s) a.sooner
            ]
      ]

  -- two are of one cost, and have the same rows and selection
  pub record Alike (p q : Plan) (c e : ℕ) : Type 0 where
    pub costs : c ≡ e
    pub rows : SameRows j p q
    pub marks : (i : ℕ) → i < inst_count j → Selected j p i ↔ Selected j q i

  pub one-cheapest : (p q : Plan) (c e : ℕ) → FirstCheapest j p c → FirstCheapest j q e → Alike p q c e
  one-cheapest p q c e a b =
      let same : c ≡ e = omega (arith, a.least q b.meets, b.least p a.meets, a.costs, b.costs) in
      let never : Before j p q → ⊥ =
      λ f. ⊎_elim (λ s. unlike p q f.op f.sooner (s f.op f.below)) (not-both p q f) (b.first p a.meets (a.costs ∙ same)) in
      let one : SameRows j p q = ⊎_elim (λ s. s) (λ f. absurd (never f)) (a.first q b.meets (b.costs ∙ sym same)) in
      let other : SameRows j q p = λ o l. let s = one o l in (sym s.0, sym s.1) in
      record {
        costs = same;
        rows = one;
        marks = λ i l. (a.smallest q b.meets one i l, b.smallest p a.meets other i l);
      }

-- tables of one size whose first n cells are the same and whose others are 0
same-table : (table table' : List ℕ) (n : ℕ) → length table ≡ length table' → blank table n ≡ true → blank table' n ≡ true
    → ((i : ℕ) → i < n → cell table i ≡ cell table' i) → table ≡ table'
same-table table table' n e z z' h = ext_get_or 0 table table' e (λ i l. go i l (dec_lt i n))
  where
    go : (i : ℕ) → i < length table → Dec (i < n) → cell table i ≡ cell table' i
    go i l (yes m) = h i m
    go i l (no m) = blank-each table n z i (omega arith) l ∙ sym (blank-each table' n z' i (omega arith) (omega arith))

-- a mark is 0 or 1
same-mark : (a b : ℕ) → a ≤ 1 → b ≤ 1 → (a ≡ 1 → b ≡ 1) → (b ≡ 1 → a ≡ 1) → a ≡ b
same-mark a b la lb f g = elim (ℕ_discrete a 1) [ yes e ↦ e ∙ sym (f e) | no d ↦ elim (ℕ_discrete b 1) [ yes e ↦ g e ∙ sym e | no c ↦ omega (arith, d, c) ] ]

pub one-plan : (j : Job) (p q : Plan) (c e : ℕ) → FirstCheapest j p c → FirstCheapest j q e → PlanShape p → PlanShape q
    → plan_record_fault p ≡ 0 → plan_record_fault q ≡ 0 → p ≡ q
one-plan j p q c e a b x y u v =
    let same = one-cheapest j p q c e a b in
    let n : p.n ≡ q.n = a.meets.operations ∙ sym b.meets.operations in
    let k : p.k ≡ q.k = a.meets.instances ∙ sym b.meets.instances in
    let w = none-plan p u in
    let z = none-plan q v in
    let selection =
    same-table p.selection q.selection p.k (x.selection ∙ sym y.selection) w.unused_marks (rw k z.unused_marks) (λ i l.
    let m = same.marks i (omega (arith, a.meets.instances)) in
    same-mark (cell p.selection i) (cell q.selection i) (w.marks i l) (z.marks i (omega (arith, k))) m.0 m.1) in
    let starts =
    same-table p.starts q.starts p.n (x.starts ∙ sym y.starts) w.unused_starts (rw n z.unused_starts) (λ o l.
    (same.rows o (omega (arith, a.meets.operations))).0) in
    let insts =
    same-table p.insts q.insts p.n (x.insts ∙ sym y.insts) w.unused_rows (rw n z.unused_rows) (λ o l.
    (same.rows o (omega (arith, a.meets.operations))).1) in
    λ i. record { n = n i; k = k i; selection = selection i; starts = starts i; insts = insts i }

-- ---- the search's five ways, and its answer in each

abbrev found_in : Job → Plan
found_in j = plan_from (board_of j) (walked (board_of j)).best.node

abbrev size_in : Job → ℕ
size_in j = (plan_end (board_of j).n (board_of j).k + 7) / 8

abbrev Reads : List ℕ → Job → Type 0
Reads job j = read_job job ≡ record { answer = Read; job = j }

data Way (job : List ℕ) (budget room : ℕ) : Type 0 where
  unread : (number paper : ℕ) → (read_job job).answer ≡ Unread number paper → Way job budget room
  over : (j : Job) → Reads job j → budget < (walked (board_of j)).visits → Way job budget room
  empty : (j : Job) → Reads job j → (walked (board_of j)).visits ≤ budget → (walked (board_of j)).best.held ≡ false → Way job budget room
  fits : (j : Job) → Reads job j → (walked (board_of j)).visits ≤ budget → (walked (board_of j)).best.held ≡ true → size_in j ≤ room → Way job budget room
  short : (j : Job) → Reads job j → (walked (board_of j)).visits ≤ budget → (walked (board_of j)).best.held ≡ true → room < size_in j → Way job budget room

module _ (job : List ℕ) (budget room : ℕ) where
  way : Way job budget room
  way = go (read_job job).answer refl
    where
      kept : (j : Job) → Reads job j → (walked (board_of j)).visits ≤ budget → (t : Bool) → (walked (board_of j)).best.held ≡ t → Way job budget room
      kept j r k false h = empty j r k h
      kept j r k true h = elim (dec_lt room (size_in j)) [ yes l ↦ short j r k h l | no l ↦ fits j r k h (omega arith) ]

      go : (a : Reading) → (read_job job).answer ≡ a → Way job budget room
      go (Unread number paper) e = unread number paper e
      go Read e =
          let j : Job = (read_job job).job in
          let r : Reads job j = λ i. record { answer = e i; job = (read_job job).job } in
          elim (dec_lt budget (walked (board_of j)).visits) [ yes l ↦ over j r l | no l ↦ kept j r (omega arith) (walked (board_of j)).best.held refl ]

  abbrev answer_of : Way job budget room → Searched
  answer_of (unread number paper e) = Refused number paper
  answer_of (over j r l) = Spent budget
  answer_of (empty j r k h) = Nothing (walked (board_of j)).visits
  answer_of (fits j r k h l) = Found (walked (board_of j)).best.cost (walked (board_of j)).visits (size_in j)
  answer_of (short j r k h l) = Refused output_short paper_request

  answers : (w : Way job budget room) → search job budget room ≡ answer_of w
  unfolding search if_read search_job answered wrote write_plan written if_room
  answers (unread number paper e) = rw e
  answers (over j r l) = rw (r, lt-leb (walked (board_of j)).visits budget l)
  answers (empty j r k h) = rw (r, le-leb (walked (board_of j)).visits budget k, h)
  answers (fits j r k h l) = rw (r, le-leb (walked (board_of j)).visits budget k, h, found-sound job j r h, le-leb (size_in j) room l)
  answers (short j r k h l) = rw (r, le-leb (walked (board_of j)).visits budget k, h, found-sound job j r h, lt-leb (size_in j) room l)

-- where a plan meets the rules, one is held
some-held : (job : List ℕ) (j : Job) → Reads job j → (q : Plan) → Meets j q → (walked (board_of j)).best.held ≡ true
some-held job j r q m = go (walked (board_of j)).best.held refl
  where
    go : (t : Bool) → (walked (board_of j)).best.held ≡ t → (walked (board_of j)).best.held ≡ true
    go true h = h
    go false h = absurd ((search-none job j r).0 h q m)

-- ---- spent, and no plan

module _ (job : List ℕ) (budget room v : ℕ) where
  spent-says : search job budget room ≡ Spent v → Spends job budget v
  spent-says e = go (way job budget room) (sym (answers job budget room (way job budget room)) ∙ e)
    where
      go : (w : Way job budget room) → answer_of job budget room w ≡ Spent v → Spends job budget v
      go (unread number paper r) e = cc
      go (over j r l) e = record { as_job = j; job_read = r; over = l; given = cc }
      go (empty j r k h) e = cc
      go (fits j r k h l) e = cc
      go (short j r k h l) e = cc

  says-spent : Spends job budget v → search job budget room ≡ Spent v
  says-spent s = answers job budget room (over s.as_job s.job_read s.over) ∙ ap Spent (sym s.given)

  pub spent-exactly : (search job budget room ≡ Spent v) ↔ Spends job budget v
  spent-exactly = (spent-says, says-spent)

  none-says : search job budget room ≡ Nothing v → NoPlan job budget v
  none-says e = go (way job budget room) (sym (answers job budget room (way job budget room)) ∙ e)
    where
      go : (w : Way job budget room) → answer_of job budget room w ≡ Nothing v → NoPlan job budget v
      go (unread number paper r) e = cc
      go (over j r l) e = cc
      go (empty j r k h) e = record { as_job = j; job_read = r; kept = k; none = (search-none job j r).0 h; given = cc }
      go (fits j r k h l) e = cc
      go (short j r k h l) e = cc

  says_none : NoPlan job budget v → search job budget room ≡ Nothing v
  says_none s =
      answers job budget room (empty s.as_job s.job_read s.kept ((search-none job s.as_job s.job_read).1 s.none)) ∙ ap Nothing (sym s.given)

  pub none-exactly : (search job budget room ≡ Nothing v) ↔ NoPlan job budget v
  none-exactly = (none-says, says_none)

-- ---- refused: the job is, or the output is too short

-- a plan to be found is the one that is held
held-plan : (job : List ℕ) (j : Job) (r : Reads job j) (p : Plan) (c : ℕ) → FirstCheapest j p c → PlanShape p → plan_record_fault p ≡ 0
    → ((walked (board_of j)).best.held ≡ true) × (p ≡ found_in j) × (c ≡ (walked (board_of j)).best.cost)
held-plan job j r p c f t z =
    let h = some-held job j r p f.meets in
    let g = search-found job j r h in (
      h,
      one-plan j p (found_in j) c (walked (board_of j)).best.cost f g t (found-shape job j r h) z (found-sound job j r h),
      (one-cheapest j p (found_in j) c (walked (board_of j)).best.cost f g).costs,
    )

module _ (job : List ℕ) (budget room number paper : ℕ) where
  refused-says : search job budget room ≡ Refused number paper → Refusal job budget room number paper
  refused-says e = go (way job budget room) (sym (answers job budget room (way job budget room)) ∙ e)
    where
      go : (w : Way job budget room) → answer_of job budget room w ≡ Refused number paper → Refusal job budget room number paper
      go (unread number' paper' r) e =
          let a : number' ≡ number = cc in
          let b : paper' ≡ paper = cc in
          inl (rw (← a, ← b) r)
      go (over j r l) e = cc
      go (empty j r k h) e = cc
      go (fits j r k h l) e = cc
      go (short j r k h l) e =
          let a : number ≡ output_short = cc in
          let b : paper ≡ paper_request = cc in
          inr (
            a,
            b,
            record {
              as_job = j;
              job_read = r;
              kept = k;
              as_plan = found_in j;
              cost = (walked (board_of j)).best.cost;
              plan = search-found job j r h;
              shape = found-shape job j r h;
              sound = found-sound job j r h;
              long = rw (sheet-length (found_in j)) l;
            },
          )

  says-refused : Refusal job budget room number paper → search job budget room ≡ Refused number paper
  says-refused (inl e) = answers job budget room (unread number paper e)
  says-refused (inr w) =
      let s = w.2 in
      let j = s.as_job in
      let g = held-plan job j s.job_read s.as_plan s.cost s.plan s.shape s.sound in
      let size = sheet-length (found_in j) in
      let same : length (plan_sheet s.as_plan) ≡ length (plan_sheet (found_in j)) = ap (λ (p : Plan). length (plan_sheet p)) g.1 in
      rw (w.0, w.1) (answers job budget room (short j s.job_read s.kept g.0 (omega (arith, size, same, s.long))))

  pub refused-exactly : (search job budget room ≡ Refused number paper) ↔ Refusal job budget room number paper
  refused-exactly = (refused-says, says-refused)

-- ---- found

module _ (job : List ℕ) (budget : ℕ) (before : List ℕ) (c v size : ℕ) where
  output-found : (j : Job) → (r : Reads job j) → (walked (board_of j)).visits ≤ budget → (walked (board_of j)).best.held ≡ true → size_in j ≤ length before
      → search_out job budget before ≡ plan_sheet (found_in j) ++ drop (size_in j) before
  unfolding search_out out_if_read search_job_out out_if plan_out write_plan written if_room output
  output-found j r k h l = rw (r, le-leb (walked (board_of j)).visits budget k, h, found-sound job j r h, le-leb (size_in j) (length before) l)

  found-says : search job budget (length before) ≡ Found c v size → Finds job budget before (search_out job budget before) c v size
  found-says e = go (way job budget (length before)) (sym (answers job budget (length before) (way job budget (length before))) ∙ e)
    where
      go : (w : Way job budget (length before)) → answer_of job budget (length before) w ≡ Found c v size
          → Finds job budget before (search_out job budget before) c v size
      go (unread number paper r) e = cc
      go (over j r l) e = cc
      go (empty j r k h) e = cc
      go (fits j r k h l) e =
          let ec : (walked (board_of j)).best.cost ≡ c = cc in
          let ev : v ≡ (walked (board_of j)).visits = cc in
          let es : size_in j ≡ size = cc in
          record {
            as_job = j;
            job_read = r;
            kept = k;
            as_plan = found_in j;
            plan = subst (λ (x : ℕ). FirstCheapest j (found_in j) x) ec (search-found job j r h);
            shape = found-shape job j r h;
            sound = found-sound job j r h;
            fits = rw (← es) l;
            bytes = rw (← es) (output-found j r k h l);
            long = sheet-length (found_in j) ∙ es;
            given = ev;
          }
      go (short j r k h l) e = cc

  says-found : (after : List ℕ) → Finds job budget before after c v size
      → (search job budget (length before) ≡ Found c v size) × (after ≡ search_out job budget before)
  says-found after f =
      let j = f.as_job in
      let r = f.job_read in
      let g = held-plan job j r f.as_plan c f.plan f.shape f.sound in
      let es : size_in j ≡ size = sym (sheet-length (found_in j)) ∙ ap (λ (p : Plan). length (plan_sheet p)) (sym g.1) ∙ f.long in
      let l : size_in j ≤ length before = rw es f.fits in (
        answers job budget (length before) (fits j r f.kept g.0 l) ∙ rw (← g.2, ← f.given, es),
        f.bytes ∙ rw (g.1, ← es) (sym (output-found j r f.kept g.0 l)),
      )

  -- the answer and the output's bytes
  pub found-exactly : (after : List ℕ)
      → ((search job budget (length before) ≡ Found c v size) × (after ≡ search_out job budget before)) ↔ Finds job budget before after c v size
  found-exactly after = ((λ w. rw w.1 (found-says w.0)), says-found after)

-- ---- what an answer says of a result, where a refusal is converted

pub searched-said : (r : Result Finding Reason) (a : Answer) → IfOk r (λ finding. a ≡ searched_says (found_of finding))
    → IfErr r (λ x. a ≡ refused_says (number_of x.fault) (paper_of x.paper)) → a ≡ searched_says (searched_of r)
searched-said (Ok finding) a p q = p
searched-said (Err x) a p q = q

-- ---- the code's answer, where its word is known: there is one

pub one_searched : (r r' : Result Finding Reason) → searched_of r ≡ searched_of r' → r ≡ r'
one_searched (Ok (IsFound cost visits length)) (Ok (IsFound cost' visits' length')) e =
    let c : cost ≡ cost' = cc in
    let v : visits ≡ visits' = cc in
    let l : length ≡ length' = cc in
    λ i. Ok (IsFound (c i) (v i) (l i))
one_searched (Ok (IsNothing visits)) (Ok (IsNothing visits')) e = let v : visits ≡ visits' = cc in λ i. Ok (IsNothing (v i))
one_searched (Ok (IsSpent visits)) (Ok (IsSpent visits')) e = let v : visits ≡ visits' = cc in λ i. Ok (IsSpent (v i))
one_searched (Err x) (Err y) e =
    let n : number_of x.fault ≡ number_of y.fault = cc in
    let p : paper_of x.paper ≡ paper_of y.paper = cc in
    ap (λ (z : Reason). Err z) (refusal-one x y n p)
one_searched (Ok (IsFound cost visits length)) (Ok (IsNothing visits')) e = cc
one_searched (Ok (IsFound cost visits length)) (Ok (IsSpent visits')) e = cc
one_searched (Ok (IsNothing visits)) (Ok (IsFound cost' visits' length')) e = cc
one_searched (Ok (IsNothing visits)) (Ok (IsSpent visits')) e = cc
one_searched (Ok (IsSpent visits)) (Ok (IsFound cost' visits' length')) e = cc
one_searched (Ok (IsSpent visits)) (Ok (IsNothing visits')) e = cc
one_searched (Ok (IsFound cost visits length)) (Err y) e = cc
one_searched (Ok (IsNothing visits)) (Err y) e = cc
one_searched (Ok (IsSpent visits)) (Err y) e = cc
one_searched (Err x) (Ok (IsFound cost visits length)) e = cc
one_searched (Err x) (Ok (IsNothing visits)) e = cc
one_searched (Err x) (Ok (IsSpent visits)) e = cc

-- ---- every other answer leaves the output's bytes as they were

pub untouched : (job : List ℕ) (budget : ℕ) (before : List ℕ) → ((c v size : ℕ) → search job budget (length before) ≡ Found c v size → ⊥)
    → search_out job budget before ≡ before
unfolding search_out out_if_read search_job_out out_if plan_out write_plan written if_room output
untouched job budget before other = go (way job budget (length before))
  where
    go : Way job budget (length before) → search_out job budget before ≡ before
    go (unread number paper e) = rw e
    go (over j r l) = rw (r, lt-leb (walked (board_of j)).visits budget l)
    go (empty j r k h) = rw (r, le-leb (walked (board_of j)).visits budget k, h)
    go (fits j r k h l) = absurd (other _ _ _ (answers job budget (length before) (fits j r k h l)))
    go (short j r k h l) = rw (r, le-leb (walked (board_of j)).visits budget k, h, found-sound job j r h, lt-leb (size_in j) (length before) l)
