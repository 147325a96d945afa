-- Laws of a job's record: what one without fault has (`JobSound`), and that its groups never run out of its own sheet.
use Prim.Native.Nat.{ℕ, zero, suc, ◌+◌, ◌*◌, ◌/◌, ◌%◌, ◌≤◌, ◌<◌}
use mathlib.Core.Path.{◌≡◌, ap₂}
use mathlib.Core.Logic.{⊎_elim}
use mathlib.Core.Bool.{Bool, true, ◌&&◌}
use mathlib.Core.List.{List}
use native.Mathlib.Decide.{dec_lt}
use native.Mathlib.Omega.{arith}
use borrow.Author.Tests.{leb-true, ltb-true, eqb-true}
use lib.Dec.{leb, ltb, eqb, lit<}
use Rattle.basics.specs.Numbers.{link_broken, record_broken, type_broken}
use Rattle.basics.specs.Counting.{all_to, sum_to}
use Rattle.basics.specs.Faults.{◌or_else◌, first}
use Rattle.basics.specs.Tables.{cell, blank}
use Rattle.basics.proofs.CountLaws.{and_both, either, all_to-each}
use Rattle.basics.proofs.FaultLaws.{fault_laws, or_else-none, or_else-go, unless-none, first-none, first_cong}
use Rattle.basics.proofs.TableLaws.{within-each}
use Rattle.bits.specs.Sheet.{bytes_for}
use Rattle.sheets.specs.Limits.{max_copies, max_insts, kind_count, max_kind, max_steps, max_time, link_bits, type_bits}
use Rattle.sheets.specs.JobRecord.{ascends, link_fault, pair_ok, pair_sound, copies_ok, type_fault, graph_blank, units_blank, job_fits, job_rules_fault, job_record_fault}
use Rattle.sheets.specs.JobSheet.{links_at, types_at, job_end, link_group, type_group, job_tables_fault}
use Rattle.sheets.specs.declared.Job.{Job}
use Rattle.sheets.proofs.GroupLaws.{whole-none}
use Rattle.sheets.proofs.JobLaws.{Counts, none-counts}

-- ---- a link without fault

pub none-link : (from to : List ℕ) (n i : ℕ) → link_fault from to n i ≡ 0
    → (cell from i < cell to i) × (cell to i < n) × (ascends from to i ≡ true)
unfolding link_fault
none-link from to n i h =
    let r = and_both _ _ (unless-none _ link_broken (lit< tt) h) in
    let a = and_both _ _ r.0 in
    (ltb-true _ _ a.0, ltb-true _ _ a.1, r.1)

-- links without fault ascend by their first operation
rising : (from to : List ℕ) (e : ℕ) → ((i : ℕ) → i < e → ascends from to i ≡ true) → (i k : ℕ) → i ≤ k → k < e → cell from i ≤ cell from k
unfolding ascends
rising from to e h i zero l q = let z : i ≡ 0 = omega arith in rw z (omega arith)
rising from to e h i (suc k) l q =
    elim (dec_lt i (suc k)) [
      | yes w ↦
          let r = rising from to e h i k (omega arith) (omega arith) in
          ⊎_elim (λ (a : ltb (cell from k) (cell from (suc k)) ≡ true). omega (arith, r, ltb-true (cell from k) (cell from (suc k)) a))
          (λ (a : (eqb (cell from k) (cell from (suc k)) && ltb (cell to k) (cell to (suc k))) ≡ true).
          let b = and_both (eqb (cell from k) (cell from (suc k))) (ltb (cell to k) (cell to (suc k))) a in
          omega (arith, r, eqb-true (cell from k) (cell from (suc k)) b.0))
          (either _ _ (h (suc k) q))
      | no w ↦ let z : i ≡ suc k = omega arith in rw z (omega arith)
    ]

-- ---- a type without fault

-- neither time nor interval is too long, and a kind that can be done has an interval
pub record PairOk (time interval : ℕ) : Type 0 where
  pub short : time ≤ max_time
  pub within : interval ≤ max_time
  pub able : 0 < time → 1 ≤ interval

pair-says : (time interval : ℕ) → pair_ok time interval ≡ true → PairOk time interval
pair-says time interval h = ⊎_elim none some (either _ _ h)
  where
    none : eqb time 0 && eqb interval 0 ≡ true → PairOk time interval
    none e =
        let a = and_both (eqb time 0) (eqb interval 0) e in
        let z : time ≡ 0 = eqb-true time 0 a.0 in
        record { short = omega arith; within = omega (arith, eqb-true interval 0 a.1); able = λ l. omega arith }

    some : leb 1 interval && leb interval time && leb time max_time ≡ true → PairOk time interval
    some e =
        let a = and_both (leb 1 interval && leb interval time) (leb time max_time) e in
        let b = and_both (leb 1 interval) (leb interval time) a.0 in
        let t : time ≤ max_time = leb-true time max_time a.1 in
        record { short = t; within = omega (arith, leb-true interval time b.1); able = λ l. leb-true 1 interval b.0 }

module _ (copies times intervals : List ℕ) (y : ℕ) (h : type_fault copies times intervals y ≡ 0) where
  type-rules : (copies_ok copies y ≡ true) × (all_to (pair_sound times intervals y) kind_count ≡ true)
  unfolding type_fault
  type-rules = and_both (copies_ok copies y) (all_to (pair_sound times intervals y) kind_count) (unless-none _ type_broken (lit< tt) h)

  pub none-copies : cell copies y ≤ max_copies
  none-copies =
      let few : Bool = leb (cell copies y) max_copies in
      let some : Bool = leb 1 (cell copies y) in
      leb-true _ _ (and_both some few (and_both (some && few) (leb (sum_to (cell copies) y + cell copies y) max_insts) type-rules.0).0).1

  pub none-total : sum_to (cell copies) y + cell copies y ≤ max_insts
  none-total =
      let few : Bool = leb (cell copies y) max_copies in
      let some : Bool = leb 1 (cell copies y) in
      leb-true _ _ (and_both (some && few) (leb (sum_to (cell copies) y + cell copies y) max_insts) type-rules.0).1

  pub none-pair : (k : ℕ) → k < kind_count → PairOk (cell times (kind_count * y + k)) (cell intervals (kind_count * y + k))
  unfolding pair_sound
  none-pair k l = pair-says _ _ (all_to-each (pair_sound times intervals y) kind_count type-rules.1 k l)

-- kind i % kind_count of type i / kind_count
none-pairs : (copies times intervals : List ℕ) (m : ℕ) → first (type_fault copies times intervals) m ≡ 0
    → (i : ℕ) → i < kind_count * m → PairOk (cell times i) (cell intervals i)
none-pairs copies times intervals m h i l =
    let e : kind_count * (i / kind_count) + i % kind_count ≡ i = omega arith in
    let z = first-none (type_fault copies times intervals) m h (i / kind_count) (omega arith) in
    rw e at (none-pair copies times intervals (i / kind_count) z (i % kind_count) (omega arith))

-- all copies together
none-insts : (copies times intervals : List ℕ) (m : ℕ) → first (type_fault copies times intervals) m ≡ 0 → sum_to (cell copies) m ≤ max_insts
unfolding sum_to
none-insts copies times intervals zero h = omega arith
none-insts copies times intervals (suc m) h = none-total copies times intervals m (first-none (type_fault copies times intervals) (suc m) h m (omega arith))

-- ---- a record without fault

pub record JobSound (j : Job) : Type 0 where
  pub counts : Counts j.n j.e j.m j.clock
  pub steps : j.t ≤ max_steps
  pub wire : j.wire ≤ max_time
  pub kinds : (i : ℕ) → i < j.n → cell j.kinds i ≤ max_kind
  pub links : (i : ℕ) → i < j.e → (cell j.from i < cell j.to i) × (cell j.to i < j.n)
  pub ascend : (i k : ℕ) → i ≤ k → k < j.e → cell j.from i ≤ cell j.from k
  pub insts : sum_to (cell j.copies) j.m ≤ max_insts
  pub copies : (y : ℕ) → y < j.m → cell j.copies y ≤ max_copies
  pub pairs : (i : ℕ) → i < kind_count * j.m → PairOk (cell j.times i) (cell j.intervals i)
  pub unused_kinds : blank j.kinds j.n ≡ true
  pub unused_from : blank j.from j.e ≡ true
  pub unused_to : blank j.to j.e ≡ true
  pub unused_costs : blank j.costs j.m ≡ true
  pub unused_copies : blank j.copies j.m ≡ true
  pub unused_times : blank j.times (kind_count * j.m) ≡ true
  pub unused_intervals : blank j.intervals (kind_count * j.m) ≡ true

pub none-record : (j : Job) → job_record_fault j ≡ 0 → JobSound j
unfolding job_record_fault job_rules_fault job_fits graph_blank units_blank
none-record j h =
    let r = or_else-none _ _ (or_else-none _ _ h).1 in
    let l = or_else-none _ _ r.0 in
    let f = and_both _ _ (unless-none _ record_broken (lit< tt) r.1) in
    let g = and_both _ _ f.0 in
    let k = and_both _ _ g.0 in
    let w = and_both _ _ k.0 in
    let g1 = and_both _ _ g.1 in
    let g2 = and_both _ _ g1.0 in
    let u1 = and_both _ _ f.1 in
    let u2 = and_both _ _ u1.0 in
    let u3 = and_both _ _ u2.0 in
    let link : (i : ℕ) → i < j.e → (cell j.from i < cell j.to i) × (cell j.to i < j.n) × (ascends j.from j.to i ≡ true) =
    λ i q. none-link j.from j.to j.n i (first-none (link_fault j.from j.to j.n) j.e l.0 i q) in
    record {
      counts = none-counts _ _ _ _ (or_else-none _ _ h).0;
      steps = leb-true _ _ w.0;
      wire = leb-true _ _ w.1;
      kinds = within-each j.kinds max_kind j.n k.1;
      links = λ i q. let w = link i q in (w.0, w.1);
      ascend = rising j.from j.to j.e (λ i q. (link i q).2);
      insts = none-insts j.copies j.times j.intervals j.m l.1;
      copies = λ y q. none-copies j.copies j.times j.intervals y (first-none (type_fault j.copies j.times j.intervals) j.m l.1 y q);
      pairs = none-pairs j.copies j.times j.intervals j.m l.1;
      unused_kinds = g2.0;
      unused_from = g2.1;
      unused_to = g1.1;
      unused_costs = u3.0;
      unused_copies = u3.1;
      unused_times = u2.1;
      unused_intervals = u1.1;
    }

-- ---- in a sheet with room for all of them, links and types have the record's own faults

pub tables-rules : (j : Job) (bytes : ℕ) → job_end j.n j.e j.m ≤ 8 * bytes → job_tables_fault bytes j ≡ job_rules_fault j
unfolding job_tables_fault job_rules_fault link_group type_group
tables-rules j bytes h =
    ap₂ (λ (a b : ℕ). a or_else b)
    (first_cong (link_group bytes j.from j.to j.n) (link_fault j.from j.to j.n) j.e
    (λ i q. or_else-go _ _ (whole-none bytes (links_at j.n + link_bits * (i + 1)) (omega arith))))
    (first_cong (type_group bytes (types_at j.n j.e) j.copies j.times j.intervals) (type_fault j.copies j.times j.intervals) j.m
    (λ y q. or_else-go _ _ (whole-none bytes (types_at j.n j.e + type_bits * (y + 1)) (omega arith))))

-- its own sheet has room
pub own_tables : (j : Job) → job_tables_fault (bytes_for (job_end j.n j.e j.m)) j ≡ job_rules_fault j
own_tables j = tables-rules j (bytes_for (job_end j.n j.e j.m)) (omega arith)

pub ruleset record_laws = (fault_laws, own_tables)
