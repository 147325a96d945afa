-- Laws of faults: when one goes on to the next, what no fault means, and the first of many found one by one.
use Prim.Native.Nat.{ℕ, zero, suc, ◌+◌, ◌-◌, ◌<◌}
use mathlib.Core.Path.{◌≡◌, refl, sym, ◌∙◌}
use mathlib.Core.Bool.{Bool, true, false}
use native.Mathlib.Decide.{ℕ_discrete}
use native.Mathlib.Nat.{zero-add, suc-add}
use native.Mathlib.Numerals.{add-one}
use native.Mathlib.Omega.{arith}
use Rattle.std.specs.Prelude.{Result, Ok, Err}
use Rattle.basics.specs.Faults.{◌or_else◌, fault_unless, first, number_of, fault_in, blamed}
use Rattle.basics.specs.declared.refusals.Fault.{Fault}
use Rattle.basics.specs.declared.refusals.Fault.TheVariants.{BitsRunOut, FormDiffers, OutsideLimit, LinkBroken, TypeBroken, FillBroken, RecordBroken, CountsDiffer, OrderBroken, RowInstance, RowKind, RowUnselected, RowStep, PrecedenceBroken, ResourceBroken, ChainBroken, DistanceFar, MovedOut, OutputShort, BudgetSpent, NoPlan, NoteLong, VerdictDiffers, SplitBroken, CloseBroken, Cheaper, LengthsDiffer, DossierLong}
use Rattle.basics.specs.declared.refusals.Paper.{Paper}
use Rattle.basics.specs.declared.refusals.Refusal.{Refusal}

-- ---- two faults

pub or_else-go : (a b : ℕ) → a ≡ 0 → a or_else b ≡ b
unfolding ◌or_else◌
or_else-go zero b h = refl
or_else-go (suc a) b h = absurd (omega arith)

pub or_else-stop : (a b : ℕ) → (a ≡ 0 → ⊥) → a or_else b ≡ a
unfolding ◌or_else◌
or_else-stop zero b h = absurd (h refl)
or_else-stop (suc a) b h = refl

pub or_else-none : (a b : ℕ) → a or_else b ≡ 0 → (a ≡ 0) × (b ≡ 0)
unfolding ◌or_else◌
or_else-none zero b h = (refl, h)
or_else-none (suc a) b h = absurd (omega arith)

pub none-or_else : (a b : ℕ) → a ≡ 0 → b ≡ 0 → a or_else b ≡ 0
none-or_else a b p q = or_else-go a b p ∙ q

-- the first of two faults, where the code has stopped at it or gone on
pub stopped : (a b r : ℕ) → r ≡ a → (r ≡ 0 → ⊥) → r ≡ a or_else b
stopped a b r e q = e ∙ sym (or_else-stop a b (λ z. q (e ∙ z)))

pub went : (a b r : ℕ) → a ≡ 0 → r ≡ b → r ≡ a or_else b
went a b r z e = e ∙ sym (or_else-go a b z)

-- ---- the fault of a test

pub unless-none : (test : Bool) (number : ℕ) → 0 < number → fault_unless test number ≡ 0 → test ≡ true
unfolding fault_unless
unless-none true number l h = refl
unless-none false number l h = absurd (omega arith)

pub none-unless : (test : Bool) (k : ℕ) → test ≡ true → fault_unless test k ≡ 0
unfolding fault_unless
none-unless test k h = rw h

-- ---- the first of many

pub first_more : (fault : ℕ → ℕ) (i : ℕ) → first fault i ≡ 0 → first fault (i + 1) ≡ fault i
unfolding first
first_more fault i h = rw add-one (or_else-go _ _ h)

first-stays : (fault : ℕ → ℕ) (k i : ℕ) → (first fault i ≡ 0 → ⊥) → first fault (k + i) ≡ first fault i
unfolding first
first-stays fault zero i q = rw zero-add
first-stays fault (suc k) i q =
    let h = first-stays fault k i q in
    rw (suc-add k i, or_else-stop (first fault (k + i)) (fault (k + i)) (rw h q)) h

pub first-at : (fault : ℕ → ℕ) (i n r : ℕ) → i < n → first fault i ≡ 0 → r ≡ fault i → (r ≡ 0 → ⊥) → r ≡ first fault n
first-at fault i n r h z e q =
    let m = first_more fault i z in
    let s = first-stays fault (n - (i + 1)) (i + 1) (rw (m, ← e) q) in
    let w : n - (i + 1) + (i + 1) ≡ n = omega arith in
    e ∙ sym m ∙ sym (rw w at s)

pub first-none : (fault : ℕ → ℕ) (n : ℕ) → first fault n ≡ 0 → (i : ℕ) → i < n → fault i ≡ 0
unfolding first
first-none fault zero h i l = absurd (omega arith)
first-none fault (suc n) h i l = go (ℕ_discrete n i) (first-none fault n (or_else-none _ _ h).0 i)
  where
    go : Dec (n ≡ i) → (i < n → fault i ≡ 0) → fault i ≡ 0
    go (yes e) p = rw e at (or_else-none (first fault n) (fault n) h).1
    go (no m) p = p (omega arith)

pub first_cong : (f g : ℕ → ℕ) (n : ℕ) → ((i : ℕ) → i < n → f i ≡ g i) → first f n ≡ first g n
unfolding first
first_cong f g zero h = refl
first_cong f g (suc n) h = rw (first_cong f g n (λ i l. h i (omega arith)), h n (omega arith))

pub none_first : (fault : ℕ → ℕ) (n : ℕ) → ((i : ℕ) → i < n → fault i ≡ 0) → first fault n ≡ 0
unfolding first
none_first fault zero h = refl
none_first fault (suc n) h = none-or_else _ _ (none_first fault n (λ i l. h i (omega arith))) (h n (omega arith))

-- ---- the code's faults: each has a number, and `?` stops at the first

pub number-some : (fault : Fault) → number_of fault ≡ 0 → ⊥
number-some BitsRunOut e = absurd (omega arith)
number-some FormDiffers e = absurd (omega arith)
number-some OutsideLimit e = absurd (omega arith)
number-some LinkBroken e = absurd (omega arith)
number-some TypeBroken e = absurd (omega arith)
number-some FillBroken e = absurd (omega arith)
number-some RecordBroken e = absurd (omega arith)
number-some CountsDiffer e = absurd (omega arith)
number-some OrderBroken e = absurd (omega arith)
number-some RowInstance e = absurd (omega arith)
number-some RowKind e = absurd (omega arith)
number-some RowUnselected e = absurd (omega arith)
number-some RowStep e = absurd (omega arith)
number-some PrecedenceBroken e = absurd (omega arith)
number-some ResourceBroken e = absurd (omega arith)
number-some ChainBroken e = absurd (omega arith)
number-some DistanceFar e = absurd (omega arith)
number-some MovedOut e = absurd (omega arith)
number-some OutputShort e = absurd (omega arith)
number-some BudgetSpent e = absurd (omega arith)
number-some NoPlan e = absurd (omega arith)
number-some NoteLong e = absurd (omega arith)
number-some VerdictDiffers e = absurd (omega arith)
number-some SplitBroken e = absurd (omega arith)
number-some CloseBroken e = absurd (omega arith)
number-some Cheaper e = absurd (omega arith)
number-some LengthsDiffer e = absurd (omega arith)
number-some DossierLong e = absurd (omega arith)

-- the first of two faults, where the code has stopped at the first, or gone on to the second
pub fault-stops : (a b : ℕ) (fault : Fault) → number_of fault ≡ a → number_of fault ≡ a or_else b
fault-stops a b fault e = stopped a b (number_of fault) e (number-some fault)

pub ruleset fault_laws = (fault-stops, went, sym)

-- ---- the first of many, one by one

pub first-begins : (fault : ℕ → ℕ) → first fault 0 ≡ 0
unfolding first
first-begins fault = refl

pub first-goes : (fault : ℕ → ℕ) (i : ℕ) → first fault i ≡ 0 → 0 ≡ fault i → first fault (i + 1) ≡ 0
first-goes fault i z e = first_more fault i z ∙ sym e

pub first-stops : (fault : ℕ → ℕ) (i n : ℕ) (r : Fault) → i < n → first fault i ≡ 0 → number_of r ≡ fault i → number_of r ≡ first fault n
first-stops fault i n r l z e = first-at fault i n (number_of r) l z e (number-some r)

pub ruleset first_laws = (first-begins, first-goes, first-stops)

-- ---- a fault with the paper at fault

pub blamed-none : {A : Type 0} (paper : Paper) (found : Result A Fault) (x : A) → Ok x ≡ blamed paper found → fault_in found ≡ 0
blamed-none paper (Ok y) x e = refl
blamed-none paper (Err f) x e = cc

pub blamed-fault : {A : Type 0} (paper : Paper) (found : Result A Fault) (r : Refusal) → Err r ≡ blamed paper found → number_of r.fault ≡ fault_in found
blamed-fault paper (Ok y) r e = cc
blamed-fault paper (Err f) r e = cc

pub blamed-paper : {A : Type 0} (paper : Paper) (found : Result A Fault) (r : Refusal) → Err r ≡ blamed paper found → r.paper ≡ paper
blamed-paper paper (Ok y) r e = cc
blamed-paper paper (Err f) r e = cc
