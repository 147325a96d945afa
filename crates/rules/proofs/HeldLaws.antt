-- The resource rule by steps: where each operation holds its instance for a step or more, as one does whose row keeps its rule
-- (`able-holds`), no two hold one instance in one step. `apart-exactly` says it of two operations, `resource-exactly` of all that
-- are placed, both of the rule's test; `held-exactly` of a plan's rows, of the rule as `Meets` has it.
use Prim.Native.Nat.{ℕ, ◌+◌, ◌≤◌, ◌<◌}
use mathlib.Core.Path.{◌≡◌, sym, ◌∙◌}
use mathlib.Core.Bool.{true}
use mathlib.Core.List.{List}
use mathlib.Core.Logic.{◌↔◌}
use native.Mathlib.Decide.{dec_le}
use native.Mathlib.Omega.{arith}
use Rattle.basics.specs.Tables.{cell}
use Rattle.sheets.specs.declared.Job.{Job}
use Rattle.sheets.specs.declared.Plan.{Plan}
use Rattle.sheets.proofs.RecordLaws.{JobSound}
use Rattle.rules.specs.Rules.{apart, resource_ok}
use Rattle.rules.specs.Meets.{Disjoint, inst, spacing, Row, Resource, HeldOnce}
use Rattle.rules.proofs.ModelLaws.{able-holds}
use Rattle.rules.proofs.RuleLaws.{Follows, apart-says, says-apart, apart-swap, resource-apart, apart-resource}

-- ---- two operations, each of which holds a step or more

module _ (start spacing start' spacing' : ℕ) where
  -- the earlier is done with the instance when the later starts: else both would hold the step in which the later does
  disjoint-apart : 1 ≤ spacing → 1 ≤ spacing' → Disjoint start spacing start' spacing' → Follows start spacing start'
  disjoint-apart l l' h m =
      elim (dec_le (start + spacing) start') [ yes q ↦ (omega arith, q) | no q ↦ absurd (h start' (m, omega arith) (omega arith, omega arith)) ]

module _ (start spacing start' spacing' : ℕ) where
  apart-disjoint : apart start spacing start' spacing' ≡ true → Disjoint start spacing start' spacing'
  apart-disjoint h s a b =
      elim (dec_le start start') [
        | yes l ↦ omega (arith, (apart-says start spacing start' spacing' h l).1, a.1, b.0)
        | no l ↦ omega (arith, (apart-says start' spacing' start spacing (sym (apart-swap start spacing start' spacing') ∙ h) (omega arith)).1, b.1, a.0)
      ]

  pub apart-exactly : 1 ≤ spacing → 1 ≤ spacing' → (apart start spacing start' spacing' ≡ true) ↔ Disjoint start spacing start' spacing'
  apart-exactly l l' = (
    apart-disjoint,
    λ h. says-apart start spacing start' spacing' (disjoint-apart start spacing start' spacing' l l' h)
        (disjoint-apart start' spacing' start spacing l' l (λ s a b. h s b a)),
  )

-- ---- all that are placed, where each of them holds a step or more

module _ (starts insts spacings : List ℕ) (n : ℕ) where
  abbrev pub AllDisjoint : Type 0
  AllDisjoint =
      (a b : ℕ) → a < n → b < n → (a ≡ b → ⊥) → 1 ≤ cell starts a → 1 ≤ cell starts b → cell insts a ≡ cell insts b
      → Disjoint (cell starts a) (cell spacings a) (cell starts b) (cell spacings b)

  pub resource-exactly : ((o : ℕ) → o < n → 1 ≤ cell starts o → 1 ≤ cell spacings o) → (resource_ok n starts insts spacings ≡ true) ↔ AllDisjoint
  resource-exactly holding = (
    λ h a b la lb d pa pb e. apart-disjoint _ _ _ _ (resource-apart starts insts spacings n h a b la lb d pa pb e),
    λ h. apart-resource starts insts spacings n (λ a b la lb d pa pb e.
        (apart-exactly _ _ _ _ (holding a la pa) (holding b lb pb)).1 (h a b la lb d pa pb e)),
  )

-- ---- the rows of a plan

module _ (j : Job) (p : Plan) (sound : JobSound j) (rows : (o : ℕ) → o < j.n → Row j p o) where
  row-holds : (o : ℕ) → o < j.n → 1 ≤ spacing j p o
  row-holds o l = able-holds j sound o (inst j p o) (rows o l).able

  pub held-exactly : Resource j p ↔ HeldOnce j p
  held-exactly = (
    λ h a b la lb d e. apart-disjoint _ _ _ _ (says-apart _ _ _ _ (h a b la lb d e) (h b a lb la (λ q. d (sym q)) (sym e))),
    λ h a b la lb d e. disjoint-apart _ _ _ _ (row-holds a la) (row-holds b lb) (h a b la lb d e),
  )
