-- What a dossier without a fault is like (`none-dossier`, `dossier-none`), and where its parts lie (`head-whole`).
use Prim.Native.Nat.{ℕ, ◌*◌, ◌≤◌}
use mathlib.Core.Path.{◌≡◌}
use mathlib.Core.List.{List}
use native.Mathlib.Omega.{arith}
use borrow.Author.Tests.{leb-true, le-leb, eqb-true, eq-eqb}
use lib.Dec.{lit<}
use lib.ListN.{length}
use Rattle.basics.specs.Numbers.{fill_broken, lengths_differ, dossier_long}
use Rattle.basics.proofs.FaultLaws.{or_else-none, none-or_else, unless-none, none-unless}
use Rattle.bits.specs.Bits.{field}
use Rattle.sheets.specs.Limits.{form_bits}
use Rattle.sheets.proofs.GroupLaws.{whole-none, none-whole, form-none, none-form}
use Rattle.dossiers.specs.Dossier.{dossier_form, zero_bits, dossier_head, max_dossier, job_at, plan_at, note_at, note_end, dossier_fault}

pub record DossierSound (s : List ℕ) : Type 0 where
  pub short : length s ≤ max_dossier
  pub long : dossier_head ≤ 8 * length s
  pub form : field s 0 form_bits ≡ dossier_form
  pub zeros : field s form_bits zero_bits ≡ 0
  pub whole : note_end s ≡ length s

module _ (s : List ℕ) where
  pub none-dossier : dossier_fault s ≡ 0 → DossierSound s
  unfolding dossier_fault
  none-dossier h =
      let a = or_else-none _ _ h in
      let b = or_else-none _ _ a.1 in
      let c = or_else-none _ _ b.1 in
      let d = or_else-none _ _ c.1 in
      record {
        short = leb-true (length s) max_dossier (unless-none _ dossier_long (lit< tt) a.0);
        long = none-whole (length s) dossier_head b.0;
        form = none-form s dossier_form c.0;
        zeros = eqb-true _ _ (unless-none _ fill_broken (lit< tt) d.0);
        whole = eqb-true _ _ (unless-none _ lengths_differ (lit< tt) d.1);
      }

  pub dossier-none : DossierSound s → dossier_fault s ≡ 0
  unfolding dossier_fault
  dossier-none h =
      none-or_else _ _ (none-unless _ dossier_long (le-leb (length s) max_dossier h.short))
      (none-or_else _ _ (whole-none (length s) dossier_head h.long)
      (none-or_else _ _ (form-none s dossier_form h.form (omega (arith, h.long)))
      (none-or_else _ _ (none-unless _ fill_broken (eq-eqb _ _ h.zeros)) (none-unless _ lengths_differ (eq-eqb _ _ h.whole)))))

  pub head-whole : dossier_fault s ≡ 0 → (job_at ≤ length s) × (plan_at s ≤ length s) × (note_at s ≤ length s) × (note_end s ≡ length s)
  head-whole h =
      let r = none-dossier h in
      (omega (arith, r.long), omega (arith, r.whole), omega (arith, r.whole), r.whole)
