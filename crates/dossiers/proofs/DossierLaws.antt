-- What the check of a dossier answers: that of its parts where it has no fault (`sound-checked`), and else its fault (`faulty-refused`).
-- So the dossier of three papers is answered as they are (`packed-checked`), and every dossier without a fault is that of its three
-- parts (`sound-packed`).
use Prim.Native.Nat.{ℕ, zero, suc, ◌+◌, ◌-◌, ◌*◌, ◌^◌, ◌≤◌, ◌<◌}
use mathlib.Core.Path.{◌≡◌, refl, sym, ap, ap₂, ◌∙◌}
use mathlib.Core.List.{List, [], ◌++◌, append_assoc, append-nil}
use native.Mathlib.Decide.{dec_lt}
use native.Mathlib.Omega.{arith}
use lib.Dec.{lit<}
use lib.ListN.{length, get_or, take, drop, length-append, length-drop, take-append-drop, get_or-eq_default}
use lib.Seq.{take_all, length-take-le, get_or-take, drop-drop, take-add, take_at, drop_at}
use Rattle.basics.specs.Numbers.{paper_dossier}
use Rattle.bits.specs.Bits.{Bytes, field}
use Rattle.bits.specs.Sheet.{total, pack}
use Rattle.bits.proofs.FieldLaws.{field-none}
use Rattle.bits.proofs.PutLaws.{field-cong}
use Rattle.bits.proofs.SheetLaws.{bit-append, Fit, Holds, holds-pack, pack-holds, length-pack}
use Rattle.sheets.specs.Limits.{form_bits}
use Rattle.basics.specs.Faults.{number_of}
use Rattle.basics.specs.declared.refusals.Fault.{Fault}
use Rattle.basics.proofs.FaultLaws.{number-some}
use Rattle.notes.specs.Check.{Checked, Refused, check_note}
use Rattle.dossiers.specs.Dossier.{dossier_form, zero_bits, length_bits, lengths_at, dossier_head, max_dossier, head_fields, dossier_sheet}
use Rattle.dossiers.specs.Dossier.{length_in, job_at, plan_at, note_at, note_end, part, job_part, plan_part, note_part, dossier_fault, if_sound, check_dossier}
use Rattle.dossiers.proofs.PartLaws.{DossierSound, none-dossier, dossier-none}

pub sound-checked : (s : List ℕ) → dossier_fault s ≡ 0 → check_dossier s ≡ check_note (job_part s) (plan_part s) (note_part s)
unfolding check_dossier if_sound
sound-checked s h = rw h

pub faulty-refused : (s : List ℕ) (number : ℕ) → dossier_fault s ≡ number → (number ≡ 0 → ⊥) → check_dossier s ≡ Refused number paper_dossier
unfolding check_dossier if_sound
faulty-refused s zero e q = absurd (q refl)
faulty-refused s (suc number) e q = rw e

-- where the code has stopped at its own fault, or gone on to the papers
pub refused-at : (s : List ℕ) (fault : Fault) → number_of fault ≡ dossier_fault s → Refused (number_of fault) paper_dossier ≡ check_dossier s
refused-at s fault e = sym (faulty-refused s (number_of fault) (sym e) (number-some fault))

pub goes-on : (s : List ℕ) (r : Checked) → 0 ≡ dossier_fault s → r ≡ check_note (job_part s) (plan_part s) (note_part s) → r ≡ check_dossier s
goes-on s r e f = f ∙ sym (sound-checked s (sym e))

pub ruleset dossier_laws = (refused-at, goes-on)

-- ---- bytes behind: a field in front of them is the same

field-ahead : (a b : List ℕ) (at w : ℕ) → at + w ≤ 8 * length a → field (a ++ b) at w ≡ field a at w
field-ahead a b at w h = field-cong (a ++ b) a at w (λ i l. bit-append a b (at + i) (omega arith))

-- ---- a header

module _ (job plan note : ℕ) where
  head-length : length (pack (head_fields job plan note)) ≡ job_at
  unfolding total
  head-length = length-pack (head_fields job plan note)

  head-fit : job < 2 ^ length_bits → plan < 2 ^ length_bits → note < 2 ^ length_bits → Fit (head_fields job plan note)
  unfolding Fit
  head-fit j p n = (lit< tt, (lit< tt, (j, (p, (n, tt)))))

  -- bytes that say this are the header
  head-again : (s : List ℕ) → Bytes s → length s ≡ job_at → field s 0 form_bits ≡ dossier_form → field s form_bits zero_bits ≡ 0
      → length_in s 0 ≡ job → length_in s 1 ≡ plan → length_in s 2 ≡ note → pack (head_fields job plan note) ≡ s
  unfolding total Holds
  head-again s hs l f z j p n = pack-holds s (head_fields job plan note) hs l (field-none s dossier_head) (f, (z, (j, (p, (n, tt)))))

-- ---- parts

-- the part that starts behind a and is as long as b
part-is : (s a b c : List ℕ) (start end : ℕ) → s ≡ a ++ (b ++ c) → length a ≡ start → start + length b ≡ end → part s start end ≡ b
part-is s a b c start end e la lb =
    ap (λ (l : List ℕ). part l start end) e ∙ ap (take (end - start)) (drop_at a (b ++ c) start la) ∙ take_at b c (end - start) (omega arith)

part_length : (s : List ℕ) (start end : ℕ) → start ≤ end → end ≤ length s → length (part s start end) ≡ end - start
part_length s start end h l = length-take-le (end - start) (drop start s) (rw (length-drop start s) (omega arith))

-- two parts in a row are one
part_join : (s : List ℕ) (start mid end : ℕ) → start ≤ mid → mid ≤ end → part s start mid ++ part s mid end ≡ part s start end
part_join s start mid end h l =
    let e : start + (mid - start) ≡ mid = omega arith in
    let f : mid - start + (end - mid) ≡ end - start = omega arith in
    sym (take-add (mid - start) (end - mid) (drop start s)
    ∙ ap (λ (r : List ℕ). part s start mid ++ take (end - mid) r) (drop-drop (mid - start) start s ∙ ap (λ (k : ℕ). drop k s) e))
    ∙ ap (λ (k : ℕ). take k (drop start s)) f

-- the last part is all that is left
part-rest : (s : List ℕ) (start end : ℕ) → end ≡ length s → part s start end ≡ drop start s
part-rest s start end e = take_all (end - start) (drop start s) (rw (length-drop start s) (omega arith))

-- ---- the dossier of three papers

module _ (job plan note : List ℕ) (h : job_at + (length job + (length plan + length note)) ≤ max_dossier) where
  held : Holds (pack (head_fields (length job) (length plan) (length note))) 0 (head_fields (length job) (length plan) (length note))
  held =
      holds-pack (head_fields (length job) (length plan) (length note))
      (head-fit (length job) (length plan) (length note) (omega arith) (omega arith) (omega arith))

  sheet-length : length (dossier_sheet job plan note) ≡ job_at + (length job + length plan + length note)
  unfolding dossier_sheet
  sheet-length =
      length-append (pack (head_fields (length job) (length plan) (length note))) (job ++ plan ++ note)
      ∙ ap₂ (λ (x y : ℕ). x + y) (head-length (length job) (length plan) (length note))
      (length-append (job ++ plan) note ∙ ap (λ (k : ℕ). k + length note) (length-append job plan))

  sheet-field : (at w : ℕ) → at + w ≤ dossier_head
      → field (dossier_sheet job plan note) at w ≡ field (pack (head_fields (length job) (length plan) (length note))) at w
  unfolding dossier_sheet
  sheet-field at w l =
      field-ahead (pack (head_fields (length job) (length plan) (length note))) (job ++ plan ++ note) at w
      (omega (arith, head-length (length job) (length plan) (length note)))

  sheet-lengths : (i : ℕ) → i < 3 → length_in (dossier_sheet job plan note) i ≡ length_in (pack (head_fields (length job) (length plan) (length note))) i
  sheet-lengths i l = sheet-field (lengths_at + length_bits * i) length_bits (omega arith)

  sheet-job : length_in (dossier_sheet job plan note) 0 ≡ length job
  unfolding Holds
  sheet-job = sheet-lengths 0 (lit< tt) ∙ held.1.1.0

  sheet-plan : length_in (dossier_sheet job plan note) 1 ≡ length plan
  unfolding Holds
  sheet-plan = sheet-lengths 1 (lit< tt) ∙ held.1.1.1.0

  sheet-note : length_in (dossier_sheet job plan note) 2 ≡ length note
  unfolding Holds
  sheet-note = sheet-lengths 2 (lit< tt) ∙ held.1.1.1.1.0

  sheet-sound : DossierSound (dossier_sheet job plan note)
  unfolding Holds
  sheet-sound = record {
    short = omega (arith, sheet-length);
    long = omega (arith, sheet-length);
    form = sheet-field 0 form_bits (omega arith) ∙ held.0;
    zeros = sheet-field form_bits zero_bits (omega arith) ∙ held.1.0;
    whole = omega (arith, sheet-length, sheet-job, sheet-plan, sheet-note);
  }

  job-part : job_part (dossier_sheet job plan note) ≡ job
  unfolding dossier_sheet
  job-part =
      let head : List ℕ = pack (head_fields (length job) (length plan) (length note)) in
      part-is (dossier_sheet job plan note) head job (plan ++ note) job_at (plan_at (dossier_sheet job plan note))
      (ap (λ (r : List ℕ). head ++ r) (append_assoc job plan note)) (head-length (length job) (length plan) (length note)) (omega (arith, sheet-job))

  plan-part : plan_part (dossier_sheet job plan note) ≡ plan
  unfolding dossier_sheet
  plan-part =
      let head : List ℕ = pack (head_fields (length job) (length plan) (length note)) in
      part-is (dossier_sheet job plan note) (head ++ job) plan note (plan_at (dossier_sheet job plan note)) (note_at (dossier_sheet job plan note))
      (ap (λ (r : List ℕ). head ++ r) (append_assoc job plan note) ∙ sym (append_assoc head job (plan ++ note)))
      (omega (arith, length-append head job, head-length (length job) (length plan) (length note), sheet-job)) (omega (arith, sheet-plan))

  note-part : note_part (dossier_sheet job plan note) ≡ note
  unfolding dossier_sheet
  note-part =
      let head : List ℕ = pack (head_fields (length job) (length plan) (length note)) in
      part-is (dossier_sheet job plan note) (head ++ (job ++ plan)) note [] (note_at (dossier_sheet job plan note)) (note_end (dossier_sheet job plan note))
      (sym (append_assoc head (job ++ plan) note) ∙ ap (λ (r : List ℕ). head ++ (job ++ plan) ++ r) (sym (append-nil note)))
      (omega (arith, length-append head (job ++ plan), length-append job plan, head-length (length job) (length plan) (length note), sheet-job, sheet-plan))
      (omega (arith, sheet-note))

  -- checking a dossier is checking its three papers
  pub packed-checked : check_dossier (dossier_sheet job plan note) ≡ check_note job plan note
  packed-checked =
      let s : List ℕ = dossier_sheet job plan note in
      sound-checked s (dossier-none s sheet-sound)
      ∙ ap (λ (r : List ℕ). check_note r (plan_part s) (note_part s)) job-part
      ∙ ap (λ (r : List ℕ). check_note job r (note_part s)) plan-part
      ∙ ap (check_note job plan) note-part

-- ---- a dossier without a fault

take-bytes : (n : ℕ) (s : List ℕ) → Bytes s → n ≤ length s → Bytes (take n s)
take-bytes n s h l i = go (dec_lt i n)
  where
    go : Dec (i < n) → get_or (take n s) i 0 < 256
    go (yes q) = rw (get_or-take n s i 0 q) (h i)
    go (no q) = rw (get_or-eq_default (take n s) 0 {n = i} (rw (length-take-le n s l) (omega arith))) (lit< tt)

module _ (s : List ℕ) (r : DossierSound s) where
  front_length : length (take job_at s) ≡ job_at
  front_length = length-take-le job_at s (omega (arith, r.long))

  front-field : (at w : ℕ) → at + w ≤ dossier_head → field (take job_at s) at w ≡ field s at w
  front-field at w h =
      sym (field-ahead (take job_at s) (drop job_at s) at w (omega (arith, front_length))) ∙ ap (λ (l : List ℕ). field l at w) (take-append-drop job_at s)

  front-lengths : (i : ℕ) → i < 3 → length_in (take job_at s) i ≡ length_in s i
  front-lengths i l = front-field (lengths_at + length_bits * i) length_bits (omega arith)

  front-packed : Bytes s → pack (head_fields (length (job_part s)) (length (plan_part s)) (length (note_part s))) ≡ take job_at s
  front-packed hs =
      let j : length (job_part s) ≡ plan_at s - job_at = part_length s job_at (plan_at s) (omega arith) (omega (arith, r.whole)) in
      let p : length (plan_part s) ≡ note_at s - plan_at s = part_length s (plan_at s) (note_at s) (omega arith) (omega (arith, r.whole)) in
      let n : length (note_part s) ≡ note_end s - note_at s = part_length s (note_at s) (note_end s) (omega arith) (omega (arith, r.whole)) in
      head-again (length (job_part s)) (length (plan_part s)) (length (note_part s)) (take job_at s)
      (take-bytes job_at s hs (omega (arith, r.long))) front_length (front-field 0 form_bits (omega arith) ∙ r.form)
      (front-field form_bits zero_bits (omega arith) ∙ r.zeros) (front-lengths 0 (lit< tt) ∙ omega (arith, j))
      (front-lengths 1 (lit< tt) ∙ omega (arith, p)) (front-lengths 2 (lit< tt) ∙ omega (arith, n))

  parts-joined : job_part s ++ plan_part s ++ note_part s ≡ drop job_at s
  parts-joined =
      ap (λ (l : List ℕ). l ++ note_part s) (part_join s job_at (plan_at s) (note_at s) (omega arith) (omega arith))
      ∙ part_join s job_at (note_at s) (note_end s) (omega arith) (omega arith) ∙ part-rest s job_at (note_end s) r.whole

-- every dossier without a fault is that of its three parts
pub sound-packed : (s : List ℕ) → Bytes s → dossier_fault s ≡ 0 → s ≡ dossier_sheet (job_part s) (plan_part s) (note_part s)
unfolding dossier_sheet
sound-packed s hs h =
    let r : DossierSound s = none-dossier s h in
    sym (ap₂ (λ (x y : List ℕ). x ++ y) (front-packed s r hs) (parts-joined s r) ∙ take-append-drop job_at s)
