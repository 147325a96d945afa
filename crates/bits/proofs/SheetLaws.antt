-- Laws of sheets. A sheet holds the fields that it is packed of (`holds-pack`), and bytes that hold a sheet's fields, with
-- zero fill, are the sheet (`pack-holds`). Fields put one after another, with the fill, make it (`put-pack`).
use mathlib.Core.Path.{◌≡◌, sym, ap, ap₂, subst, ◌∙◌}
use Prim.Native.Nat.{ℕ, zero, suc, ◌+◌, ◌*◌, ◌/◌, ◌%◌, ◌^◌, ◌≤◌, ◌<◌}
use native.Mathlib.Nat.{add-zero, zero-add, add_assoc, mul-zero, mul-suc, mod-eq_of_lt}
use native.Mathlib.Decide.{ℕ_discrete}
use native.Mathlib.Numerals.{add-one}
use native.Mathlib.Omega.{arith}
use mathlib.Core.List.{List, [], ◌∷◌, ◌++◌}
use lib.Arith.{digits_lt}
use lib.Dec.{lit<}
use lib.ListN.{length, drop, length-append, length-drop, get_or-append}
use lib.Pow.{pow_pos, pow-add, shl_lt}
use lib.Seq.{get_or-append-add, get_or-drop}
use Rattle.bits.specs.Bits.{bit, field, bytes_of, put_field, Bytes}
use Rattle.bits.specs.Sheet.{Field, total, number, bytes_for, fill, pack, many, put_all}
use Rattle.bits.proofs.FieldLaws.{field-none, field-add}
use Rattle.bits.proofs.ByteLaws.{field-left, field-right, field-bytes_of, bytes_of-field, length-bytes_of, bytes-bytes_of}
use Rattle.bits.proofs.PutLaws.{field-cong, put_same, put-put, put-unique, length-put, bytes-put}

-- each value fits its width
unfoldable pub Fit : List Field → Type 0
Fit [] = Unit {0}
Fit (f ∷ fs) = (f.value < 2 ^ f.width) × Fit fs

-- s has the fields fs from `at` on
unfoldable pub Holds : List ℕ → ℕ → List Field → Type 0
Holds s at [] = Unit {0}
Holds s at (f ∷ fs) = (field s at f.width ≡ f.value) × Holds s (at + f.width) fs

-- ---- fields and their number

pub number_lt : (fs : List Field) → Fit fs → number fs < 2 ^ total fs
unfolding number total Fit
number_lt [] h = lit< tt
number_lt (f ∷ fs) h = rw pow-add (digits_lt h.0 (number_lt fs h.1))

holds-number : (s : List ℕ) (at : ℕ) (fs : List Field) → Fit fs → field s at (total fs) ≡ number fs → Holds s at fs
unfolding Holds Fit total number
holds-number s at [] h e = tt
holds-number s at (f ∷ fs) h e =
    let l : number fs < 2 ^ total fs = number_lt fs h.1 in (
      field-left s at f.width (total fs) f.value (number fs) l e,
      holds-number s (at + f.width) fs h.1 (field-right s at f.width (total fs) f.value (number fs) l e),
    )

number-holds : (s : List ℕ) (at : ℕ) (fs : List Field) → Holds s at fs → field s at (total fs) ≡ number fs
unfolding Holds total number
number-holds s at [] h = field-none s at
number-holds s at (f ∷ fs) h = field-add s at f.width (total fs) ∙ ap₂ (λ (x y : ℕ). x * 2 ^ total fs + y) h.0 (number-holds s (at + f.width) fs h.1)

-- ---- a sheet and its fields

pub length-pack : (fs : List Field) → length (pack fs) ≡ bytes_for (total fs)
unfolding pack
length-pack fs = length-bytes_of _ _

module _ (fs : List Field) (h : Fit fs) where
  packed : field (pack fs) 0 (total fs + fill (total fs)) ≡ number fs * 2 ^ fill (total fs) + 0
  unfolding pack
  packed =
      let w : ℕ = total fs in
      let e : w + fill w ≡ 8 * bytes_for w = omega arith in
      rw (e, add-zero) (field-bytes_of (bytes_for w) _ ∙ mod-eq_of_lt (subst (λ (k : ℕ). number fs * 2 ^ fill w < 2 ^ k) e (shl_lt w (fill w) (number_lt fs h))))

  pub holds-pack : Holds (pack fs) 0 fs
  holds-pack = holds-number (pack fs) 0 fs h (field-left (pack fs) 0 (total fs) (fill _) (number fs) 0 (pow_pos _) packed)

  pub fill-pack : field (pack fs) (total fs) (fill (total fs)) ≡ 0
  fill-pack = rw zero-add at (field-right (pack fs) 0 (total fs) (fill _) (number fs) 0 (pow_pos _) packed)

pub pack-holds : (s : List ℕ) (fs : List Field) → Bytes s → length s ≡ bytes_for (total fs) → field s (total fs) (fill (total fs)) ≡ 0
    → Holds s 0 fs → pack fs ≡ s
unfolding pack
pack-holds s fs hs l z h =
    let w : ℕ = total fs in
    let e : 8 * length s ≡ w + fill w = omega arith in
    let f : field s 0 (8 * length s) ≡ number fs * 2 ^ fill w = ap (field s 0) e ∙ field-add s 0 w (fill w) ∙ rw (zero-add, z, add-zero, number-holds s 0 fs h) in
    rw (← f, ← l) (bytes_of-field s hs)

-- ---- fields in two parts

pub total-append : (a b : List Field) → total (a ++ b) ≡ total a + total b
unfolding total
total-append [] b = sym (zero-add _)
total-append (f ∷ a) b = rw (total-append a b, add_assoc)

pub fit_append : (a b : List Field) → Fit a → Fit b → Fit (a ++ b)
unfolding Fit
fit_append [] b ha hb = hb
fit_append (f ∷ a) b ha hb = (ha.0, fit_append a b ha.1 hb)

pub holds-append : (s : List ℕ) (at : ℕ) (a b : List Field) → Holds s at (a ++ b) → Holds s at a × Holds s (at + total a) b
unfolding Holds total
holds-append s at [] b h = (tt, subst (λ (k : ℕ). Holds s k b) (sym (add-zero at)) h)
holds-append s at (f ∷ a) b h =
    let r = holds-append s (at + f.width) a b h.1 in
    ((h.0, r.0), subst (λ (k : ℕ). Holds s k b) (add_assoc at f.width (total a)) r.1)

pub append-holds : (s : List ℕ) (at : ℕ) (a b : List Field) → Holds s at a → Holds s (at + total a) b → Holds s at (a ++ b)
unfolding Holds total
append-holds s at [] b ha hb = subst (λ (k : ℕ). Holds s k b) (add-zero at) hb
append-holds s at (f ∷ a) b ha hb =
    (ha.0, append-holds s (at + f.width) a b ha.1 (subst (λ (k : ℕ). Holds s k b) (sym (add_assoc at f.width (total a))) hb))

pub put-append : (s : List ℕ) (at : ℕ) (a b : List Field) → put_all s at (a ++ b) ≡ put_all (put_all s at a) (at + total a) b
unfolding put_all total
put-append s at [] b = ap (λ (k : ℕ). put_all s k b) (sym (add-zero at))
put-append s at (f ∷ a) b = put-append (put_field s at f.width f.value) (at + f.width) a b ∙ ap (λ (k : ℕ). put_all (put_all (put_field s at f.width f.value) (at + f.width) a) k b) (add_assoc at f.width (total a))

-- ---- groups of one width

module _ (f : ℕ → List Field) (w : ℕ) (hw : (j : ℕ) → total (f j) ≡ w) where
  pub total-many : (n : ℕ) → total (many f n) ≡ w * n
  unfolding many total
  total-many zero = sym (mul-zero w)
  total-many (suc n) = total-append (many f n) (f n) ∙ ap₂ (λ (x y : ℕ). x + y) (total-many n) (hw n) ∙ sym (mul-suc w n)

  pub holds-many : (s : List ℕ) (at n : ℕ) → Holds s at (many f n) → (i : ℕ) → i < n → Holds s (at + w * i) (f i)
  unfolding many
  holds-many s at zero h i l = absurd (let z : ⊥ = omega arith in z)
  holds-many s at (suc n) h i l =
      let r = holds-append s at (many f n) (f n) h in
      go (ℕ_discrete i n) (holds-many s at n r.0 i) (subst (λ (k : ℕ). Holds s (at + k) (f n)) (total-many n) r.1)
    where
      go : Dec (i ≡ n) → (i < n → Holds s (at + w * i) (f i)) → Holds s (at + w * n) (f n) → Holds s (at + w * i) (f i)
      go (yes e) p q = rw e q
      go (no m) p q = p (omega arith)

  pub many-holds : (s : List ℕ) (at n : ℕ) → ((i : ℕ) → i < n → Holds s (at + w * i) (f i)) → Holds s at (many f n)
  unfolding many Holds
  many-holds s at zero h = tt
  many-holds s at (suc n) h =
      append-holds s at (many f n) (f n) (many-holds s at n (λ i l. h i (omega arith)))
      (subst (λ (k : ℕ). Holds s (at + k) (f n)) (sym (total-many n)) (h n (omega arith)))

  -- one group more
  pub put-many : (s : List ℕ) (at i : ℕ) → put_all (put_all s at (many f i)) (at + w * i) (f i) ≡ put_all s at (many f (i + 1))
  unfolding many
  put-many s at i =
      rw (add-one) (ap (λ (k : ℕ). put_all (put_all s at (many f i)) (at + k) (f i)) (sym (total-many i)) ∙ sym (put-append s at (many f i) (f i)))

pub fit-many : (f : ℕ → List Field) (n : ℕ) → ((i : ℕ) → i < n → Fit (f i)) → Fit (many f n)
unfolding many Fit
fit-many f zero h = tt
fit-many f (suc n) h = fit_append (many f n) (f n) (fit-many f n (λ i l. h i (omega arith))) (h n (omega arith))

-- ---- fields put one after another are one number put

put-all : (s : List ℕ) (at : ℕ) (fs : List Field) → Bytes s → Fit fs → at + total fs ≤ 8 * length s
    → put_all s at fs ≡ put_field s at (total fs) (number fs)
unfolding put_all total number Fit field
put-all s at [] hs hf h = sym (put_same s at 0 hs h)
put-all s at (f ∷ fs) hs hf h =
    let u : List ℕ = put_field s at f.width f.value in
    let lu : length u ≡ length s = length-put s at f.width f.value in
    put-all u (at + f.width) fs (bytes-put s at f.width f.value) hf.1 (omega arith)
    ∙ put-put s at f.width (total fs) f.value (number fs) h hf.0 (number_lt fs hf.1)

-- ---- n whole bytes in front

bit-append-add : (a b : List ℕ) (i : ℕ) → bit (a ++ b) (8 * length a + i) ≡ bit b i
unfolding bit
bit-append-add a b i =
    let q : (8 * length a + i) / 8 ≡ length a + i / 8 = omega arith in
    let r : (8 * length a + i) % 8 ≡ i % 8 = omega arith in
    rw (q, r, get_or-append-add a b (i / 8) 0)

pub bit-append : (a b : List ℕ) (i : ℕ) → i < 8 * length a → bit (a ++ b) i ≡ bit a i
unfolding bit
bit-append a b i h = rw (get_or-append a b 0 (i / 8) (omega arith))

bit-drop : (n : ℕ) (s : List ℕ) (i : ℕ) → bit (drop n s) i ≡ bit s (8 * n + i)
unfolding bit
bit-drop n s i =
    let q : (8 * n + i) / 8 ≡ n + i / 8 = omega arith in
    let r : (8 * n + i) % 8 ≡ i % 8 = omega arith in
    rw (q, r, get_or-drop n s (i / 8) 0)

bytes-append : (a b : List ℕ) → Bytes a → Bytes b → Bytes (a ++ b)
bytes-append [] b ha hb i = hb i
bytes-append (x ∷ a) b ha hb zero = ha 0
bytes-append (x ∷ a) b ha hb (suc i) = bytes-append a b (λ j. ha (suc j)) hb i

put_front : (s : List ℕ) (n x : ℕ) → Bytes s → n ≤ length s → x < 2 ^ (8 * n) → put_field s 0 (8 * n) x ≡ bytes_of n x ++ drop n s
put_front s n x hs hn hx =
    let a : List ℕ = bytes_of n x in
    let t : List ℕ = a ++ drop n s in
    let la : length a ≡ n = length-bytes_of n x in
    let e : 0 + 8 * n ≡ 8 * length a = omega arith in
    let e' : 0 + 8 * n ≡ 8 * n = omega arith in
    sym (put-unique s 0 (8 * n) x (omega arith) t
    (bytes-append a (drop n s) (bytes-bytes_of n x) (λ i. rw get_or-drop (hs (n + i))))
    (simp (length-append, length-drop, la) (omega arith)) (field-none t 0 ∙ sym (field-none s 0))
    (field-cong t a 0 (8 * n) (λ i h. bit-append a (drop n s) (0 + i) (omega arith)) ∙ field-bytes_of n x ∙ mod-eq_of_lt hx)
    (field-cong t s (0 + 8 * n) _ (λ i h. ap (λ (k : ℕ). bit t (k + i)) e ∙ bit-append-add a (drop n s) i ∙ bit-drop n s i ∙ ap (λ (k : ℕ). bit s (k + i)) (sym e'))))

-- a sheet's fields and its fill, put from 0 on, are the sheet, and the rest stays
pub put-pack : (s : List ℕ) (fs : List Field) → Bytes s → Fit fs → bytes_for (total fs) ≤ length s
    → put_field (put_all s 0 fs) (total fs) (fill (total fs)) 0 ≡ pack fs ++ drop (bytes_for (total fs)) s
unfolding pack
put-pack s fs hs hf h =
    let w : ℕ = total fs in
    let n : ℕ = bytes_for w in
    let e : w + fill w ≡ 8 * n = omega arith in
    let l : number fs * 2 ^ fill w < 2 ^ (8 * n) = subst (λ (k : ℕ). number fs * 2 ^ fill w < 2 ^ k) e (shl_lt w (fill w) (number_lt fs hf)) in
    ap (λ (t : List ℕ). put_field t w (fill w) 0) (put-all s 0 fs hs hf (omega arith))
    ∙ ap (λ (k : ℕ). put_field (put_field s 0 w (number fs)) k (fill w) 0) (sym (zero-add w))
    ∙ put-put s 0 w (fill w) (number fs) 0 (omega arith) (number_lt fs hf) (pow_pos (fill w))
    ∙ ap₂ (put_field s 0) e (add-zero _)
    ∙ put_front s n (number fs * 2 ^ fill w) hs h l
