-- Laws of `bytes_of`: bytes and the one number that they write.
use mathlib.Core.Path.{◌≡◌, refl, sym, ap, ap₂, ◌∙◌}
use Prim.Native.Nat.{ℕ, zero, suc, ◌+◌, ◌*◌, ◌/◌, ◌%◌, ◌^◌, ◌<◌}
use native.Mathlib.Nat.{mod-lt, add_assoc, mul_assoc, mod-one, mod-eq_of_lt, mul-add-div_right, mul-add-mod_self_right}
use native.Mathlib.Omega.{arith}
use mathlib.Core.List.{List, [], ◌∷◌}
use lib.Dec.{lit<}
use lib.ListN.{length}
use lib.Pow.{pow_pos, low, high, pow-add, mod-pow-add}
use Rattle.bits.specs.Bits.{bit, field, bytes_of, Bytes}
use Rattle.bits.proofs.FieldLaws.{field_lt, field-add, field-byte}

-- ---- digits: a number in two parts has only those parts

module _ (s : List ℕ) (at v w hi lo : ℕ) (h : lo < 2 ^ w) (e : field s at (v + w) ≡ hi * 2 ^ w + lo) where
  pub field-left : field s at v ≡ hi
  field-left = sym (high (field s at v) w (field_lt s (at + v) w)) ∙ ap (λ (x : ℕ). x / 2 ^ w) (sym (field-add s at v w) ∙ e) ∙ high hi w h

  pub field-right : field s (at + v) w ≡ lo
  field-right = sym (low (field s at v) w (field_lt s (at + v) w)) ∙ ap (λ (x : ℕ). x % 2 ^ w) (sym (field-add s at v w) ∙ e) ∙ low hi w h

-- ---- bytes and the number that they write

pub length-bytes_of : (n x : ℕ) → length (bytes_of n x) ≡ n
unfolding bytes_of
length-bytes_of zero x = refl
length-bytes_of (suc n) x = ap suc (length-bytes_of n x)

pub bytes-bytes_of : (n x : ℕ) → Bytes (bytes_of n x)
unfolding bytes_of
bytes-bytes_of zero x i = lit< tt
bytes-bytes_of (suc n) x zero = mod-lt _ (lit< tt)
bytes-bytes_of (suc n) x (suc i) = bytes-bytes_of n x i

bit-tail : (b : ℕ) (s : List ℕ) (i : ℕ) → bit (b ∷ s) (8 + i) ≡ bit s i
unfolding bit
bit-tail b s i =
    let q : (8 + i) / 8 ≡ suc (i / 8) = omega arith in
    let r : (8 + i) % 8 ≡ i % 8 = omega arith in
    rw (q, r)

field-tail : (b : ℕ) (s : List ℕ) (at w : ℕ) → field (b ∷ s) (8 + at) w ≡ field s at w
unfolding field
field-tail b s at zero = refl
field-tail b s at (suc w) = rw (field-tail b s at w, add_assoc, bit-tail b s (at + w))

-- the first byte, and the rest
field-cons : (b : ℕ) (s : List ℕ) (w : ℕ) → b < 256 → field (b ∷ s) 0 (8 + w) ≡ b * 2 ^ w + field s 0 w
field-cons b s w h = rw (field-add (b ∷ s) 0 8 w, field-byte (b ∷ s) 0 h, field-tail b s 0 w)

pub field-bytes_of : (n x : ℕ) → field (bytes_of n x) 0 (8 * n) ≡ x % 2 ^ (8 * n)
unfolding bytes_of field
field-bytes_of zero x = sym (mod-one x)
field-bytes_of (suc n) x =
    let e : 8 * suc n ≡ 8 + 8 * n = omega arith in
    rw (e, field-cons _ (bytes_of n x) (8 * n) (mod-lt (x / 2 ^ (8 * n)) (lit< tt)), field-bytes_of n x) (sym (mod-pow-add x 8 (8 * n)))

bytes_of-low : (n h x : ℕ) → bytes_of n (h * 2 ^ (8 * n) + x) ≡ bytes_of n x
unfolding bytes_of
bytes_of-low zero h x = refl
bytes_of-low (suc n) h x =
    let e : 8 * suc n ≡ 8 + 8 * n = omega arith in
    let e' : h * 2 ^ (8 * suc n) + x ≡ h * 256 * 2 ^ (8 * n) + x = rw (e, pow-add 2 8 (8 * n), mul_assoc) in
    rw e' (ap₂ (λ (b : ℕ) (l : List ℕ). b ∷ l)
    (ap (λ (y : ℕ). y % 256) (mul-add-div_right (pow_pos (8 * n)) (h * 256) x) ∙ mul-add-mod_self_right h 256 (x / 2 ^ (8 * n)))
    (bytes_of-low n (h * 256) x))

pub bytes_of-field : (s : List ℕ) → Bytes s → bytes_of (length s) (field s 0 (8 * length s)) ≡ s
unfolding bytes_of
bytes_of-field [] h = refl
bytes_of-field (b ∷ s) h =
    let n : ℕ = length s in
    let e : 8 * suc n ≡ 8 + 8 * n = omega arith in
    rw (e, field-cons b s (8 * n) (h 0)) (ap₂ (λ (c : ℕ) (l : List ℕ). c ∷ l)
    (ap (λ (y : ℕ). y % 256) (high b (8 * n) (field_lt s 0 (8 * n))) ∙ mod-eq_of_lt (h 0))
    (bytes_of-low n b (field s 0 (8 * n)) ∙ bytes_of-field s (λ i. h (suc i))))
