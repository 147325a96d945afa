-- Laws of `bit` and `field`: bounds, a field in two parts, a value with one bit or one byte more, and a spliced one.
use mathlib.Core.Path.{◌≡◌, refl, sym, ap, subst, ◌∙◌}
use Prim.Native.Nat.{ℕ, zero, suc, ◌+◌, ◌*◌, ◌/◌, ◌%◌, ◌-◌, ◌^◌, ◌≤◌, ◌<◌}
use native.Mathlib.Nat.{mod-lt, pow-suc, add-suc, add-zero, mul_assoc, mul-one, add-mul, add_assoc, lt_of_lt_of_le, div-add-mod', div-one, one-mul, zero-div}
use native.Mathlib.Numerals.{add-one}
use native.Mathlib.Omega.{arith}
use mathlib.Core.List.{List}
use lib.Bits.{bit_and, bit_or, or_shifted, and_mask, mask_lt}
use lib.Dec.{lit<, lit≤}
use lib.ListN.{length, get_or, get_or-eq_default}
use lib.Pow.{shl_exact, pow_mono, pow_pos, pow-add, shr_lt, shr-shr, low, high, field as mid}
use lib.Arith.{digits_lt}
use Rattle.bits.specs.Bits.{bit, field}

pub bit-lt : (s : List ℕ) (i : ℕ) → bit s i < 2
unfolding bit
bit-lt s i = mod-lt _ (lit< tt)

-- a bit past the end is 0
pub bit_past : (s : List ℕ) (i : ℕ) → length s ≤ i / 8 → bit s i ≡ 0
unfolding bit
bit_past s i h = simp (get_or-eq_default s 0 h, zero-div) refl

-- a bit of a byte, shifted down and masked
pub bit-masked : (s : List ℕ) (i byte : ℕ) → byte ≡ get_or s (i / 8) 0 → bit_and (byte / 2 ^ (7 - i % 8)) 1 ≡ bit s i
unfolding bit
bit-masked s i byte e = rw (← e) (and_mask (byte / 2 ^ (7 - i % 8)) 1)

pub field_lt : (s : List ℕ) (at w : ℕ) → field s at w < 2 ^ w
unfolding field
field_lt s at zero = lit< tt
field_lt s at (suc w) = rw pow-suc (omega (arith, field_lt s at w, bit-lt s (at + w)))

pub field-none : (s : List ℕ) (at : ℕ) → field s at 0 ≡ 0
unfolding field
field-none s at = refl

-- a field in two parts
pub field-add : (s : List ℕ) (at v w : ℕ) → field s at (v + w) ≡ field s at v * 2 ^ w + field s (at + v) w
unfolding field
field-add s at v zero = simp (add-zero, mul-one)
field-add s at v (suc w) = simp (add-suc, field-add s at v w, pow-suc, add-mul, mul_assoc, add_assoc)

-- `(x << 1) | b` in a u32
pub push : (x b : ℕ) → x < 2 ^ 16 → b < 2 → bit_or (x * 2 ^ 1 % 2 ^ 32) b ≡ x * 2 + b
push x b hx hb = ap (λ (y : ℕ). bit_or y b) (shl_exact 16 1 32 hx (lit≤ tt)) ∙ or_shifted x 1 b hb

pub field-push : (s : List ℕ) (at i : ℕ) → i < 16 → bit_or (field s at i * 2 ^ 1 % 2 ^ 32) (bit s (at + i)) ≡ field s at (i + 1)
unfolding field
field-push s at i h =
    push _ _ (lt_of_lt_of_le (field_lt s at i) (pow_mono {j = 16} (omega arith))) (bit-lt s (at + i)) ∙ ap (field s at) (sym (add-one i))

-- bits in the middle of a field: shifted down, and masked
pub field-mid : (s : List ℕ) (at v w r : ℕ) → field s at (v + (w + r)) / 2 ^ r % 2 ^ w ≡ field s (at + v) w
field-mid s at v w r =
    sym (mid (field s at (v + (w + r))) w r)
    ∙ ap (λ (x : ℕ). x % 2 ^ (w + r) / 2 ^ r) (field-add s at v (w + r))
    ∙ ap (λ (x : ℕ). x / 2 ^ r) (low (field s at v) (w + r) (field_lt s (at + v) (w + r)) ∙ field-add s (at + v) w r)
    ∙ high (field s (at + v) w) r (field_lt s (at + v + w) r)

-- the bits of the byte at j
pub bit_byte : (s : List ℕ) (j i : ℕ) → i < 8 → bit s (8 * j + i) ≡ get_or s j 0 / 2 ^ (7 - i) % 2
unfolding bit
bit_byte s j i h =
    let q : (8 * j + i) / 8 ≡ j = omega arith in
    let r : (8 * j + i) % 8 ≡ i = omega arith in
    rw (q, r)

-- the first bits of a byte, and the whole of it
pub field-front : (s : List ℕ) (j w : ℕ) → get_or s j 0 < 256 → w ≤ 8 → field s (8 * j) w ≡ get_or s j 0 / 2 ^ (8 - w)
unfolding field
field-front s j zero hs hw = omega arith
field-front s j (suc w) hs hw =
    let e : 8 - w ≡ 7 - w + 1 = omega arith in
    let e' : 8 - suc w ≡ 7 - w = omega arith in
    rw (field-front s j w hs (omega arith), bit_byte s j w (omega arith), e, e', ← shr-shr) (div-add-mod' _ 2)

pub field-byte : (s : List ℕ) (j : ℕ) → get_or s j 0 < 256 → field s (8 * j) 8 ≡ get_or s j 0
field-byte s j hs = field-front s j 8 hs (lit≤ tt) ∙ div-one _

-- `(x << 8) | b` in a u32: a field that ends at a byte's border, with one byte more
pub field-push-byte : (s : List ℕ) (f j : ℕ) → j < 3 → get_or s (f + j) 0 < 256
    → bit_or (field s (8 * f) (8 * j) * 2 ^ 8 % 2 ^ 32) (get_or s (f + j) 0) ≡ field s (8 * f) (8 * (j + 1))
field-push-byte s f j hj hs =
    let l : field s (8 * f) (8 * j) < 2 ^ 24 = lt_of_lt_of_le (field_lt s (8 * f) (8 * j)) (pow_mono {j = 24} (omega arith)) in
    let e : 8 * (j + 1) ≡ 8 * j + 8 = omega arith in
    let e' : 8 * f + 8 * j ≡ 8 * (f + j) = omega arith in
    ap (λ (y : ℕ). bit_or y (get_or s (f + j) 0)) (shl_exact 24 8 32 l (lit≤ tt))
    ∙ or_shifted (field s (8 * f) (8 * j)) 8 (get_or s (f + j) 0) hs
    ∙ rw (e, field-add s (8 * f) (8 * j) 8, e', field-byte s (f + j) hs) refl

-- `1 << w` in a u32
pub one_shl : (w : ℕ) → w ≤ 16 → 1 * 2 ^ w % 2 ^ 32 ≡ 2 ^ w
one_shl w h = shl_exact {a = 1} 1 w 32 (lit< tt) (omega arith) ∙ one-mul (2 ^ w)

-- a number with v in the w bits that have l bits below them, by shifts and masks in a u32
pub splice-eq : (x w l v : ℕ) → x < 2 ^ 24 → w ≤ 16 → l < 8 → v < 2 ^ w
    → bit_or (bit_or (x / 2 ^ (w + l) * 2 ^ w % 2 ^ 32) v * 2 ^ l % 2 ^ 32) (bit_and x (1 * 2 ^ l % 2 ^ 32 - 1))
    ≡ (x / 2 ^ (w + l) * 2 ^ w + v) * 2 ^ l + x % 2 ^ l
splice-eq x w l v hx hw hl hv =
    let m : ℕ = 24 - (w + l) in
    let hi : ℕ = x / 2 ^ (w + l) in
    let e : 24 ≡ m + (w + l) = omega arith in
    let h : hi < 2 ^ m = shr_lt m (w + l) (subst (λ (k : ℕ). x < 2 ^ k) e hx) in
    let h' : hi * 2 ^ w + v < 2 ^ (m + w) = rw (pow-add 2 m w) (digits_lt h hv) in
    rw (shl_exact m w 32 h (omega arith), or_shifted hi w v hv, shl_exact (m + w) l 32 h' (omega arith), one_shl l (omega arith), and_mask x l)
    (or_shifted (hi * 2 ^ w + v) l (x % 2 ^ l) (mod-lt x (pow_pos l)))

-- of a loop that reads bits, or bytes
pub ruleset field_laws = (bit_past, bit-masked, field-none, field-push, field-push-byte, field_lt)

-- the last byte of x, by a mask
pub byte-masked : (x : ℕ) → (bit_and x 255 ≡ x % 256) × (bit_and x 255 < 256)
byte-masked x = (and_mask x 8, mask_lt x 8)

pub ruleset byte_laws = (byte-masked)

pub one-shl-some : (w : ℕ) → w ≤ 16 → 0 < 1 * 2 ^ w % 2 ^ 32
one-shl-some w h = rw (one_shl w h) (pow_pos w)

pub ruleset splice_laws = (one-shl-some, splice-eq)
