-- Laws of `put_field`: what it leaves, what it writes, that this says which list it is, and one put after another.
use mathlib.Core.Path.{◌≡◌, refl, sym, ap, ap₂, subst, ◌∙◌}
use Prim.Native.Nat.{ℕ, zero, suc, ◌+◌, ◌*◌, ◌/◌, ◌%◌, ◌-◌, ◌^◌, ◌≤◌, ◌<◌}
use native.Mathlib.Nat.{lt_of_lt_of_le, zero-add, add_assoc, mod-eq_of_lt, mod-lt, div-add-mod', div-eq_of_lt}
use mathlib.Core.Logic.{◌≢◌}
use native.Mathlib.Decide.{ℕ_discrete}
use native.Mathlib.Omega.{arith}
use mathlib.Core.List.{List}
use lib.Arith.{digits_lt}
use lib.Dec.{lit<}
use lib.ListN.{get_or, length, set, length-set}
use lib.Pow.{pow_mono, pow-add, shr_lt, shr-shr, low, high}
use lib.Seq.{get_or-set_same, get_or-set_other}
use Rattle.bits.specs.Bits.{bit, field, bytes_of, put_field, Bytes}
use Rattle.bits.proofs.FieldLaws.{field_lt, field-add, field-byte, field-mid}
use Rattle.bits.proofs.ByteLaws.{field-left, field-right, field-bytes_of, bytes_of-field, length-bytes_of, bytes-bytes_of}

-- a field inside a field that is the same is the same
pub field-within : (s t : List ℕ) (at n a w : ℕ) → field s at n ≡ field t at n → a + w ≤ n → field s (at + a) w ≡ field t (at + a) w
field-within s t at n a w e h =
    let r : ℕ = n - (a + w) in
    let p : n ≡ a + (w + r) = omega arith in
    sym (field-mid s at a w r) ∙ ap (λ (x : ℕ). x / 2 ^ r % 2 ^ w) (ap (field s at) (sym p) ∙ e ∙ ap (field t at) p) ∙ field-mid t at a w r

pub field-cong : (s t : List ℕ) (at w : ℕ) → ((i : ℕ) → i < w → bit s (at + i) ≡ bit t (at + i)) → field s at w ≡ field t at w
unfolding field
field-cong s t at zero h = refl
field-cong s t at (suc w) h = ap₂ (λ (x y : ℕ). x * 2 + y) (field-cong s t at w (λ i l. h i (omega arith))) (h w (omega arith))

pub length-put : (s : List ℕ) (at w v : ℕ) → length (put_field s at w v) ≡ length s
unfolding put_field
length-put s at w v = length-bytes_of _ _

pub bytes-put : (s : List ℕ) (at w v : ℕ) → Bytes (put_field s at w v)
unfolding put_field
bytes-put s at w v = bytes-bytes_of _ _

module _ (s : List ℕ) (at w v : ℕ) (hw : at + w ≤ 8 * length s) where
  module _ (hv : v < 2 ^ w) where
    whole : field (put_field s at w v) 0 (at + w + (8 * length s - (at + w)))
        ≡ (field s 0 at * 2 ^ w + v) * 2 ^ (8 * length s - (at + w)) + field s (at + w) (8 * length s - (at + w))
    unfolding put_field
    whole =
        let r : ℕ = 8 * length s - (at + w) in
        let x : ℕ = (field s 0 at * 2 ^ w + v) * 2 ^ r + field s (at + w) r in
        let e : 8 * length s ≡ at + w + r = omega arith in
        let l : x < 2 ^ at * 2 ^ w * 2 ^ r = digits_lt (digits_lt (field_lt s 0 at) hv) (field_lt s (at + w) r) in
        let l' : x < 2 ^ (8 * length s) = subst (λ (k : ℕ). x < k) (rw (← pow-add, ← pow-add) (ap (λ (k : ℕ). 2 ^ k) (sym e))) l in
        ap (field (bytes_of (length s) x) 0) (sym e) ∙ field-bytes_of (length s) x ∙ mod-eq_of_lt l'

    front : field (put_field s at w v) 0 (at + w) ≡ field s 0 at * 2 ^ w + v
    front = field-left _ 0 (at + w) _ _ _ (field_lt s (at + w) _) whole

    -- what is before the field, the field, and what is after it
    pub put-before : field (put_field s at w v) 0 at ≡ field s 0 at
    put-before = field-left _ 0 at w _ v hv front

    pub put-here : field (put_field s at w v) at w ≡ v
    put-here = rw zero-add at (field-right (put_field s at w v) 0 at w (field s 0 at) v hv front)

    pub put-after : field (put_field s at w v) (at + w) (8 * length s - (at + w)) ≡ field s (at + w) (8 * length s - (at + w))
    put-after = rw zero-add at (field-right (put_field s at w v) 0 (at + w) (8 * length s - (at + w)) _ _ (field_lt s (at + w) _) whole)

  -- no other list of bytes is so
  module _ (t : List ℕ) (ht : Bytes t) (l : length t ≡ length s) where
    pub put-unique : field t 0 at ≡ field s 0 at → field t at w ≡ v
        → field t (at + w) (8 * length s - (at + w)) ≡ field s (at + w) (8 * length s - (at + w)) → t ≡ put_field s at w v
    unfolding put_field
    put-unique b h a =
        let r : ℕ = 8 * length s - (at + w) in
        let e : 8 * length s ≡ at + w + r = omega arith in
        let x : field t 0 (8 * length s) ≡ (field s 0 at * 2 ^ w + v) * 2 ^ r + field s (at + w) r =
        ap (field t 0) e ∙ field-add t 0 (at + w) r
        ∙ ap₂ (λ (p q : ℕ). p * 2 ^ r + q) (field-add t 0 at w ∙ ap₂ (λ (p q : ℕ). p * 2 ^ w + q) b (ap (λ (k : ℕ). field t k w) (zero-add at) ∙ h))
        (ap (λ (k : ℕ). field t k r) (zero-add (at + w)) ∙ a) in
        sym (bytes_of-field t ht) ∙ ap₂ bytes_of l (ap (λ (k : ℕ). field t 0 (8 * k)) l ∙ x)

-- a field that ends before the put, and one that starts after it
module _ (s : List ℕ) (at w v : ℕ) (hw : at + w ≤ 8 * length s) (hv : v < 2 ^ w) where
  pub put-left : (a n : ℕ) → a + n ≤ at → field (put_field s at w v) a n ≡ field s a n
  put-left a n h = rw zero-add at (field-within (put_field s at w v) s 0 at a n (put-before s at w v hw hv) h)

  pub put_right : (a n : ℕ) → at + w ≤ a → a + n ≤ 8 * length s → field (put_field s at w v) a n ≡ field s a n
  put_right a n h l =
      let e : at + w + (a - (at + w)) ≡ a = omega arith in
      subst (λ (k : ℕ). field (put_field s at w v) k n ≡ field s k n) e
      (field-within (put_field s at w v) s (at + w) _ (a - (at + w)) n (put-after s at w v hw hv) (omega arith))

-- a put and one right after it are one put of both
pub put-put : (s : List ℕ) (at w w' v v' : ℕ) → at + (w + w') ≤ 8 * length s → v < 2 ^ w → v' < 2 ^ w'
    → put_field (put_field s at w v) (at + w) w' v' ≡ put_field s at (w + w') (v * 2 ^ w' + v')
put-put s at w w' v v' h hv hv' =
    let u : List ℕ = put_field s at w v in
    let t : List ℕ = put_field u (at + w) w' v' in
    let r : ℕ = 8 * length s - (at + (w + w')) in
    let lu : length u ≡ length s = length-put s at w v in
    let h1 : at + w ≤ 8 * length s = omega arith in
    let h2 : at + w + w' ≤ 8 * length u = omega arith in
    put-unique s at (w + w') (v * 2 ^ w' + v') h t (bytes-put u (at + w) w' v') (length-put u (at + w) w' v' ∙ lu)
    (put-left u (at + w) w' v' h2 hv' 0 at (omega arith) ∙ put-before s at w v h1 hv)
    (field-add t at w w' ∙ ap₂ (λ (p q : ℕ). p * 2 ^ w' + q)
    (put-left u (at + w) w' v' h2 hv' at w (omega arith) ∙ put-here s at w v h1 hv) (put-here u (at + w) w' v' h2 hv'))
    (put_right u (at + w) w' v' h2 hv' (at + (w + w')) r (omega arith) (omega arith)
    ∙ put_right s at w v h1 hv (at + (w + w')) r (omega arith) (omega arith))

-- a store of a byte is a put of its eight bits
module _ (s : List ℕ) (k b : ℕ) where
  bytes-set : Bytes s → k < length s → b < 256 → Bytes (set s k b)
  bytes-set hs hk hb i = go (ℕ_discrete i k)
    where
      go : Dec (i ≡ k) → get_or (set s k b) i 0 < 256
      go (yes e) = rw (e, get_or-set_same s k b 0) hb
      go (no n) = rw (get_or-set_other s k i b 0 n) (hs i)

  bit-set-other : (i : ℕ) → i / 8 ≢ k → bit (set s k b) i ≡ bit s i
  unfolding bit
  bit-set-other i n = rw (get_or-set_other s k (i / 8) b 0 n)

  pub set-put : Bytes s → k < length s → b < 256 → set s k b ≡ put_field s (8 * k) 8 b
  set-put hs hk hb =
      put-unique s (8 * k) 8 b (omega arith) (set s k b) (bytes-set hs hk hb) (length-set s k b)
      (field-cong (set s k b) s 0 (8 * k) (λ i h. bit-set-other (0 + i) (omega arith)))
      (field-byte (set s k b) k (bytes-set hs hk hb k) ∙ get_or-set_same s k b 0 hk)
      (field-cong (set s k b) s (8 * k + 8) _ (λ i h. bit-set-other (8 * k + 8 + i) (omega arith)))

-- a put of what is there
pub put_same : (s : List ℕ) (at w : ℕ) → Bytes s → at + w ≤ 8 * length s → put_field s at w (field s at w) ≡ s
put_same s at w hs hw = sym (put-unique s at w (field s at w) hw s hs refl refl refl refl)

-- the bits around a field put back with it
pub put-around : (s : List ℕ) (at v w l x : ℕ) → Bytes s → at + (v + w + l) ≤ 8 * length s → x < 2 ^ w
    → put_field s at (v + w + l) ((field s at v * 2 ^ w + x) * 2 ^ l + field s (at + v + w) l) ≡ put_field s (at + v) w x
put-around s at v w l x hs h hx =
    let p : ℕ = field s at v in
    let q : ℕ = field s (at + v + w) l in
    let u : List ℕ = put_field s (at + v) w x in
    let lu : length u ≡ length s = length-put s (at + v) w x in
    let e : u ≡ put_field s at (v + w) (p * 2 ^ w + x) =
    ap (λ (t : List ℕ). put_field t (at + v) w x) (sym (put_same s at v hs (omega arith)))
    ∙ put-put s at v w p x (omega arith) (field_lt s at v) hx in
    let m : p * 2 ^ w + x < 2 ^ (v + w) = rw (pow-add 2 v w) (digits_lt (field_lt s at v) hx) in
    let k : field u (at + v + w) l ≡ q = put_right s (at + v) w x (omega arith) hx (at + v + w) l (omega arith) (omega arith) in
    sym (put-put s at (v + w) l (p * 2 ^ w + x) q h m (field_lt s (at + v + w) l))
    ∙ ap (λ (t : List ℕ). put_field t (at + (v + w)) l q) (sym e)
    ∙ ap (λ (a : ℕ). put_field u a l q) (sym (add_assoc at v w))
    ∙ ap (put_field u (at + v + w) l) (sym k)
    ∙ put_same u (at + v + w) l (bytes-put s (at + v) w x) (omega arith)

-- the bytes of x, stored one after another
module _ (s : List ℕ) (f n x : ℕ) (hf : f + n ≤ length s) (hx : x < 2 ^ (8 * n)) where
  pub stored-none : Bytes s → s ≡ put_field s (8 * f) (8 * 0) (x / 2 ^ (8 * (n - 0)))
  unfolding field
  stored-none hs =
      let e : 8 * (n - 0) ≡ 8 * n = omega arith in
      sym (rw (e, div-eq_of_lt hx) (put_same s (8 * f) 0 hs (omega arith)))

  pub stored_more : (j : ℕ) → j < n
      → set (put_field s (8 * f) (8 * j) (x / 2 ^ (8 * (n - j)))) (f + j) (x / 2 ^ (8 * (n - 1 - j)) % 256)
      ≡ put_field s (8 * f) (8 * (j + 1)) (x / 2 ^ (8 * (n - (j + 1))))
  stored_more j hj =
      let k : ℕ = 8 * (n - (j + 1)) in
      let v : ℕ = x / 2 ^ (8 * (n - j)) in
      let b : ℕ = x / 2 ^ k % 256 in
      let u : List ℕ = put_field s (8 * f) (8 * j) v in
      let lu : length u ≡ length s = length-put s (8 * f) (8 * j) v in
      let e : 8 * (n - j) ≡ k + 8 = omega arith in
      let e1 : 8 * n ≡ 8 * j + 8 * (n - j) = omega arith in
      let e2 : 8 * (n - 1 - j) ≡ k = omega arith in
      let e3 : 8 * (f + j) ≡ 8 * f + 8 * j = omega arith in
      let e4 : 8 * (j + 1) ≡ 8 * j + 8 = omega arith in
      let l : v < 2 ^ (8 * j) = shr_lt (8 * j) (8 * (n - j)) (subst (λ (m : ℕ). x < 2 ^ m) e1 hx) in
      let d : v * 2 ^ 8 + b ≡ x / 2 ^ k = ap (λ (y : ℕ). y * 256 + b) (ap (λ (m : ℕ). x / 2 ^ m) e ∙ sym (shr-shr x k 8)) ∙ div-add-mod' (x / 2 ^ k) 256 in
      ap (λ (m : ℕ). set u (f + j) (x / 2 ^ m % 256)) e2
      ∙ set-put u (f + j) b (bytes-put s (8 * f) (8 * j) v) (omega arith) (mod-lt (x / 2 ^ k) (lit< tt))
      ∙ ap (λ (m : ℕ). put_field u m 8 b) e3
      ∙ put-put s (8 * f) (8 * j) 8 v b (omega arith) l (mod-lt (x / 2 ^ k) (lit< tt))
      ∙ ap₂ (put_field s (8 * f)) (sym e4) d

-- the field at `at`, put into n whole bytes that hold it
module _ (s : List ℕ) (at w n v : ℕ) (hn : at % 8 + w ≤ 8 * n) (hs : at / 8 + n ≤ length s) (hv : v < 2 ^ w) where
  spliced : (field s (8 * (at / 8)) (8 * n) / 2 ^ (w + (8 * n - (at % 8 + w))) * 2 ^ w + v) * 2 ^ (8 * n - (at % 8 + w))
      + field s (8 * (at / 8)) (8 * n) % 2 ^ (8 * n - (at % 8 + w))
      ≡ (field s (8 * (at / 8)) (at % 8) * 2 ^ w + v) * 2 ^ (8 * n - (at % 8 + w)) + field s (8 * (at / 8) + at % 8 + w) (8 * n - (at % 8 + w))
  spliced =
      let a : ℕ = 8 * (at / 8) in
      let p : ℕ = at % 8 in
      let l : ℕ = 8 * n - (p + w) in
      let e : 8 * n ≡ p + (w + l) = omega arith in
      let e' : 8 * n ≡ p + w + l = omega arith in
      let q : field s a (8 * n) / 2 ^ (w + l) ≡ field s a p =
      ap (λ (m : ℕ). m / 2 ^ (w + l)) (ap (field s a) e ∙ field-add s a p (w + l)) ∙ high (field s a p) (w + l) (field_lt s (a + p) (w + l)) in
      let r : field s a (8 * n) % 2 ^ l ≡ field s (a + p + w) l =
      ap (λ (m : ℕ). m % 2 ^ l) (ap (field s a) e' ∙ field-add s a (p + w) l) ∙ low (field s a (p + w)) l (field_lt s (a + (p + w)) l)
      ∙ ap (λ (m : ℕ). field s m l) (sym (add_assoc a p w)) in
      ap₂ (λ (x y : ℕ). (x * 2 ^ w + v) * 2 ^ l + y) q r

  pub spliced-lt : (field s (8 * (at / 8)) (8 * n) / 2 ^ (w + (8 * n - (at % 8 + w))) * 2 ^ w + v) * 2 ^ (8 * n - (at % 8 + w))
      + field s (8 * (at / 8)) (8 * n) % 2 ^ (8 * n - (at % 8 + w)) < 2 ^ (8 * n)
  spliced-lt =
      let a : ℕ = 8 * (at / 8) in
      let p : ℕ = at % 8 in
      let l : ℕ = 8 * n - (p + w) in
      let e' : p + w + l ≡ 8 * n = omega arith in
      rw spliced (subst (λ (m : ℕ). (field s a p * 2 ^ w + v) * 2 ^ l + field s (a + p + w) l < m)
      (sym (pow-add 2 (p + w) l ∙ ap (λ (m : ℕ). m * 2 ^ l) (pow-add 2 p w)) ∙ ap (λ (m : ℕ). 2 ^ m) e')
      (digits_lt (digits_lt (field_lt s a p) hv) (field_lt s (a + p + w) l)))

  pub put-bytes : Bytes s
      → put_field s (8 * (at / 8)) (8 * n)
      ((field s (8 * (at / 8)) (8 * n) / 2 ^ (w + (8 * n - (at % 8 + w))) * 2 ^ w + v) * 2 ^ (8 * n - (at % 8 + w))
      + field s (8 * (at / 8)) (8 * n) % 2 ^ (8 * n - (at % 8 + w)))
      ≡ put_field s at w v
  put-bytes bs =
      let a : ℕ = 8 * (at / 8) in
      let p : ℕ = at % 8 in
      let l : ℕ = 8 * n - (p + w) in
      let e' : 8 * n ≡ p + w + l = omega arith in
      let f : a + p ≡ at = omega arith in
      ap₂ (put_field s a) e' spliced ∙ put-around s a p w l v bs (omega arith) hv ∙ ap (λ (m : ℕ). put_field s m w v) f

pub ruleset stored_laws = (stored-none, stored_more)

-- as many bits as three bytes have
pub field-three : (s : List ℕ) (at n : ℕ) → n ≤ 24 → field s at n < 2 ^ 24
field-three s at n h = lt_of_lt_of_le (field_lt s at n) (pow_mono h)

pub ruleset put_laws = (field-three, spliced-lt, put-bytes)
