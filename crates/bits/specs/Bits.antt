-- Bits of a list of bytes, most significant first: `field` reads the number in some of them, `put_field` puts one there.
use Rattle.std.specs.Prelude.{ℕ, zero, suc, ◌+◌, ◌*◌, ◌-◌, ◌/◌, ◌%◌, ◌^◌, ◌<◌, List, [], ◌∷◌, length, get_or}

-- each element is a byte
abbrev pub Bytes : List ℕ → Type 0
Bytes s = (i : ℕ) → get_or s i 0 < 256

-- the bit at i of the bytes s, and 0 past their end
unfoldable pub bit : List ℕ → ℕ → ℕ
bit s i = get_or s (i / 8) 0 / 2 ^ (7 - i % 8) % 2

-- the number in the w bits of s from `at` on
unfoldable pub field : List ℕ → ℕ → ℕ → ℕ
field s at zero = 0
field s at (suc w) = field s at w * 2 + bit s (at + w)

-- the n low bytes of x
unfoldable pub bytes_of : ℕ → ℕ → List ℕ
bytes_of zero x = []
bytes_of (suc n) x = x / 2 ^ (8 * n) % 256 ∷ bytes_of n x

-- s with v in the w bits from `at` on: the bits before, v, the bits behind
unfoldable pub put_field : List ℕ → ℕ → ℕ → ℕ → List ℕ
put_field s at w v =
    let behind : ℕ = 8 * length s - (at + w) in
    bytes_of (length s) ((field s 0 at * 2 ^ w + v) * 2 ^ behind + field s (at + w) behind)
