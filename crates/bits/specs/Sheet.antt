-- A sheet is a list of fields: `pack` writes them one after another, with zero bits to the end of the last byte.
use Rattle.std.specs.Prelude.{ℕ, zero, suc, ◌+◌, ◌*◌, ◌-◌, ◌/◌, ◌^◌, List, [], ◌∷◌, ◌++◌}
use Rattle.bits.specs.Bits.{bytes_of, put_field}

pub record Field : Type 0 where
  pub width : ℕ
  pub value : ℕ

-- w bits that hold v
abbrev pub of : ℕ → ℕ → Field
of w v = record { width = w; value = v }

-- all widths together
unfoldable pub total : List Field → ℕ
total [] = 0
total (f ∷ fs) = f.width + total fs

-- the fields' bits as one number
unfoldable pub number : List Field → ℕ
number [] = 0
number (f ∷ fs) = f.value * 2 ^ total fs + number fs

-- how many bytes hold n bits
abbrev pub bytes_for : ℕ → ℕ
bytes_for n = (n + 7) / 8

-- how many bits of them are left over
abbrev pub fill : ℕ → ℕ
fill n = 8 * bytes_for n - n

-- the sheet's bytes
unfoldable pub pack : List Field → List ℕ
pack fs = bytes_of (bytes_for (total fs)) (number fs * 2 ^ fill (total fs))

-- the groups f 0, f 1, .. f (n - 1), one after another
unfoldable pub many : (ℕ → List Field) → ℕ → List Field
many f zero = []
many f (suc n) = many f n ++ f n

-- s with the fields fs from `at` on
unfoldable pub put_all : List ℕ → ℕ → List Field → List ℕ
put_all s at [] = s
put_all s at (f ∷ fs) = put_all (put_field s at f.width f.value) (at + f.width) fs
