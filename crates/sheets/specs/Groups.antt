-- Groups of a sheet in stream order: a group's bits run out (1), the form differs (2), the fill is not zero or bytes follow (6).
use Rattle.std.specs.Prelude.{ℕ, ◌*◌, ◌&&◌, List, leb, eqb, length}
use Rattle.basics.specs.Faults.{◌or_else◌, fault_unless}
use Rattle.basics.specs.Numbers.{bits_run_out, form_differs, fill_broken}
use Rattle.bits.specs.Bits.{field}
use Rattle.bits.specs.Sheet.{bytes_for, fill}
use Rattle.sheets.specs.Limits.{form_bits}

-- a group that ends at bit `end`, in a sheet of so many bytes
unfoldable pub runs_out : ℕ → ℕ → ℕ
runs_out bytes end = fault_unless (leb end (8 * bytes)) bits_run_out

unfoldable pub form_fault : List ℕ → ℕ → ℕ
form_fault s form = runs_out (length s) form_bits or_else fault_unless (eqb (field s 0 form_bits) form) form_differs

-- what follows the last group, which ends at bit `end`
unfoldable pub fill_fault : List ℕ → ℕ → ℕ
fill_fault s end = fault_unless (eqb (length s) (bytes_for end) && eqb (field s end (fill end)) 0) fill_broken
