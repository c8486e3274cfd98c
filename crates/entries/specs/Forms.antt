-- The law that both forms of entries keep: as many slots as there are pairs of numbers.
use Rattle.std.specs.Prelude.{ℕ, zero, suc, ◌+◌, ◌*◌, ◌/◌, List, ◌≡◌, refl, length}
use mathlib.Core.Path.{ap}
use native.Mathlib.Omega.{arith}
use Rattle.layouts.specs.Writers.{slots_of}
use Rattle.entries.specs.Entries.{slots_in, numbers_from, entries_in}

length_numbers : (n at : ℕ) (b : List ℕ) → length (numbers_from n at b) ≡ n
unfolding numbers_from
length_numbers zero at b = refl
length_numbers (suc n) at b = ap suc (length_numbers n (at + 8) b)

pub how_many : (bytes : List ℕ) → length (entries_in bytes) ≡ 2 * (length bytes / 16)
how_many bytes = length_numbers (2 * (length bytes / 16)) 0 bytes

pub bytes_counted : (bytes : List ℕ) → slots_in bytes ≡ slots_of (entries_in bytes)
bytes_counted bytes = omega (arith, how_many bytes)
