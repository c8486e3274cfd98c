-- Entries in lent memory, as numbers or as sixteen bytes each, start and then length; and where a string lies by its entry.
use Rattle.std.specs.Prelude.{ℕ, zero, suc, ◌+◌, ◌*◌, ◌/◌, List, [], ◌∷◌, ◌++◌, length}
use Rattle.layouts.specs.Primitive.{number_at, Result, ok, onward}
use Rattle.layouts.specs.Refusal.{refused_by}
use Rattle.layouts.specs.Writers.{entry_start, entry_length, view_of}
use Rattle.entries.specs.declared.Located.{Located}
use Rattle.std.specs.Prelude as Std
use Rattle.layouts.specs.declared.Refusal.{Refusal}
use Rattle.std.specs.Prelude.{Ok, Err}

-- how many entries there are in bytes, or is room for: sixteen make a slot
abbrev pub slots_in : (bytes : List ℕ) → ℕ
slots_in bytes = length bytes / 16

-- and in what is lent in both forms, where two numbers make a slot
abbrev pub slots_in_both : (words bytes : List ℕ) → ℕ
slots_in_both words bytes = length words / 2 + slots_in bytes

-- n numbers from a place on
unfoldable pub numbers_from : (n at : ℕ) → (bytes : List ℕ) → List ℕ
numbers_from zero at b = []
numbers_from (suc n) at b = number_at b at ∷ numbers_from n (at + 8) b

abbrev pub entries_in : (bytes : List ℕ) → List ℕ
entries_in b = numbers_from (2 * (length b / 16)) 0 b

-- the numbers of what is lent in both forms
unfoldable pub numbers_in : (words bytes : List ℕ) → List ℕ
numbers_in words bytes = words ++ entries_in bytes

-- start and length of string number i
abbrev pub place_of : (bytes entries : List ℕ) → (i : ℕ) → Result (ℕ × ℕ)
place_of bytes es i = onward (view_of bytes es i) (λ c. ok (entry_start es i, entry_length es i))

abbrev pub found : Std.Result Located Refusal → Result (ℕ × ℕ)
found (Ok k) = ok (k.start, k.len)
found (Err r) = refused_by r
