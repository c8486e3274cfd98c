-- The fields of a call by the numbers of the table, and what they need.
use Rattle.std.specs.Prelude.{ℕ, ◌+◌, ◌-◌, List, [], ◌∷◌, Bool, not, ◌&&◌, ltb, leb, eqb}
use Rattle.layouts.specs.Primitive.{pick, no_such_entry, Result, ok, refused}
use Rattle.layouts.specs.Shape.{What, num, str, set, pairs, framed, maybe, typed, position}
use Rattle.layouts.specs.CallWriter.{fields_there}
use Rattle.table.specs.Table.{role_of, target_of, what_of, items_at}
use Rattle.walk_items.specs.Items.{version_of}
use Rattle.writers_sets.specs.Sets.{grown}

-- the fields that are there from a place of the table on
abbrev pub fields_at : (layout pc : ℕ) → List What
fields_at l pc = fields_there (version_of l) (items_at pc)

-- an item is a field or, where one is absent, nothing
unfoldable pub what_in : (kind role target : ℕ) → List What
what_in k r t = pick (eqb k 16) [] (what_of k (role_of r) (target_of t) ∷ [])

abbrev pub has_number : (kind : ℕ) → Bool
has_number k = ((((not (eqb k 2) && not (eqb k 5)) && not (eqb k 6)) && not (eqb k 7)) && not (eqb k 8)) && not (eqb k 16)

abbrev pub target_by : (kind target : ℕ) → ℕ
target_by k t = pick (has_number k) t 0

-- which of the fifteen numbers a target has; 15 and above are none
abbrev pub index_of : (target : ℕ) → ℕ
index_of t = pick (eqb t 0) 15 (pick (ltb t 13) (t - 1) (t - 13))

-- what a target leaves of its number
abbrev pub left_of : (target n : ℕ) → ℕ
left_of t n = pick ((leb 13 t && ltb t 25) && ltb 1 n) n 0

-- ---- how many strings a field with the number n has; how many entries are used after it, or 11
abbrev pub strings_by : (kind n : ℕ) → ℕ
strings_by k n = pick (eqb k 2) 1 (pick (eqb k 3) n (pick (eqb k 4) (n + n) 0))

abbrev pub strings_after : (kind n slots used : ℕ) → Result ℕ
strings_after k n slots used = pick (leb (strings_by k n) (slots - used)) (ok (used + strings_by k n)) (refused no_such_entry n 0)

-- ---- how many bytes a field takes besides its strings, where framed data takes so many
abbrev pub bytes_by : (framed kind : ℕ) → ℕ
bytes_by f k = pick (has_number k) 8 (pick (eqb k 5) f 0)

unfoldable pub bytes_of : (framed : ℕ) → What → ℕ
bytes_of f (num t) = 8
bytes_of f (str m) = 0
bytes_of f (set m t) = 8
bytes_of f (pairs m t) = 8
bytes_of f framed = f
bytes_of f maybe = 0
bytes_of f typed = 0
bytes_of f position = 0

-- after a total, up to the room
unfoldable pub bytes_after : (room framed total : ℕ) → List What → ℕ
bytes_after room f t [] = t
bytes_after room f t (w ∷ ws) = bytes_after room f (grown room t (bytes_of f w)) ws
