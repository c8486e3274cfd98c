-- What is put of a call, item by item, and its numbers in lent bytes.
use Rattle.std.specs.Prelude.{ℕ, ◌+◌, ◌-◌, ◌≤◌, ◌≡◌, List, [], ◌∷◌, ◌++◌, length, eqb}
use Rattle.layouts.specs.declared.Record.{Record}
use Rattle.layouts.specs.Primitive.{pick, number_bytes, Result, ok, refused}
use Rattle.layouts.specs.Judge.{lent_after}
use Rattle.layouts.specs.Shape.{What}
use Rattle.layouts.specs.Calls.{Context}
use Rattle.layouts.specs.Writers.{slots_of, strings_bytes, framed_bytes}
use Rattle.layouts.specs.CallWriter.{strings_in, entries_for, field_bytes, call_bytes, write_bytes, write_op_args}
use Rattle.writers_sets.specs.Sets.{parts_from}
use Rattle.writers_fields.specs.Fields.{has_number}

-- ---- an item: its number, its strings, its framed data
abbrev pub number_by : (kind n : ℕ) → List ℕ
number_by k n = pick (has_number k) (number_bytes n) []

abbrev pub frames_by : (kind : ℕ) → (payload : List ℕ) → List ℕ
frames_by k p = pick (eqb k 5) (framed_bytes p) []

-- the strings of the entries from one number to another
abbrev pub strings_by : (bytes entries : List ℕ) → (i next : ℕ) → List ℕ
strings_by b es i j = strings_bytes (parts_from b es (j - i) i)

abbrev pub item_bytes : (kind n : ℕ) → (bytes entries : List ℕ) → (i next : ℕ) → (payload : List ℕ) → List ℕ
item_bytes k n b es i j p = number_by k n ++ (strings_by b es i j ++ frames_by k p)

-- ---- the fields, from entry i on
unfoldable pub fields_from : (numbers payload bytes entries : List ℕ) → (i : ℕ) → List What → List ℕ
fields_from ns p b es i [] = []
fields_from ns p b es i (w ∷ ws) = field_bytes ns p (parts_from b es (strings_in ns w) i) w ++ fields_from ns p b es (i + strings_in ns w) ws

-- there are entries for all of them, and there is room
pub record Planned (numbers payload bytes es : List ℕ) (size : ℕ) (ws : List What) : Type 0 where
  pub used : ℕ
  pub entries : entries_for numbers (slots_of es) 0 ws ≡ ok used
  pub room : length (fields_from numbers payload bytes es 0 ws) ≤ size

-- ---- the lent output after these bytes were to be written
abbrev pub bytes_or : Result (List ℕ) → List ℕ
bytes_or (ok output) = output
bytes_or (refused which place stream) = []

abbrev pub after_bytes : Result (List ℕ) → (lent : List ℕ) → List ℕ
after_bytes o lent = lent_after (write_bytes o lent) (bytes_or o) lent

-- what a call answers, and the lent output afterwards
pub record Call : Type 0 where
  pub answer : Result ℕ
  pub lent : List ℕ

unfoldable pub call_written : Context → (numbers bytes entries payload lent : List ℕ) → Call
call_written c ns bytes es p lent = record { answer = write_op_args c ns bytes es p lent; lent = after_bytes (call_bytes c ns bytes es p) lent }

-- the numbers of a record
abbrev pub fifteen : Record → List ℕ
fifteen r = r.numbers ++ r.counts

-- ---- how many entries are used, where there are so many
abbrev pub used_or : ℕ → Result ℕ → ℕ
used_or used (ok next) = next
used_or used (refused which place stream) = used
