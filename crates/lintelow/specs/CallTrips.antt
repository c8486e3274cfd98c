-- What the theorems about round trips of calls speak of.
use Rattle.std.specs.Prelude.{ℕ, ◌≤◌, ◌≡◌, List, length}
use Rattle.layouts.specs.Primitive.{ok}
use Rattle.layouts.specs.Calls.{Context}
use Rattle.layouts_calls.specs.CallTrips.{call_strings, NoneLong}
use Rattle.entries.specs.Entries.{numbers_from}
use Rattle.lintelow.specs.Demands.{in_block}
use Rattle.lintelow.specs.RoundTrips.{SameStrings}

-- the strings that a call is written with are at most so many, and none is above the limit
abbrev pub FewAndShort : Context → (numbers bytes entries : List ℕ) → (slots : ℕ) → Type 0
FewAndShort c ns bytes es slots = (cs : List (List ℕ)) → call_strings c ns bytes es ≡ ok cs → NoneLong cs × (length cs ≤ slots)

-- what was read is what the call was written with: its fifteen numbers; by their entries its strings, all that are used and in order; its payload
pub record SameCall (c : Context) (numbers bytes entries payload : List ℕ) (numbersRead s entries_read : List ℕ) (many : ℕ) (payload_read : List ℕ) : Type 0 where
  pub same : numbersRead ≡ numbers
  pub used : (cs : List (List ℕ)) × (call_strings c numbers bytes entries ≡ ok cs) × (many ≡ length cs)
  pub strings : SameStrings many s entries_read bytes entries
  pub carries : payload_read ≡ payload

-- what a block tells of a call: its kind, and its fifteen numbers, which stand from byte 64 on
abbrev pub kind_told : (block : List ℕ) → ℕ
kind_told block = in_block 3 block

abbrev pub fifteen_told : (block : List ℕ) → List ℕ
fifteen_told block = numbers_from 15 64 block
