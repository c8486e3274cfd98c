-- What the theorem "written, then read" of the writer of calls speaks of.
use Rattle.std.specs.Prelude.{ℕ, ◌<◌, ◌≤◌, ◌≡◌, List, [], ◌++◌, length, get_or}
use Rattle.layouts.specs.Primitive.{limit, Result, ok, onward}
use Rattle.layouts.specs.Pieces.{Pieces, run}
use Rattle.layouts.specs.Judge.{entries_of, payload_of}
use Rattle.layouts.specs.Calls.{Context, arguments_tree, Answer, read_op_args}
use Rattle.layouts.specs.Writers.{view_of}
use Rattle.layouts.specs.CallWriter.{call_fields, strings_of}

-- fifteen numbers of eight bytes
abbrev pub Fifteen : List ℕ → Type 0
Fifteen ns = (length ns ≡ 15) × ((j : ℕ) → get_or ns j 0 < 18446744073709551616)

-- the strings that a call is written with, in order
unfoldable pub call_strings : Context → (numbers bytes entries : List ℕ) → Result (List (List ℕ))
call_strings c ns bytes es = onward (call_fields c) (λ ws. strings_of ns bytes es ws)

-- none of them is above the limit
abbrev pub NoneLong : List (List ℕ) → Type 0
NoneLong cs = (k : ℕ) → k < length cs → length (get_or cs k []) ≤ limit

-- what the reader of arguments judges
abbrev pub call_pieces : Context → List ℕ → Pieces
call_pieces c s = run (arguments_tree c) s 0

-- the stream reads to this end, with these numbers and counts, these strings, whatever follows their entries, and this payload
pub record ReadBack (c : Context) (numbers payload : List ℕ) (strings : List (List ℕ)) (s : List ℕ) (slots room ends : ℕ) : Type 0 where
  pub answer : Answer
  pub reads : read_op_args c s slots room ≡ ok answer
  pub kind : 0 < answer.kind
  pub stops : answer.ends ≡ ends
  pub same : answer.found.numbers ++ answer.found.counts ≡ numbers
  pub entries : answer.found.entries ≡ length strings
  pub views : (spare : List ℕ) (k : ℕ) → k < length strings → view_of s (entries_of (call_pieces c s) ++ spare) k ≡ ok (get_or strings k [])
  pub size : answer.found.payload ≡ length payload
  pub holds : payload_of s (call_pieces c s) ≡ payload
