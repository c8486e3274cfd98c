-- What the theorems about round trips speak of: an output in a stream, strings by their entries, and what an answer says, by itself or in a block.
use Rattle.std.specs.Prelude.{ℕ, ◌≤◌, ◌<◌, ◌≡◌, List, length, take, drop}
use Rattle.layouts.specs.Primitive.{limit, ok}
use Rattle.layouts.specs.Writers.{view_of, part_of}
use Rattle.lintelow.specs.Demands.{end_told, start_told, length_told}
use Rattle.wire.specs.declared.Spanned.{Spanned}
use Rattle.layouts.specs.declared.Refusal.{Refusal}
use Rattle.std.specs.Prelude.{Ok, Result}

-- the stream has the first n bytes of the output at a place
abbrev pub Has : List ℕ → (at n : ℕ) → (output : List ℕ) → Type 0
Has s at n out = take n (drop at s) ≡ take n out

-- each of the strings has at most 268,435,456 bytes
abbrev pub Limited : (bytes entries : List ℕ) → (count : ℕ) → Type 0
Limited bytes es count = (i : ℕ) → i < count → length (part_of (view_of bytes es i)) ≤ limit

-- the first n strings of both are there, and are the same
abbrev pub SameStrings : (n : ℕ) → (bytes entries bytes' entries' : List ℕ) → Type 0
SameStrings n bytes es bytes' es' = (i : ℕ) → i < n → (c : List ℕ) × (view_of bytes es i ≡ ok c) × (view_of bytes' es' i ≡ ok c)

-- ---- answers of Rattle's calls
-- a reader answers these contents, by their place in the stream, and this end
abbrev pub StringAnswered : Result Spanned Refusal → (s contents : List ℕ) → (ends : ℕ) → Type 0
StringAnswered r s c e = (start : ℕ) × (len : ℕ) × (r ≡ Ok (record { start = start; len = len; next = (record { at = e }) })) × (take len (drop start s) ≡ c)

-- a writer answers n, and its output begins with the n bytes that the stream has at a place
abbrev pub OutputAnswered : Result ℕ Refusal → (output s : List ℕ) → (at n : ℕ) → Type 0
OutputAnswered w out s at n = (w ≡ Ok n) × Has s at n out

-- ---- the same of the exported calls: 0 is returned, and the numbers stand in the block
abbrev pub StringReported : (returned : ℕ) → (block s contents : List ℕ) → (ends : ℕ) → Type 0
StringReported r b s c e = (r ≡ 0) × (end_told b ≡ e) × (take (length_told b) (drop (start_told b) s) ≡ c)

abbrev pub OutputReported : (returned : ℕ) → (block output s : List ℕ) → (at n : ℕ) → Type 0
OutputReported w b out s at n = (w ≡ 0) × (end_told b ≡ n) × Has s at n out
