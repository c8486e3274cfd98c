-- Reading: a judge takes the pieces one by one, with the room that is lent, and ends in the record or in the first refusal. What is kept goes into the room.
use Rattle.std.specs.Prelude.{ℕ, ◌+◌, ◌-◌, List, [], ◌∷◌, ◌++◌, Bool, true, false, not, ◌&&◌, length, take, drop, leb}
use Rattle.text.specs.Prefix.{good_prefix, is_text}
use Rattle.layouts.specs.declared.Record.{Record}
use Rattle.layouts.specs.Primitive.{pick, cut_short, bad_text, no_entry_room, no_payload_room, Result, ok, refused, onward}
use Rattle.layouts.specs.Shape.{Role, passed, checked, kept}
use Rattle.layouts.specs.Pieces.{Pieces, number, text, half, chunk, end, fault}
use Rattle.layouts.specs.Record.{noted, is_kept, entered, with_payload}

abbrev pub is_decoded : Role → Bool
is_decoded passed = false
is_decoded checked = true
is_decoded kept = true

-- a decoded string that is not RFC 3629 text
unfoldable pub not_text : List ℕ → Role → (start len : ℕ) → Bool
not_text s m start len = is_decoded m && not (is_text (take len (drop start s)))

-- the end of the contents' longest beginning that is text, from the stream's start
unfoldable pub text_end : List ℕ → (start len : ℕ) → ℕ
text_end s start len = start + good_prefix (take len (drop start s))

-- a decoded string that is not text is refused by 3, at its first ill-formed sequence; else as given
abbrev pub or_bad : {A : Type 0} → List ℕ → Role → (start len : ℕ) → Result A → Result A
or_bad s m start len o = pick (not_text s m start len) (refused bad_text (text_end s start len) 0) o

-- a string: 3, then 4 at its length
unfoldable pub text_taken : List ℕ → (slots : ℕ) → Record → Role → (start len : ℕ) → Result Record
text_taken s slots r m start len =
    or_bad s m start len (pick (is_kept m && leb slots r.entries) (refused no_entry_room (start - 8) 0) (ok (entered r m)))

-- a string whose padding is cut short: 3, then 1 at the padding
unfoldable pub half_taken : {A : Type 0} → List ℕ → Role → (start len : ℕ) → Result A
half_taken s m start len = or_bad s m start len (refused cut_short (start + len) 0)

-- a chunk: 5 at its length
unfoldable pub chunk_taken : (room : ℕ) → Record → (start len : ℕ) → Result Record
chunk_taken room r start len =
    pick (leb (r.payload + len) room) (ok (with_payload r (r.payload + len))) (refused no_payload_room (start - 8) 0)

pub record Ended : Type 0 where
  pub found : Record
  pub ends : ℕ

unfoldable pub judge_of : List ℕ → (slots room : ℕ) → Record → Pieces → Result Ended
judge_of s slots room r (number i place n p) = judge_of s slots room (noted r i n) p
judge_of s slots room r (text m start len p) = onward (text_taken s slots r m start len) (λ r'. judge_of s slots room r' p)
judge_of s slots room r (half m start len) = half_taken s m start len
judge_of s slots room r (chunk start len p) = onward (chunk_taken room r start len) (λ r'. judge_of s slots room r' p)
judge_of s slots room r (end place) = ok (record { found = r; ends = place })
judge_of s slots room r (fault which place) = refused which place 0

-- ---- what is kept
abbrev pub entry : Bool → (start len : ℕ) → List ℕ → List ℕ
entry true start len es = start ∷ len ∷ es
entry false start len es = es

-- start and length of each string that is kept
unfoldable pub entries_of : Pieces → List ℕ
entries_of (number i place n p) = entries_of p
entries_of (text m start len p) = entry (is_kept m) start len (entries_of p)
entries_of (half m start len) = []
entries_of (chunk start len p) = entries_of p
entries_of (end place) = []
entries_of (fault which place) = []

-- the chunks, joined
unfoldable pub payload_of : List ℕ → Pieces → List ℕ
payload_of s (number i place n p) = payload_of s p
payload_of s (text m start len p) = payload_of s p
payload_of s (half m start len) = []
payload_of s (chunk start len p) = take len (drop start s) ++ payload_of s p
payload_of s (end place) = []
payload_of s (fault which place) = []

-- lent memory afterwards: what is reported, then what was lent; a refusal changes nothing
abbrev pub lent_after : {A : Type 0} → Result A → (reported lent : List ℕ) → List ℕ
lent_after (ok a) new lent = new ++ drop (length new) lent
lent_after (refused which place stream) new lent = lent
