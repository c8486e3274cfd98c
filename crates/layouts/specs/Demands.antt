-- What the theorems about the demands speak of, beside the calls.
use Rattle.std.specs.Prelude.{ℕ, ◌+◌, ◌≤◌, ◌<◌, ◌≡◌, List, [], ◌∷◌, ◌++◌, Bool, true, ◌||◌, length, get_or, take, drop, eqb}
use Rattle.text.specs.Rfc3629.{Text, IllFormedAt}
use Rattle.layouts.specs.declared.Record.{Record}
use Rattle.layouts.specs.Primitive.{pick, number_at, limit, pad_of, Version, version, from_wire, at_least, bad_text, Result, ok, refused}
use Rattle.layouts.specs.Shape.{Target, as_count, Role, kept, set}
use Rattle.layouts.specs.Pieces.{Pieces, number, text, half, chunk, end, fault, run, skip_of, total_of}
use Rattle.layouts.specs.Record.{blank, record_of}
use Rattle.layouts.specs.Judge.{is_decoded, Ended, entries_of}
use Rattle.layouts.specs.Operations.{Kinds}
use Rattle.layouts.specs.Calls.{Context, Answer, answered, field}
use Rattle.layouts.specs.Handshake.{Heard, heard, failed, ended, stream_of, Both, number_in, handshake_answer}
use Rattle.layouts.specs.Writers.{string_bytes, set_bytes, texts_of}
use Rattle.layouts.specs.Soft.{kept_of, record_heard}

-- the elements of a list are bytes; of a `&[u8]` they are
abbrev pub Bytes : List ℕ → Type 0
Bytes s = (x : ℕ) → get_or s x 0 < 256

-- and there are fewer of them than 2^63
abbrev pub Held : List ℕ → Type 0
Held s = Bytes s × (length s < 9223372036854775808)

-- ---- demand 1: refused, at this place or an earlier one
abbrev pub RefusedBy : {A : Type 0} → (place : ℕ) → Result A → Type 0
RefusedBy place o = (which : ℕ) × (earlier : ℕ) × (o ≡ refused which earlier 0) × (earlier ≤ place)

-- ---- demand 2
-- an answer: where skipping ends, what the pieces make of the record, and that there was room
pub record Read (slots room : ℕ) (r : Record) (p : Pieces) (x : Ended) : Type 0 where
  pub skips : skip_of p ≡ ok x.ends
  pub holds : x.found ≡ record_of r p
  pub fits : r.entries ≤ slots → r.payload ≤ room → (r.entries + kept_of p ≤ slots) × (r.payload + total_of p ≤ room)

-- strings that are text of at most 268,435,456 bytes
abbrev pub Strings : List (List ℕ) → Type 0
Strings [] = Unit {0}
Strings (c ∷ cs) = Text c × (length c ≤ limit) × Strings cs

-- all padding that the pieces have is zero
abbrev pub Zeros : List ℕ → (from next : ℕ) → Type 0
Zeros s from next = (i : ℕ) → from ≤ i → i < next → get_or s i 0 ≡ 0

unfoldable pub ZeroPadded : List ℕ → Pieces → Type 0
ZeroPadded s (number i place n p) = ZeroPadded s p
ZeroPadded s (text m start len p) = Zeros s (start + len) (start + len + pad_of len) × ZeroPadded s p
ZeroPadded s (half m start len) = Unit {0}
ZeroPadded s (chunk start len p) = ZeroPadded s p
ZeroPadded s (end place) = Unit {0}
ZeroPadded s (fault which place) = Unit {0}

-- what the reader of a set judges
abbrev pub set_pieces : List ℕ → (at : ℕ) → Pieces
set_pieces s at = run (field (set kept (as_count 0))) s at

-- the contents of the string at a place
abbrev pub contents_at : List ℕ → (at : ℕ) → List ℕ
contents_at s at = take (number_at s at) (drop (at + 8) s)

-- from the place to the end stand the bytes that are written of the contents
pub record StringBack (s : List ℕ) (at ends : ℕ) : Type 0 where
  pub small : length (contents_at s at) ≤ limit
  pub stands : drop at s ≡ string_bytes (contents_at s at) ++ drop ends s
  pub size : at + length (string_bytes (contents_at s at)) ≡ ends

-- and of a set those of its strings, which are found by its own entries, whatever follows the entries
pub record SetBack (s : List ℕ) (at slots ends : ℕ) : Type 0 where
  pub these : List (List ℕ)
  pub fine : Strings these
  pub many : length these ≡ number_at s at
  pub fits : length these ≤ slots
  pub shown : (spare : List ℕ) → texts_of s (entries_of (set_pieces s at) ++ spare) (number_at s at) ≡ ok these
  pub stands : drop at s ≡ set_bytes these ++ drop ends s
  pub size : at + length (set_bytes these) ≡ ends

-- the arguments have an F: of AddToStore from 1.25 on
abbrev pub framed_arguments : ℕ → Bool
framed_arguments op = eqb op 7 || eqb op 44 || eqb op 45

-- AddToStore below 1.25 is read as nothing and skipped as S N N s; else the two calls speak of the same fields
abbrev pub Alike : Context → Type 0
Alike c = c.op ≡ 7 → at_least c.spoken (version 1 25) ≡ true

-- ---- demand 3
-- what the pieces mean: kind, end, numbers, flags and counts
abbrev pub meaning_of : Version → Kinds → Pieces → (e : ℕ) → Result Answer
meaning_of v k p e = answered v k (ok (record { found = record_of blank p; ends = e }))

-- no byte of a part was changed
abbrev pub Untouched : (s s' : List ℕ) → (start len : ℕ) → Type 0
Untouched s s' start len = (x : ℕ) → start ≤ x → x < start + len → get_or s' x 0 ≡ get_or s x 0

-- a string, if it is decoded, is RFC 3629 text; it is decoded and is not, n bytes of it being good
abbrev pub Fine : List ℕ → Role → (start len : ℕ) → Type 0
Fine s m start len = is_decoded m ≡ true → Text (take len (drop start s))

abbrev pub Bad : List ℕ → Role → (start len n : ℕ) → Type 0
Bad s m start len n = (is_decoded m ≡ true) × IllFormedAt n (take len (drop start s))

-- every decoded string is text
abbrev pub AllText : List ℕ → Pieces → Type 0
AllText s (number i place n p) = AllText s p
AllText s (text m start len p) = Fine s m start len × AllText s p
AllText s (half m start len) = Fine s m start len
AllText s (chunk start len p) = AllText s p
AllText s (end place) = Unit {0}
AllText s (fault which place) = Unit {0}

-- the first decoded string that is not text has its contents from x on, of which n bytes are good
pub data FirstBad (s : List ℕ) : Pieces → (x n : ℕ) → Type 0 where
  here : {m : Role} {start len n : ℕ} {p : Pieces} → Bad s m start len n → FirstBad s (text m start len p) start n
  here_cut : {m : Role} {start len n : ℕ} → Bad s m start len n → FirstBad s (half m start len) start n
  after_number_lem : {i : Target} {place v x n : ℕ} {p : Pieces} → FirstBad s p x n → FirstBad s (number i place v p) x n
  after_text : {m : Role} {start len x n : ℕ} {p : Pieces} → Fine s m start len → FirstBad s p x n → FirstBad s (text m start len p) x n
  after_chunk_lem : {start len x n : ℕ} {p : Pieces} → FirstBad s p x n → FirstBad s (chunk start len p) x n

-- one of two: o, and every decoded string is text; 3 at the first ill-formed sequence of the first that is not
pub data Verdict {A : Type 0} (s : List ℕ) (p : Pieces) (o : Result A) : Result A → Type 0 where
  all_text : AllText s p → Verdict s p o o
  first_bad : {x n : ℕ} → FirstBad s p x n → Verdict s p o (refused bad_text (x + n) 0)

-- ---- the same of a handshake, whose strings stand on two streams
abbrev pub AllTextHeard : (s u : List ℕ) → Heard → Type 0
AllTextHeard s u (heard d p h) = AllText (pick d u s) p × AllTextHeard s u h
AllTextHeard s u (failed which place stream) = Unit {0}
AllTextHeard s u (ended a b) = Unit {0}

-- the first decoded string that is not text has its contents from x of this stream on, of which n bytes are good
pub data FirstBadHeard (s u : List ℕ) : Heard → (x n stream : ℕ) → Type 0 where
  in_turn : {d : Bool} {p : Pieces} {h : Heard} {x n : ℕ} → FirstBad (pick d u s) p x n → FirstBadHeard s u (heard d p h) x n (stream_of d)
  after_turn : {d : Bool} {p : Pieces} {h : Heard} {x n stream : ℕ} → AllText (pick d u s) p → FirstBadHeard s u h x n stream
      → FirstBadHeard s u (heard d p h) x n stream

-- one of two: o, and every decoded string of both streams is text; 3 at the first ill-formed sequence of the first that is not, on its stream
pub data VerdictHeard {A : Type 0} (s u : List ℕ) (h : Heard) (o : Result A) : Result A → Type 0 where
  all_heard : AllTextHeard s u h → VerdictHeard s u h o o
  first_heard : {x n stream : ℕ} → FirstBadHeard s u h x n stream → VerdictHeard s u h o (refused bad_text (x + n) stream)

-- what both streams mean: the record of all turns, and both ends
abbrev pub both_mean : Heard → Both → Both
both_mean h e = record { found = record_heard blank h; client_ends = e.client_ends; daemon_ends = e.daemon_ends }

abbrev pub handshake_meaning : Heard → Both → Result Answer
handshake_meaning h e = handshake_answer (from_wire (number_in (record_heard blank h) 1)) (both_mean h e)

abbrev pub daemon_meaning : Version → Heard → Both → Result Answer
daemon_meaning c h e = handshake_answer c (both_mean h e)
