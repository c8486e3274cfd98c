-- When a call refuses, by the rows of document 01's table and without the walk: a beginning of the stream reads, and the piece that comes next is at fault.
-- `Grammar` says the same of what succeeds.
use Rattle.std.specs.Prelude.{ℕ, ◌+◌, ◌-◌, ◌≤◌, ◌<◌, ◌≡◌, List, [], ◌++◌, true, false, length}
use Rattle.text.specs.Rfc3629.{Text, IllFormedAt}
use Rattle.layouts.specs.declared.Record.{Record}
use Rattle.layouts.specs.Primitive.{number_bytes, limit, pad_of, cut_short, too_long, bad_text, no_entry_room, no_payload_room, client_magic_wrong, daemon_magic_wrong, not_last}
use Rattle.layouts.specs.Shape.{Target, Role, passed, kept, Tree, ask, say, frames, fail, stop}
use Rattle.layouts.specs.Record.{noted, is_kept, entered, with_payload}
use Rattle.layouts.specs.Judge.{is_decoded}
use Rattle.layouts.specs.Handshake.{Talk, turn, lost}

-- these bytes, from a place on and with the record so far, read up to what is left of the tree, with this room
pub data Reads (slots room : ℕ) : Tree → (at : ℕ) → Record → List ℕ → (rest : Tree) → (at : ℕ) → Record → Type 0 where
  reads_none : (t : Tree) (at : ℕ) (r : Record) → Reads slots room t at r [] t at r
  -- N
  reads_number : (i : Target) (n at at' : ℕ) (k : ℕ → Tree) (t : Tree) (b : List ℕ) (r r' : Record) → n < 18446744073709551616
      → Reads slots room (k n) (at + 8) (noted r i n) b t at' r' → Reads slots room (ask i k) at r (number_bytes n ++ b) t at' r'
  -- S: if it is decoded its contents are text, and if it is kept it has a slot
  reads_text : (m : Role) (at at' : ℕ) (k : Unit {0} → Tree) (t : Tree) (c pad b : List ℕ) (r r' : Record) → length c ≤ limit → length pad ≡ pad_of (length c)
      → (is_decoded m ≡ true → Text c) → (is_kept m ≡ true → r.entries < slots)
      → Reads slots room (k tt) (at + 8 + length c + pad_of (length c)) (entered r m) b t at' r'
      → Reads slots room (say m k) at r (number_bytes (length c) ++ (c ++ (pad ++ b))) t at' r'
  -- F: each chunk fits in what is left of the room
  reads_chunk : (at at' : ℕ) (k : Unit {0} → Tree) (t : Tree) (c b : List ℕ) (r r' : Record) → 0 < length c → length c ≤ limit → r.payload + length c ≤ room
      → Reads slots room (frames k) (at + 8 + length c) (with_payload r (r.payload + length c)) b t at' r'
      → Reads slots room (frames k) at r (number_bytes (length c) ++ (c ++ b)) t at' r'
  reads_last : (at at' : ℕ) (k : Unit {0} → Tree) (t : Tree) (b : List ℕ) (r r' : Record) → Reads slots room (k tt) (at + 8) r b t at' r'
      → Reads slots room (frames k) at r (number_bytes 0 ++ b) t at' r'

-- the piece that comes next, so many bytes further on, needs so many
pub data Needs : Tree → List ℕ → (further bytes : ℕ) → Type 0 where
  a_number : (i : Target) (k : ℕ → Tree) (u : List ℕ) → Needs (ask i k) u 0 8
  a_length : (m : Role) (k : Unit {0} → Tree) (u : List ℕ) → Needs (say m k) u 0 8
  contents : (m : Role) (k : Unit {0} → Tree) (n : ℕ) (u : List ℕ) → n ≤ limit → Needs (say m k) (number_bytes n ++ u) 8 n
  padding : (m : Role) (k : Unit {0} → Tree) (c u : List ℕ) → length c ≤ limit → (is_decoded m ≡ true → Text c)
      → Needs (say m k) (number_bytes (length c) ++ (c ++ u)) (8 + length c) (pad_of (length c))
  a_size : (k : Unit {0} → Tree) (u : List ℕ) → Needs (frames k) u 0 8
  a_chunk : (k : Unit {0} → Tree) (n : ℕ) (u : List ℕ) → 0 < n → n ≤ limit → Needs (frames k) (number_bytes n ++ u) 8 n

-- a length comes next, of a string or of a chunk
pub data Measured : Tree → Type 0 where
  a_string_lem : (m : Role) (k : Unit {0} → Tree) → Measured (say m k)
  chunks : (k : Unit {0} → Tree) → Measured (frames k)

-- the piece that comes next is at fault, 01's rows 1 to 5, or the tree itself fails
pub data Fault (slots room : ℕ) : Tree → (at : ℕ) → Record → List ℕ → (which place : ℕ) → Type 0 where
  -- 1: it needs more bytes than remain; its start
  cut : (t : Tree) (at further n : ℕ) (r : Record) (u : List ℕ) → Needs t u further n → length u < further + n → Fault slots room t at r u cut_short (at + further)
  -- 2: the length is above 268435456; the length
  too_long_there : (t : Tree) (at n : ℕ) (r : Record) (u : List ℕ) → Measured t → limit < n → n < 18446744073709551616
      → Fault slots room t at r (number_bytes n ++ u) too_long at
  -- 3: a decoded string is not RFC 3629 text; its first ill-formed sequence
  bad_text_lem : (m : Role) (at n : ℕ) (k : Unit {0} → Tree) (r : Record) (c u : List ℕ) → length c ≤ limit → is_decoded m ≡ true → IllFormedAt n c
      → Fault slots room (say m k) at r (number_bytes (length c) ++ (c ++ u)) bad_text (at + 8 + n)
  -- 4: a kept string has no slot; its length
  no_slot : (at : ℕ) (k : Unit {0} → Tree) (r : Record) (c pad u : List ℕ) → length c ≤ limit → length pad ≡ pad_of (length c) → Text c → slots ≤ r.entries
      → Fault slots room (say kept k) at r (number_bytes (length c) ++ (c ++ (pad ++ u))) no_entry_room at
  -- 5: a chunk does not fit in what is left; its length
  no_room : (at : ℕ) (k : Unit {0} → Tree) (r : Record) (c u : List ℕ) → 0 < length c → length c ≤ limit → room < r.payload + length c
      → Fault slots room (frames k) at r (number_bytes (length c) ++ (c ++ u)) no_payload_room at
  -- 9: the operation is not in the table; before any byte. 15: a position is not 0; that number, which was read just before
  fails : (which back at : ℕ) (r : Record) (u : List ℕ) → Fault slots room (fail which back) at r u which (at - back)

-- a beginning reads to the tree's end, with this record and at this place
pub record Answers (slots room : ℕ) (t : Tree) (at : ℕ) (r : Record) (s : List ℕ) (found : Record) (ends : ℕ) : Type 0 where
  pub these : List ℕ
  pub others : List ℕ
  pub splits : s ≡ these ++ others
  pub reads : Reads slots room t at r these stop ends found

-- a beginning reads, and what comes next is at fault
pub record Refuses (slots room : ℕ) (t : Tree) (at : ℕ) (r : Record) (s : List ℕ) (which place : ℕ) : Type 0 where
  pub these : List ℕ
  pub others : List ℕ
  pub rest : Tree
  pub next : ℕ
  pub sofar : Record
  pub splits : s ≡ these ++ others
  pub reads : Reads slots room t at r these rest next sofar
  pub faults : Fault slots room rest next sofar others which place

-- the same layout with every string lower-case: what skipping a reply reads
abbrev pub lower_case : Tree → Tree
lower_case (ask i k) = ask i (λ n. lower_case (k n))
lower_case (say m k) = say passed (λ u. lower_case (k u))
lower_case (frames k) = frames (λ u. lower_case (k u))
lower_case (fail which back) = fail which back
lower_case stop = stop

-- when a handshake refuses, from places of both streams on: turns that read, and then one that is refused on its stream, or rows 6 to 8
pub data Parts (slots : ℕ) : Talk → (a b : ℕ) → Record → (client daemon : List ℕ) → (which place stream : ℕ) → Type 0 where
  client_refused : (t : Tree) (k : Record → ℕ → Talk) (a b : ℕ) (r : Record) (s u : List ℕ) (which place : ℕ) → Refuses slots 0 t a r s which place
      → Parts slots (turn false t k) a b r s u which place 0
  daemon_refused : (t : Tree) (k : Record → ℕ → Talk) (a b : ℕ) (r : Record) (s u : List ℕ) (which place : ℕ) → Refuses slots 0 t b r u which place
      → Parts slots (turn true t k) a b r s u which place 1
  client_read : (t : Tree) (k : Record → ℕ → Talk) (a a' b : ℕ) (r r' : Record) (c s u : List ℕ) (which place stream : ℕ) → Reads slots 0 t a r c stop a' r'
      → Parts slots (k r' a') a' b r' s u which place stream → Parts slots (turn false t k) a b r (c ++ s) u which place stream
  daemon_read : (t : Tree) (k : Record → ℕ → Talk) (a b b' : ℕ) (r r' : Record) (c s u : List ℕ) (which place stream : ℕ) → Reads slots 0 t b r c stop b' r'
      → Parts slots (k r' b') a b' r' s u which place stream → Parts slots (turn true t k) a b r s (c ++ u) which place stream
  -- 6: the client's magic; 0
  client_magic_lem : (a b : ℕ) (r : Record) (s u : List ℕ) → Parts slots (lost client_magic_wrong 0 0) a b r s u client_magic_wrong 0 0
  -- 7: the daemon's magic; 0
  daemon_magic_lem : (a b : ℕ) (r : Record) (s u : List ℕ) → Parts slots (lost daemon_magic_wrong 0 1) a b r s u daemon_magic_wrong 0 1
  -- 8: the final number is not Last; that number
  not_last_there : (a b place : ℕ) (r : Record) (s u : List ℕ) → Parts slots (lost not_last place 1) a b r s u not_last place 1
