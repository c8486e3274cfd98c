-- Numbers, padding, versions, and the form of every answer.
use Rattle.std.specs.Prelude.{ℕ, zero, suc, ◌+◌, ◌-◌, ◌*◌, ◌/◌, ◌%◌, List, [], ◌∷◌, Bool, true, false, ◌&&◌, get_or, ltb, leb, eqb}

abbrev pub pick {ℓ} : {A : Type ℓ} → Bool → A → A → A
pick true a b = a
pick false a b = b

-- k bytes at a place, the lowest first; past the end a byte reads as 0
unfoldable pub little_at : (k : ℕ) → List ℕ → (at : ℕ) → ℕ
little_at zero s at = 0
little_at (suc k) s at = get_or s at 0 + 256 * little_at k s (at + 1)

-- k bytes of a number, the lowest first
unfoldable pub little_end : (k n : ℕ) → List ℕ
little_end zero n = []
little_end (suc k) n = n % 256 ∷ little_end k (n / 256)

-- a number N is 8 bytes, a u32 4
unfoldable pub number_at : List ℕ → (at : ℕ) → ℕ
unfolding little_at
number_at s at = little_at 8 s at

unfoldable pub number_bytes : ℕ → List ℕ
unfolding little_end
number_bytes n = little_end 8 n

abbrev pub limit : ℕ
limit = 268435456

unfoldable pub pad_of : ℕ → ℕ
pad_of n = (8 - n % 8) % 8

-- a flag is false at 0 and true at every other number
abbrev pub is_true : ℕ → Bool
is_true zero = false
is_true (suc n) = true

-- ---- versions
pub record Version : Type 0 where
  pub major : ℕ
  pub minor : ℕ

abbrev pub version : (major minor : ℕ) → Version
version major minor = record { major = major; minor = minor }

-- major from bits 8 to 15, minor from bits 0 to 7
abbrev pub from_wire : ℕ → Version
from_wire wire = version (wire / 256 % 256) (wire % 256)

-- by major, then minor
unfoldable pub at_least : Version → Version → Bool
at_least v w = pick (eqb v.major w.major) (leb w.minor v.minor) (ltb w.major v.major)

abbrev pub smaller : Version → Version → Version
smaller v w = pick (at_least v w) w v

-- ---- refusals, each with when it is given and its place
-- a number, contents, padding or chunk needs more bytes than remain: at the start of that piece
abbrev pub cut_short : ℕ
cut_short = 1

-- a length above the limit: at the length
abbrev pub too_long : ℕ
too_long = 2

-- a decoded string isn't RFC 3629 text: at its first ill-formed sequence; writers: the entry's index, 0 for one string
abbrev pub bad_text : ℕ
bad_text = 3

-- a kept string has no slot: at its length
abbrev pub no_entry_room : ℕ
no_entry_room = 4

-- a chunk doesn't fit in what is left: at its length
abbrev pub no_payload_room : ℕ
no_payload_room = 5

-- the client's magic: 0
abbrev pub client_magic_wrong : ℕ
client_magic_wrong = 6

-- the daemon's magic: 0
abbrev pub daemon_magic_wrong : ℕ
daemon_magic_wrong = 7

-- the handshake's final number differs: at that number
abbrev pub not_last : ℕ
not_last = 8

-- a number that is not in the table, before any byte: 0
abbrev pub unknown_operation : ℕ
unknown_operation = 9

-- a writer's whole output doesn't fit: 0
abbrev pub output_full : ℕ
output_full = 10

-- an index not below the slots, a set writer's count above them: the index or count
abbrev pub no_such_entry : ℕ
no_such_entry = 11

-- start + length passes the end of the bytes: the entry's index
abbrev pub bad_entry : ℕ
bad_entry = 12

-- the call writer: the operation has no arguments that are known at this version: 0
abbrev pub no_arguments : ℕ
no_arguments = 13

-- the call writer: a number, count or payload that no field takes isn't 0 or empty, or a flag is above 1: 0
abbrev pub not_of_shape : ℕ
not_of_shape = 14

-- a position in an error block is not 0: at that number
abbrev pub nonzero_position : ℕ
nonzero_position = 15

-- ---- what a call answers; the stream is 1 for the daemon's of a handshake and else 0
pub data Result (A : Type 0) : Type 0 where
  ok : A → Result A
  refused : (which place stream : ℕ) → Result A

abbrev pub onward : {A B : Type 0} → Result A → (A → Result B) → Result B
onward (ok a) k = k a
onward (refused which place stream) k = refused which place stream

-- are two lists the same?
abbrev pub same : (a b : List ℕ) → Bool
same [] [] = true
same [] (y ∷ b) = false
same (x ∷ a) [] = false
same (x ∷ a) (y ∷ b) = eqb x y && same a b
