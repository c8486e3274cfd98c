-- What each answer of the code means, in the words of `layouts`.
use Rattle.std.specs.Prelude.{ℕ, ◌+◌, ◌/◌, List, [], length}
use Rattle.layouts.specs.Primitive.{number_at, Result, ok, onward}
use Rattle.layouts.specs.Refusal.{refused_by}
use Rattle.layouts.specs.Pieces.{Num, value, short, run}
use Rattle.layouts.specs.Record.{blank, with_number, with_count, with_entries, with_payload}
use Rattle.layouts.specs.Shape.{as_count, kept, set, framed}
use Rattle.layouts.specs.Judge.{Ended, entries_of, payload_of}
use Rattle.layouts.specs.Calls.{field, skip_string, read_string, read_string_set}
use Rattle.pieces.specs.Pieces.{Span, span}
use Rattle.writers_output.specs.Numbers.{bytes_of}
use Rattle.walk_rooms.specs.Rooms.{RoomFilled, room_filled, LentRead, lent_read}
use Rattle.wire.specs.declared.Cursor.{Cursor}
use Rattle.wire.specs.declared.Read.{Read}
use Rattle.wire.specs.declared.Spanned.{Spanned}
use Rattle.std.specs.Prelude as Std
use Rattle.layouts.specs.declared.Refusal.{Refusal}
use Rattle.std.specs.Prelude.{Option, Some, None, Ok, Err}

-- a number, the count of a skipped set, the total of skipped frames: number 0
abbrev pub number_read : Std.Result Read Refusal → Result Ended
number_read (Ok k) = ok (record { found = with_number blank 0 k.value; ends = k.next.at })
number_read (Err r) = refused_by r

-- the count of a set: count 0, and as many entries
abbrev pub count_read : Std.Result Read Refusal → Result Ended
count_read (Ok k) = ok (record { found = with_entries (with_count blank 0 k.value) k.value; ends = k.next.at })
count_read (Err r) = refused_by r

-- the total of frames: so many bytes of payload
abbrev pub total_read : Std.Result Read Refusal → Result Ended
total_read (Ok k) = ok (record { found = with_payload blank k.value; ends = k.next.at })
total_read (Err r) = refused_by r

abbrev pub peeked : Option ℕ → Num
peeked (Some v) = value v
peeked None = short

abbrev pub skipped_to : Std.Result Cursor Refusal → Result ℕ
skipped_to (Ok next) = ok next.at
skipped_to (Err r) = refused_by r

abbrev pub spanned : Std.Result Spanned Refusal → Result Span
spanned (Ok k) = ok (span k.start k.len k.next.at)
spanned (Err r) = refused_by r

-- read_bytes and read_string answer start and length of the contents with the end
abbrev pub read_bytes : List ℕ → (at : ℕ) → Result Span
read_bytes s at = onward (skip_string s at) (λ e. ok (span (at + 8) (number_at s at) e))

abbrev pub read_text : List ℕ → (at : ℕ) → Result Span
read_text s at = onward (read_string s at) (λ e. ok (span (at + 8) (number_at s at) e.ends))

-- the entries of a set, and the payload of framed data
abbrev pub set_entries : List ℕ → (at : ℕ) → List ℕ
set_entries s at = entries_of (run (field (set kept (as_count 0))) s at)

abbrev pub framed_payload : List ℕ → (at : ℕ) → List ℕ
framed_payload s at = payload_of s (run (field framed) s at)

-- ---- a set: the answer, and the entries afterwards, in a form. It has no payload
abbrev pub set_filled : {A : Type 0} → (form : List ℕ → List A) → List ℕ → (at slots : ℕ) → (lent : List A) → RoomFilled (Result Ended) A
set_filled form s at slots lent = room_filled (λ o. o) (read_string_set s at slots) (form (set_entries s at)) [] lent []

abbrev pub set_read : List ℕ → (at : ℕ) → (entries : List ℕ) → LentRead (Result Ended)
set_read s at entries = lent_read (λ o. o) (read_string_set s at (length entries / 2)) (set_entries s at) [] entries []

abbrev pub set_read_bytes : List ℕ → (at : ℕ) → (entries : List ℕ) → LentRead (Result Ended)
set_read_bytes s at entries = lent_read (λ o. o) (read_string_set s at (length entries / 16)) (bytes_of (set_entries s at)) [] entries []
