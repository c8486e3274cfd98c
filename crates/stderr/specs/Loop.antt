-- What the code's answers mean, in the words of `layouts`.
use Rattle.std.specs.Prelude.{ℕ, ◌/◌, List, [], length}
use Rattle.layouts.specs.declared.Record.{Record}
use Rattle.layouts.specs.Primitive.{Result, ok, onward}
use Rattle.layouts.specs.Refusal.{refused_by}
use Rattle.layouts.specs.Pieces.{run}
use Rattle.layouts.specs.Judge.{judge_of, entries_of}
use Rattle.layouts.specs.Stderr as L
use Rattle.layouts.specs.Stderr.{no_code, terminal, goes, stopped_record, error_block, stderr_loop, stderr_answer, read_stderr_with_error, error_pieces}
use Rattle.writers_output.specs.Numbers.{bytes_of}
use Rattle.walk_judge.specs.declared.Answer.{Answer}
use Rattle.walk_judge.specs.Judged.{answer_as}
use Rattle.walk_rooms.specs.Rooms.{RoomFilled, room_filled, LentRead, lent_read}
use Rattle.table.specs.Table.{groups_at}
use Rattle.stderr.specs.declared.Message.{Message}
use Rattle.stderr.specs.declared.Message.TheVariants.{NoCode, Terminal, Goes}
use Rattle.stderr.specs.declared.Stopped.{Stopped}
use Rattle.stderr.specs.declared.ErrorBlock.{ErrorBlock}
use Rattle.stderr.specs.declared.ErrorBlock.TheVariants.{Ported, Traced, Short}
use Rattle.std.specs.Prelude as Std
use Rattle.layouts.specs.declared.Refusal.{Refusal}
use Rattle.std.specs.Prelude.{Ok, Err}

abbrev pub said : Message → L.Message
said NoCode = no_code
said Terminal = terminal
said (Goes i) = goes (groups_at i)

abbrev pub stopped_as : Std.Result Stopped Refusal → Result L.Stopped
stopped_as (Ok k) = ok (record { messages = k.messages; code = k.code; ends = k.ends })
stopped_as (Err r) = refused_by r

abbrev pub record_for : (messages code : ℕ) → Record
record_for messages code = stopped_record (record { messages = messages; code = code; ends = 0 })

-- the kind of an answer with such a block
abbrev pub block_number : ErrorBlock → ℕ
block_number Ported = 0
block_number Traced = 1
block_number Short = 2

-- ---- the answer, and the entries afterwards: n of them have room, and stand in a form. No payload is there
-- the error block of a kind from a place on, with the record so far
abbrev pub block_filled : {A : Type 0} → (kind : ℕ) → List ℕ → (at : ℕ) → Record → (n : ℕ) → (form : List ℕ → List A) → (lent : List A) → RoomFilled Answer A
block_filled k s at sofar n form lent =
    room_filled (λ o. answer_as (onward o (λ e. stderr_answer k e.ends e.found))) (judge_of s n 0 sofar (run (error_block k) s at))
    (form (entries_of (run (error_block k) s at))) [] lent []

-- the loop, and behind Error its block
abbrev pub error_entries : (kind : ℕ) → List ℕ → List ℕ
error_entries k s = entries_of (error_pieces k s (stderr_loop s))

abbrev pub error_filled : {A : Type 0} → (kind : ℕ) → (s : List ℕ) → (n : ℕ) → (form : List ℕ → List A) → (lent : List A) → RoomFilled Answer A
error_filled k s n form lent = room_filled answer_as (read_stderr_with_error k s n) (form (error_entries k s)) [] lent []

abbrev pub error_read : (kind : ℕ) → (s entries : List ℕ) → LentRead Answer
error_read k s entries = lent_read answer_as (read_stderr_with_error k s (length entries / 2)) (error_entries k s) [] entries []

abbrev pub error_read_bytes : (kind : ℕ) → (s entries : List ℕ) → LentRead Answer
error_read_bytes k s entries = lent_read answer_as (read_stderr_with_error k s (length entries / 16)) (bytes_of (error_entries k s)) [] entries []
