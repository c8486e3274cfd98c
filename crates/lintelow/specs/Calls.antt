-- A call at the boundary as a whole: the number that it returns, and what the block and other lent memory hold afterwards.
use Rattle.std.specs.Prelude.{ℕ, ◌/◌, List, [], length}
use Rattle.layouts.specs.Primitive.{Version, version, Result}
use Rattle.layouts.specs.Pieces.{run}
use Rattle.layouts.specs.Record.{blank}
use Rattle.layouts.specs.Judge.{entries_of, payload_of, lent_after}
use Rattle.layouts.specs.Calls as L
use Rattle.layouts.specs.Calls.{Context, context, arguments_tree, reply_tree, read_op_args, read_daemon_result, read_string_set, read_framed}
use Rattle.layouts.specs.Stderr.{stderr_loop, error_kind, read_stderr_with_error, error_pieces}
use Rattle.layouts.specs.Handshake.{hear, heard_entries, handshake, daemon_handshake, parse_handshake, parse_daemon_handshake}
use Rattle.layouts.specs.Writers.{texts_of, write_string_set, output_of}
use Rattle.writers_output.specs.Numbers.{bytes_of}
use Rattle.layouts.specs.CallWriter.{call_bytes, write_op_args}
use Rattle.entries.specs.Entries.{numbers_from, entries_in}
use Rattle.writers_calls.specs.Calls.{bytes_or}
use Rattle.walk_judge.specs.declared.Answer.{Answer}
use Rattle.walk_judge.specs.Judged.{answer_as}
use Rattle.wire.specs.Answers.{set_entries, framed_payload}
use Rattle.lintelow_answers.specs.Answers.{mode_of, ended, written}
use Rattle.lintelow_answers.specs.Block.{guarded, number_of, block_after}

-- a call that is lent one room beside the block: judged as o, of which f makes the answer, it reports new
pub record Called : Type 0 where
  pub number : ℕ
  pub block : List ℕ
  pub room : List ℕ

abbrev pub called : {A : Type 0} → (block : List ℕ) → (Result A → Answer) → Result A → (new room : List ℕ) → Called
called block f o new room = record { number = number_of block (f o); block = block_after block (f o); room = lent_after (guarded block o) new room }

-- a call that is lent room for entries and for payload
pub record ReadCalled : Type 0 where
  pub number : ℕ
  pub block : List ℕ
  pub entries : List ℕ
  pub payload : List ℕ

abbrev pub read_called : (block : List ℕ) → Result L.Answer → (es ps : List ℕ) → (entries payload : List ℕ) → ReadCalled
read_called block o es ps entries payload =
    record {
      number = number_of block (answer_as o);
      block = block_after block (answer_as o);
      entries = lent_after (guarded block o) es entries;
      payload = lent_after (guarded block o) ps payload;
    }

-- what chooses the layout of arguments, by numbers as they cross
abbrev pub asked : (mode op major minor : ℕ) → Context
asked mode op major minor = context (mode_of mode) op major minor

-- which error block, by the same
abbrev pub error_asked : (mode major minor : ℕ) → ℕ
error_asked mode major minor = error_kind (mode_of mode) (version major minor)

-- ---- the calls. Sixteen bytes make a slot
abbrev pub arguments_called : Context → (s entries payload block : List ℕ) → ReadCalled
arguments_called c s entries payload block =
    read_called block (read_op_args c s (length entries / 16) (length payload))
    (bytes_of (entries_of (run (arguments_tree c) s 0))) (payload_of s (run (arguments_tree c) s 0)) entries payload

abbrev pub reply_called : (op : ℕ) → Version → (s entries payload block : List ℕ) → ReadCalled
reply_called op v s entries payload block =
    read_called block (read_daemon_result op v s (length entries / 16) (length payload))
    (bytes_of (entries_of (run (reply_tree op v) s 0))) (payload_of s (run (reply_tree op v) s 0)) entries payload

abbrev pub error_called : (kind : ℕ) → (s entries block : List ℕ) → Called
error_called k s entries block = called block answer_as (read_stderr_with_error k s (length entries / 16)) (bytes_of (entries_of (error_pieces k s (stderr_loop s)))) entries

abbrev pub handshake_called : (client daemon entries block : List ℕ) → Called
handshake_called client daemon entries block =
    called block answer_as (parse_handshake client daemon (length entries / 16)) (bytes_of (heard_entries (hear handshake client daemon 0 0 blank))) entries

abbrev pub daemon_called : Version → (daemon entries block : List ℕ) → Called
daemon_called v daemon entries block =
    called block answer_as (parse_daemon_handshake v daemon (length entries / 16)) (bytes_of (heard_entries (hear (daemon_handshake v) [] daemon 0 0 blank))) entries

abbrev pub set_called : List ℕ → (at : ℕ) → (entries block : List ℕ) → Called
set_called s at entries block = called block (λ o. answer_as (ended o)) (read_string_set s at (length entries / 16)) (bytes_of (set_entries s at)) entries

abbrev pub framed_called : List ℕ → (at : ℕ) → (payload block : List ℕ) → Called
framed_called s at payload block = called block (λ o. answer_as (ended o)) (read_framed s at (length payload)) (framed_payload s at) payload

abbrev pub set_written : (bytes entries : List ℕ) → (count : ℕ) → (out block : List ℕ) → Called
set_written bytes entries count out block =
    called block (λ o. answer_as (written o)) (write_string_set bytes (entries_in entries) count out) (output_of (texts_of bytes (entries_in entries) count)) out

-- the fifteen numbers of a record as they stand in a block; bytes that it lacks are 0
abbrev pub call_written : Context → (numbers bytes entries payload out block : List ℕ) → Called
call_written c numbers bytes entries payload out block =
    called block (λ o. answer_as (written o)) (write_op_args c (numbers_from 15 0 numbers) bytes (entries_in entries) payload out)
    (bytes_or (call_bytes c (numbers_from 15 0 numbers) bytes (entries_in entries) payload)) out
