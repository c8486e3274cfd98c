-- A read: the answer, and two lent slices of bytes afterwards. Sixteen make a slot.
use Rattle.std.specs.Prelude.{ℕ, ◌/◌, List, length}
use Rattle.layouts.specs.Primitive.{Version}
use Rattle.layouts.specs.Pieces.{run}
use Rattle.layouts.specs.Judge.{entries_of, payload_of}
use Rattle.layouts.specs.Calls.{Context, arguments_tree, reply_tree, read_op_args, read_daemon_result}
use Rattle.writers_output.specs.Numbers.{bytes_of}
use Rattle.walk_judge.specs.declared.Answer as C
use Rattle.walk_judge.specs.Judged.{answer_as}
use Rattle.walk_rooms.specs.Rooms.{LentRead, lent_read}

abbrev pub arguments_read : Context → (s entries payload : List ℕ) → LentRead C.Answer
arguments_read c s entries payload =
    lent_read answer_as (read_op_args c s (length entries / 16) (length payload))
    (bytes_of (entries_of (run (arguments_tree c) s 0))) (payload_of s (run (arguments_tree c) s 0)) entries payload

abbrev pub reply_read : (op : ℕ) → Version → (s entries payload : List ℕ) → LentRead C.Answer
reply_read op v s entries payload =
    lent_read answer_as (read_daemon_result op v s (length entries / 16) (length payload))
    (bytes_of (entries_of (run (reply_tree op v) s 0))) (payload_of s (run (reply_tree op v) s 0)) entries payload
