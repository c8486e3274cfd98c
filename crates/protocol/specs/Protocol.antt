-- What `layouts` says, as the code answers it.
use Rattle.std.specs.Prelude.{ℕ, ◌/◌, List, length, get_or}
use Rattle.layouts.specs.Primitive.{Version, Result, ok, refused}
use Rattle.layouts.specs.Refusal.{refusal}
use Rattle.layouts.specs.Pieces.{run}
use Rattle.layouts.specs.Judge.{entries_of, payload_of}
use Rattle.layouts.specs.Calls.{Context, Answer, arguments_tree, reply_tree, read_op_args, read_daemon_result}
use Rattle.walk_judge.specs.declared.Answer as C
use Rattle.walk_judge.specs.Judged.{answer_as}
use Rattle.walk_rooms.specs.Rooms.{LentRead, lent_read}
use Rattle.protocol.specs.declared.Arguments.{Arguments}
use Rattle.std.specs.Prelude.{Ok, Err}

-- ---- a read: the answer, and the two lent slices afterwards. Two numbers make a slot
abbrev pub arguments_read : Context → (s entries payload : List ℕ) → LentRead C.Answer
arguments_read c s entries payload =
    lent_read answer_as (read_op_args c s (length entries / 2) (length payload))
    (entries_of (run (arguments_tree c) s 0)) (payload_of s (run (arguments_tree c) s 0)) entries payload

abbrev pub reply_read : (op : ℕ) → Version → (s entries payload : List ℕ) → LentRead C.Answer
reply_read op v s entries payload =
    lent_read answer_as (read_daemon_result op v s (length entries / 2) (length payload))
    (entries_of (run (reply_tree op v) s 0)) (payload_of s (run (reply_tree op v) s 0)) entries payload

-- skipped arguments: the count is number 0, the one string the entry that was kept
abbrev pub arguments_as : Result Answer → (entries : List ℕ) → Arguments
arguments_as (ok x) es =
    record { outcome = (Ok tt); kind = x.kind; ends = x.ends; count = get_or x.found.numbers 0 0; start = get_or es 0 0; len = get_or es 1 0 }
arguments_as (refused which place stream) es = record { outcome = Err (refusal which place stream); kind = 0; ends = 0; count = 0; start = 0; len = 0 }
