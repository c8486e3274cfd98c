-- What a skipper says, as a whole answer.
use Rattle.std.specs.Prelude.{ℕ, List, ◌∷◌, false, get_or, replicate, eqb}
use Rattle.layouts.specs.declared.Record.{Record}
use Rattle.layouts.specs.Primitive.{pick, Result, ok, refused}
use Rattle.layouts.specs.Record.{blank}
use Rattle.layouts.specs.Pieces.{run}
use Rattle.layouts.specs.Judge.{entries_of}
use Rattle.layouts.specs.Calls.{Context, skipped_tree, Answer, skip_op_args}
use Rattle.walk_judge.specs.declared.Answer as C
use Rattle.walk_judge.specs.Judged.{answer_as}

-- number 0 is the count, numbers 1 and 2 are start and length of the one string, which is reported where the kind is 2
abbrev pub string_record : (kind count start len : ℕ) → Record
string_record kind count start len =
    record { numbers = count ∷ start ∷ len ∷ replicate 9 0; counts = replicate 3 0; present = false; entries = pick (eqb kind 2) 1 0; payload = 0 }

abbrev pub string_skipped : Result Answer → (entries : List ℕ) → Result Answer
string_skipped (ok x) es =
    ok (record { kind = x.kind; ends = x.ends; ends2 = 0; found = string_record x.kind (get_or x.found.numbers 0 0) (get_or es 0 0) (get_or es 1 0) })
string_skipped (refused which place stream) es = refused which place stream

-- arguments that are skipped: no room is lent, and the one string stands in the answer
abbrev pub arguments_skipped : Context → List ℕ → C.Answer
arguments_skipped c s = answer_as (string_skipped (skip_op_args c s) (entries_of (run (skipped_tree c) s 0)))

abbrev pub result_skipped : Result ℕ → Result Answer
result_skipped (ok e) = ok (record { kind = 0; ends = e; ends2 = 0; found = blank })
result_skipped (refused which place stream) = refused which place stream
