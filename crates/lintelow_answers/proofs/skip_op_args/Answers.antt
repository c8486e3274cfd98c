-- `lintelow_answers::skip_op_args` meets its contract: the same answer, by its fields.
use Rattle.layouts.specs.Pieces.{run}
use Rattle.layouts.specs.Judge.{entries_of}
use Rattle.layouts.specs.Calls.{context, skipped_tree, skip_op_args}
use Rattle.lintelow_answers.proofs.Skips.{string_is}
use Rattle.lintelow_answers.proofs.skip_op_args.Goals as goal

pub returns : goal.returns
returns c =
    let k = context c.args.mode c.args.op c.args.major c.args.minor in
    string_is (skip_op_args k c.args.s.now) (entries_of (run (skipped_tree k) c.args.s.now 0)) _ _
    c.skip_op_args-a.ensures c.entries_of-entries.ensures
