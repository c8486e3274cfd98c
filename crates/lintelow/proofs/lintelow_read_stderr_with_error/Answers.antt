-- `lintelow::lintelow_read_stderr_with_error` meets its contract: a short block is refused, else the answer of the call is put.
use Rattle.walk_judge.specs.Judged.{answer_as}
use Rattle.lintelow_answers.proofs.Guard.{called_short, called_long}
use Rattle.lintelow.proofs.lintelow_read_stderr_with_error.Goals as goal

pub returns-then-block-lt-BLOCK : goal.returns-then-block-lt-BLOCK
returns-then-block-lt-BLOCK c = let all = called_short answer_as _ _ _ _ c.if-block-lt-BLOCK.true in record { number = all.0; block = all.1.0; entries = all.1.1 }

pub returns : goal.returns
returns c =
    let m = c.mode.ensures in
    let told = c.read_stderr_with_error_bytes-told.ensures in
    let all = called_long answer_as _ _ _ _ c.if-block-lt-BLOCK.false _ (rw m at told.answer) _ _ (c.put.ensures.number, c.put.ensures.block) _ (rw m at told.entries) in record { number = all.0; block = all.1.0; entries = all.1.1 }
