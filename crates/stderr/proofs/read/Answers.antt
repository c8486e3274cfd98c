-- `stderr::read` meets its contract: the loop; behind Error the block.
use mathlib.Core.Path.{◌∙◌, sym}
use Rattle.stderr.proofs.Block.{error_refused, error_block_lem, no_error}
use Rattle.stderr.proofs.read.Goals as goal

pub returns-then-k-number : goal.returns-then-k-number
returns-then-k-number g c =
    let all = error_block_lem c.args.s.now c.stderr_loop.result c.stderr_loop.ensures _ _ _ c.in-Ok.is _ c.stopped_record-r.ensures _ _ g.T.Room.laid _ _ _
    (c.if-k-number.true ∙ c.number.ensures) c.read_error_block.ensures.answer c.read_error_block.ensures.entries in record { answer = all.0; entries = all.1 }

pub returns-in-Err : goal.returns-in-Err
returns-in-Err g c =
    let all = error_refused c.args.s.now c.stderr_loop.result c.stderr_loop.ensures _ c.in-Err.is _ _ g.T.Room.laid _ _ c.refused_answer.ensures in record { answer = all.0; entries = all.1 }

pub returns-else-k-number : goal.returns-else-k-number
returns-else-k-number g c =
    let all = no_error c.args.s.now c.stderr_loop.result c.stderr_loop.ensures _ _ _ c.in-Ok.is _ c.stopped_record-r.ensures _ _
    (λ z. c.if-k-number.false (z ∙ sym c.number.ensures)) g.T.Room.laid g.met.T.Room.nothing _ _ c.answer.ensures in record { answer = all.0; entries = all.1 }
