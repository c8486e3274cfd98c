-- `stderr::read_stderr_loop` meets its contract: the loop, as an answer.
use Rattle.stderr.proofs.Block.{loop_refused, loop_stops}
use Rattle.stderr.proofs.read_stderr_loop.Goals as goal

pub returns-in-Err : goal.returns-in-Err
returns-in-Err c =
    loop_refused c.args.s.now c.stderr_loop.result c.stderr_loop.ensures _ c.in-Err.is _ c.refused_answer.ensures

pub returns-in-Ok : goal.returns-in-Ok
returns-in-Ok c =
    loop_stops c.args.s.now c.stderr_loop.result c.stderr_loop.ensures _ _ _ c.in-Ok.is _ c.stopped_record.ensures _
    c.answer.ensures
