-- `handshake::judge_handshake` meets its contract: the hellos, then the magics, then the rest.
use Rattle.handshake.proofs.Sides.{client_refused, daemon_refused, client_magic_lem, daemon_magic_lem, both_greeted}
use Rattle.handshake.proofs.judge_handshake.Goals as goal

pub returns-in-Err : goal.returns-in-Err
returns-in-Err c = client_refused _ _ _ _ _ _ _ _ _ _ c.in-Err.ensures c.stop.ensures

pub returns-in-Err-judge_hello : goal.returns-in-Err-judge_hello
returns-in-Err-judge_hello c = daemon_refused _ _ _ _ _ _ _ _ _ _ c.in-Ok.ensures _ c.in-Err-judge_hello.ensures c.stop-in-Err-judge_hello.ensures

pub returns-then-a-ne-WORKER_MAGIC_1 : goal.returns-then-a-ne-WORKER_MAGIC_1
returns-then-a-ne-WORKER_MAGIC_1 c =
    client_magic_lem _ _ _ _ _ _ _ _ _ _ c.in-Ok.ensures _ c.in-Ok-judge_hello.ensures c.if-a-ne-WORKER_MAGIC_1.true _ c.refuse.ensures c.stop-then-a-ne-WORKER_MAGIC_1.ensures

pub returns-then-b-ne-WORKER_MAGIC_2 : goal.returns-then-b-ne-WORKER_MAGIC_2
returns-then-b-ne-WORKER_MAGIC_2 c =
    daemon_magic_lem _ _ _ _ _ _ _ _ _ _ c.in-Ok.ensures _ c.in-Ok-judge_hello.ensures c.if-a-ne-WORKER_MAGIC_1.false c.if-b-ne-WORKER_MAGIC_2.true
    _ c.refuse-then-b-ne-WORKER_MAGIC_2.ensures c.stop-then-b-ne-WORKER_MAGIC_2.ensures

pub returns : goal.returns
returns c = both_greeted _ _ _ _ _ _ _ _ _ _ c.in-Ok.ensures _ c.in-Ok-judge_hello.ensures c.if-a-ne-WORKER_MAGIC_1.false c.if-b-ne-WORKER_MAGIC_2.false c.greet.ensures
