-- `handshake::judge_daemon_handshake` meets its contract: the hello, then the magic, then the rest.
use borrow.Author.Rules.{rules}
use Rattle.handshake.proofs.Sides.{hello_refused, magic_alone, greeted_alone}
use Rattle.handshake.proofs.Order.{given_in}
use Rattle.handshake.proofs.judge_daemon_handshake.Goals as goal

pub returns-in-Err : goal.returns-in-Err
returns-in-Err c q = hello_refused _ _ _ _ _ _ _ _ _ _ c.in-Err.ensures c.stop.ensures

pub returns-then-b-ne-WORKER_MAGIC_2 : goal.returns-then-b-ne-WORKER_MAGIC_2
returns-then-b-ne-WORKER_MAGIC_2 c q =
    magic_alone _ _ _ _ _ _ _ _ _ _ c.in-Ok.ensures c.if-b-ne-WORKER_MAGIC_2.true _ c.refuse.ensures c.stop-then-b-ne-WORKER_MAGIC_2.ensures

pub returns : goal.returns
returns c q =
    greeted_alone _ _ _ _ _ _ _ _ _ _ c.in-Ok.ensures c.if-b-ne-WORKER_MAGIC_2.false _
    (given_in c.args.major c.args.minor (search rules)) (λ m2 w2 fd. c.greet_alone.ensures m2 w2 fd q)
