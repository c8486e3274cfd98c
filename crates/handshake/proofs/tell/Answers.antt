-- `handshake::tell` meets its contract: a refusal as it is; else by the last number.
use Rattle.handshake.proofs.Turns.{told_refused, told_fine_lem, told_other}
use Rattle.handshake.proofs.tell.Goals as goal

pub returns-then-k-eq-STDERR_LAST : goal.returns-then-k-eq-STDERR_LAST
returns-then-k-eq-STDERR_LAST c =
    told_fine_lem _ _ _ _ _ c.args.i _ c.in-Ok.is c.if-k-eq-STDERR_LAST.true _ c.versions.ensures

pub returns-in-Err : goal.returns-in-Err
returns-in-Err c = told_refused _ _ _ _ _ c.args.i _ c.in-Err.is _ c.refuse_on.ensures

pub returns-else-k-eq-STDERR_LAST : goal.returns-else-k-eq-STDERR_LAST
returns-else-k-eq-STDERR_LAST c = search told_other
