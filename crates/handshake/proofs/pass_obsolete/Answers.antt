-- `handshake::pass_obsolete` meets its contract: one part after the other.
use borrow.Author.Rules.{rules}
use Rattle.handshake.proofs.Turns.{affinity_refused, space_none, space_passed}
use Rattle.handshake.proofs.pass_obsolete.Goals as goal

pub returns-in_err-next : goal.returns-in_err-next
returns-in_err-next c = search (rules, affinity_refused)

pub returns-then-v-lt-RESERVES_SPACE : goal.returns-then-v-lt-RESERVES_SPACE
returns-then-v-lt-RESERVES_SPACE c slots k x = space_none _ _ _ slots k x _ c.in_ok-next.ensures c.if-v-lt-RESERVES_SPACE.true

pub returns : goal.returns
returns c slots k x =
    space_passed _ _ _ slots k x _ c.in_ok-next.ensures c.if-v-lt-RESERVES_SPACE.false c.pass_number.result c.pass_number.ensures
