-- `handshake::pass_affinity` meets its contract: shut, or by the number.
use borrow.Author.Rules.{rules}
use Rattle.handshake.proofs.Turns.{affinity_none, affinity_cut, affinity_unset, affinity_set}
use Rattle.handshake.proofs.pass_affinity.Goals as goal

pub returns-then-v-lt-HAS_AFFINITY : goal.returns-then-v-lt-HAS_AFFINITY
returns-then-v-lt-HAS_AFFINITY c slots k x = affinity_none _ _ _ slots k x c.if-v-lt-HAS_AFFINITY.true

pub returns-in_err-x : goal.returns-in_err-x
returns-in_err-x c = search (rules, affinity_cut)

pub returns-then-x-eq0 : goal.returns-then-x-eq0
returns-then-x-eq0 c slots k x = affinity_unset _ _ _ slots k x c.if-v-lt-HAS_AFFINITY.false _ c.in_ok-x.ensures.whole c.if-x-eq0.true

pub returns : goal.returns
returns c slots k x =
    affinity_set _ _ _ slots k x c.if-v-lt-HAS_AFFINITY.false _ c.in_ok-x.ensures.whole c.if-x-eq0.false c.pass_number.result c.pass_number.ensures
