-- `handshake::judge_trust` meets its contract: a number, where the version has one.
use borrow.Author.Rules.{rules}
use Rattle.handshake.proofs.Turns.{trust_none, trust_cut, trust_said}
use Rattle.handshake.proofs.judge_trust.Goals as goal

pub returns-then-v-lt-SAYS_TRUST : goal.returns-then-v-lt-SAYS_TRUST
returns-then-v-lt-SAYS_TRUST c = trust_none _ _ _ c.if-v-lt-SAYS_TRUST.true

pub returns-in_err-trust : goal.returns-in_err-trust
returns-in_err-trust c = search (rules, trust_cut)

pub returns : goal.returns
returns c = trust_said _ _ _ c.if-v-lt-SAYS_TRUST.false _ c.in_ok-trust.ensures.whole
