-- `handshake::judge_features` meets its contract: none, or a number and as many strings.
use borrow.Author.Rules.{rules}
use Rattle.handshake.proofs.Turns.{features_none, features_idle, features_cut, features_refused, features_past, features_keep}
use Rattle.handshake.proofs.judge_features.Goals as goal

pub returns-then-v-lt-HAS_FEATURES : goal.returns-then-v-lt-HAS_FEATURES
returns-then-v-lt-HAS_FEATURES c = (λ i x z u. features_none _ _ _ _ _ i c.if-v-lt-HAS_FEATURES.true x z u, λ i. search features_idle)

pub returns-in_err-count : goal.returns-in_err-count
returns-in_err-count c = search (rules, features_cut)

pub returns-in_err-k : goal.returns-in_err-k
returns-in_err-k c = search (rules, features_refused)

pub returns : goal.returns
returns c = (
  λ i x z u. features_past _ _ _ _ _ i c.if-v-lt-HAS_FEATURES.false _ c.in_ok-count.ensures.whole _ _ _ c.in_ok-k.ensures.law x z,
  λ i. features_keep _ _ _ _ _ i c.if-v-lt-HAS_FEATURES.false _ c.in_ok-count.ensures.whole _ _ _ c.in_ok-k.ensures.law,
)
