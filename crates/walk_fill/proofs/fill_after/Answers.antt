-- `walk_fill::fill_after` meets its contract: by the kind of the field and its number.
use Rattle.walk_fill.proofs.Folding.{set_after, pairs_after, typed_after, type_after, true_after, false_after, zero_after, position_after, nothing_after}
use Rattle.walk_fill.proofs.fill_after.Goals as goal

pub returns-then-kind-eq-SET-clause-law : goal.returns-then-kind-eq-SET-clause-law
returns-then-kind-eq-SET-clause-law g c = set_after _ _ _ _ _ _ _ _ _ c.fill_series.result c.if-kind-eq-SET.true c.fill_series.ensures.law

pub returns-then-kind-eq-PAIRS-clause-law : goal.returns-then-kind-eq-PAIRS-clause-law
returns-then-kind-eq-PAIRS-clause-law g c =
    pairs_after _ _ _ _ _ _ _ _ _ c.fill_series-then-kind-eq-PAIRS.result c.if-kind-eq-PAIRS.true c.fill_series-then-kind-eq-PAIRS.ensures.law

pub returns-then-n-eq0-clause-law : goal.returns-then-n-eq0-clause-law
returns-then-n-eq0-clause-law g c = search false_after

pub returns-then-kind-eq-MAYBE-clause-law : goal.returns-then-kind-eq-MAYBE-clause-law
returns-then-kind-eq-MAYBE-clause-law g c = true_after _ _ _ _ _ _ _ _ _ c.past_number.ensures.law c.if-kind-eq-MAYBE.true c.if-n-eq0.false

pub returns-then-n-eq0-2-clause-law : goal.returns-then-n-eq0-2-clause-law
returns-then-n-eq0-2-clause-law g c = type_after _ _ _ _ _ _ _ _ _ c.past_number-then-n-eq0-2.ensures.law c.if-kind-eq-TYPED.true c.if-n-eq0-2.true

pub returns-then-kind-eq-TYPED-clause-law : goal.returns-then-kind-eq-TYPED-clause-law
returns-then-kind-eq-TYPED-clause-law g c =
    typed_after _ _ _ _ _ _ _ _ _ c.fill_series-then-kind-eq-TYPED.result c.if-kind-eq-TYPED.true c.if-n-eq0-2.false c.fill_series-then-kind-eq-TYPED.ensures.law

pub returns-then-n-eq0-3-clause-law : goal.returns-then-n-eq0-3-clause-law
returns-then-n-eq0-3-clause-law g c = search zero_after

pub returns-then-kind-eq-POSITION-clause-law : goal.returns-then-kind-eq-POSITION-clause-law
returns-then-kind-eq-POSITION-clause-law g c = search position_after

pub returns-clause-law : goal.returns-clause-law
returns-clause-law g c = search nothing_after
