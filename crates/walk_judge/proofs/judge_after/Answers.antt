-- `walk_judge::judge_after` meets its contract: by the kind of the field and its number.
use native.Mathlib.Omega.{arith}
use Rattle.walk_judge.proofs.Feeding.{took_from, set_after, pairs_after, true_after, type_after, typed_after, false_after, zero_after, position_after, nothing_after}
use Rattle.walk_judge.proofs.judge_after.Goals as goal

pub returns-then-kind-eq-SET : goal.returns-then-kind-eq-SET
returns-then-kind-eq-SET c = record { law = search set_after; on = c.judge_series.ensures.on }

pub returns-then-kind-eq-PAIRS : goal.returns-then-kind-eq-PAIRS
returns-then-kind-eq-PAIRS c = record { law = search pairs_after; on = c.judge_series-then-kind-eq-PAIRS.ensures.on }

pub returns-then-x-eq0 : goal.returns-then-x-eq0
returns-then-x-eq0 c = record { law = search false_after; on = omega arith }

pub returns-then-kind-eq-MAYBE : goal.returns-then-kind-eq-MAYBE
returns-then-kind-eq-MAYBE c =
    record { law = true_after _ _ _ _ _ _ _ _ _ _ c.if-kind-eq-MAYBE.true c.if-x-eq0.false (c.drop_number.ensures.law _ _); on = took_from _ _ c.drop_number.result c.drop_number.ensures.on }

pub returns-then-x-eq0-2 : goal.returns-then-x-eq0-2
returns-then-x-eq0-2 c =
    record { law = type_after _ _ _ _ _ _ _ _ _ _ c.if-kind-eq-TYPED.true c.if-x-eq0-2.true (c.drop_number-then-x-eq0-2.ensures.law _ _); on = took_from _ _ c.drop_number-then-x-eq0-2.result c.drop_number-then-x-eq0-2.ensures.on }

pub returns-then-kind-eq-TYPED : goal.returns-then-kind-eq-TYPED
returns-then-kind-eq-TYPED c = record { law = search typed_after; on = took_from _ _ c.judge_text.result c.judge_text.ensures.on }

pub returns-then-x-eq0-3 : goal.returns-then-x-eq0-3
returns-then-x-eq0-3 c = record { law = zero_after _ _ _ _ _ _ _ _ c.if-kind-eq-POSITION.true c.if-x-eq0-3.true; on = omega arith }

pub overflow_sub-at : goal.overflow_sub-at
overflow_sub-at c = omega (arith, c.requires)

pub returns-then-kind-eq-POSITION : goal.returns-then-kind-eq-POSITION
returns-then-kind-eq-POSITION c = record { law = position_after _ _ _ _ _ _ _ _ c.if-kind-eq-POSITION.true c.if-x-eq0-3.false _ c.refuse.ensures; on = tt }

pub returns : goal.returns
returns c = record { law = search nothing_after; on = omega arith }
