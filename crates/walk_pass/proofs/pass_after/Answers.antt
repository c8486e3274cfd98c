-- `walk_pass::pass_after` meets its contract: by the kind of the field and its number.
use native.Mathlib.Omega.{arith}
use Rattle.walk_pass.proofs.Passing.{took_past, set_after, pairs_after, true_after, type_after, typed_after, false_after, zero_after, position_after, nothing_after}
use Rattle.walk_pass.proofs.pass_after.Goals as goal

pub returns-then-kind-eq-SET : goal.returns-then-kind-eq-SET
returns-then-kind-eq-SET c = record { law = set_after c.args.s.now _ _ _ c.pass.result c.if-kind-eq-SET.true c.pass.ensures.law; on = c.pass.ensures.on }

pub returns-then-kind-eq-PAIRS : goal.returns-then-kind-eq-PAIRS
returns-then-kind-eq-PAIRS c = record { law = pairs_after c.args.s.now _ _ _ c.pass-then-kind-eq-PAIRS.result c.if-kind-eq-PAIRS.true c.pass-then-kind-eq-PAIRS.ensures.law; on = c.pass-then-kind-eq-PAIRS.ensures.on }

pub returns-then-n-eq0 : goal.returns-then-n-eq0
returns-then-n-eq0 c = record { law = false_after c.args.s.now _ _ _ c.if-kind-eq-MAYBE.true c.if-n-eq0.true; on = omega arith }

pub returns-then-kind-eq-MAYBE : goal.returns-then-kind-eq-MAYBE
returns-then-kind-eq-MAYBE c =
    record { law = true_after c.args.s.now _ _ _ c.pass_number.result c.if-kind-eq-MAYBE.true c.if-n-eq0.false c.pass_number.ensures.law; on = took_past c.args.s.now _ c.pass_number.result c.pass_number.ensures.on }

pub returns-then-n-eq0-2 : goal.returns-then-n-eq0-2
returns-then-n-eq0-2 c =
    record { law = type_after c.args.s.now _ _ _ c.pass_number-then-n-eq0-2.result c.if-kind-eq-TYPED.true c.if-n-eq0-2.true c.pass_number-then-n-eq0-2.ensures.law; on = took_past c.args.s.now _ c.pass_number-then-n-eq0-2.result c.pass_number-then-n-eq0-2.ensures.on }

pub returns-then-kind-eq-TYPED : goal.returns-then-kind-eq-TYPED
returns-then-kind-eq-TYPED c =
    record { law = typed_after c.args.s.now _ _ _ c.pass_text.result c.if-kind-eq-TYPED.true c.if-n-eq0-2.false c.pass_text.ensures.law; on = took_past c.args.s.now _ c.pass_text.result c.pass_text.ensures.on }

pub returns-then-n-eq0-3 : goal.returns-then-n-eq0-3
returns-then-n-eq0-3 c = record { law = zero_after c.args.s.now _ _ _ c.if-kind-eq-POSITION.true c.if-n-eq0-3.true; on = omega arith }

pub overflow_sub-at : goal.overflow_sub-at
overflow_sub-at c = omega (arith, c.requires)

pub returns-then-kind-eq-POSITION : goal.returns-then-kind-eq-POSITION
returns-then-kind-eq-POSITION c =
    record { law = position_after c.args.s.now _ _ _ c.if-kind-eq-POSITION.true c.if-n-eq0-3.false c.refuse.result c.refuse.ensures; on = tt }

pub returns : goal.returns
returns c =
    record { law = nothing_after c.args.s.now _ _ _ c.if-kind-eq-SET.false c.if-kind-eq-PAIRS.false c.if-kind-eq-MAYBE.false c.if-kind-eq-TYPED.false c.if-kind-eq-POSITION.false; on = omega arith }
