-- `walk_take::text_to` meets its contract: by the role; the text is that of the contents.
use native.Mathlib.Omega.{arith}
use Rattle.pieces.proofs.Strings.{text_inside}
use Rattle.walk_take.proofs.Pieces.{any_text, text_judged}
use Rattle.walk_take.proofs.text_to.Goals as goal

pub returns-then-role-eq-PASSED : goal.returns-then-role-eq-PASSED
returns-then-role-eq-PASSED c = any_text _ _ _ _ c.if-role-eq-PASSED.true

pub overflow_add-result : goal.overflow_add-result
overflow_add-result c =
    let z = text_inside c.args.s.now c.args.start c.args.len _ c.text_end.ensures in
    omega arith

pub returns : goal.returns
returns c =
    text_judged _ _ _ _ c.text_end.result c.if-role-eq-PASSED.false c.requires c.text_end.ensures
