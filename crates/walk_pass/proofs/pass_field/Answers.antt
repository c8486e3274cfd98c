-- `walk_pass::pass_field` meets its contract: by the kind of the field.
use Rattle.std.proofs.lemmas.Result.{err_from_is_err_and}
use Rattle.walk_pass.proofs.Passing.{value_took, text_field, frames_field, cut_field, number_field}
use Rattle.walk_pass.proofs.pass_field.Goals as goal

pub returns-then-kind-eq-STR : goal.returns-then-kind-eq-STR
returns-then-kind-eq-STR c = record { law = text_field _ _ _ c.pass_text.result c.if-kind-eq-STR.true c.pass_text.ensures.law; on = c.pass_text.ensures.on }

pub returns-then-kind-eq-FRAMES : goal.returns-then-kind-eq-FRAMES
returns-then-kind-eq-FRAMES c = record { law = frames_field _ _ _ c.pass_frames.result c.if-kind-eq-FRAMES.true c.pass_frames.ensures.law; on = c.pass_frames.ensures.on }

pub returns-in_err-n-clause-law : goal.returns-in_err-n-clause-law
returns-in_err-n-clause-law c =
    let p = err_from_is_err_and c.from_residual.result c.from_residual.ensures.1 in
    rw (p.1, p.2) (cut_field _ _ _ c.if-kind-eq-STR.false c.if-kind-eq-FRAMES.false _ c.in_err-n.ensures.cut)

pub returns : goal.returns
returns c =
    record { law = number_field _ _ _ c.if-kind-eq-STR.false c.if-kind-eq-FRAMES.false _ c.in_ok-n.ensures.whole c.pass_after.result c.pass_after.ensures.law; on = value_took _ _ _ c.in_ok-n.ensures.whole c.pass_after.result c.pass_after.ensures.on }
