-- `walk_pass::pass_text` meets its contract: by what was found.
use mathlib.Core.Path.{refl, ap}
use Rattle.std.proofs.lemmas.Result.{err_from_is_err_and}
use Rattle.std.specs.Prelude.{Ok}
use native.Mathlib.Omega.{arith}
use Rattle.pieces.proofs.Nodes.{half_within}
use Rattle.walk_strings.proofs.Series.{text_passed, half_passed, text_passes}
use Rattle.walk_pass.proofs.Passing.{whole_took}
use Rattle.walk_pass.proofs.pass_text.Goals as goal

pub overflow_add-start : goal.overflow_add-start
overflow_add-start c =
    omega (arith, half_within c.args.s.now _ _ c.in_ok-start.ensures _ _ (ap Ok c.in-Half.is))

pub returns-in_err-start-clause-law : goal.returns-in_err-start-clause-law
returns-in_err-start-clause-law c =
    let p = err_from_is_err_and c.from_residual.result c.from_residual.ensures.1 in
    rw (p.1, p.2) (text_passes c.args.s.now _ _ c.in_err-start.ensures _ refl)

pub returns-in-Half : goal.returns-in-Half
returns-in-Half c =
    record { law = text_passes c.args.s.now _ _ c.in_ok-start.ensures _ (half_passed _ _ _ (ap Ok c.in-Half.is) _ c.refuse.ensures); on = tt }

pub returns-in-Whole : goal.returns-in-Whole
returns-in-Whole c =
    record { law = text_passes c.args.s.now _ _ c.in_ok-start.ensures _ (ap text_passed (ap Ok c.in-Whole.is)); on = whole_took c.args.s.now _ _ c.in_ok-start.ensures _ _ _ (ap Ok c.in-Whole.is) }
