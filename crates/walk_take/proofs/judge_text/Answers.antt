-- `walk_take::judge_text` meets its contract: by what was found, and what is made of it.
use mathlib.Core.Path.{refl, ap}
use Rattle.std.proofs.lemmas.Result.{err_from_is_err_and}
use Rattle.std.specs.Prelude.{Ok}
use Rattle.pieces.proofs.Nodes.{half_within, whole_found}
use Rattle.walk_take.proofs.Strings.{of_bad, of_half, of_refused, of_whole, whole_took}
use Rattle.walk_take.proofs.judge_text.Goals as goal

pub half_string-requires : goal.half_string-requires
half_string-requires c = half_within c.args.s.now _ _ c.in_ok-start.ensures _ _ (ap Ok c.in-Half.is)

pub take_text-requires : goal.take_text-requires
take_text-requires c = (whole_found c.args.s.now _ _ c.in_ok-start.ensures _ _ _ (ap Ok c.in-Whole.is)).2

pub returns-in_err-start-clause-law : goal.returns-in_err-start-clause-law
returns-in_err-start-clause-law c =
    let p = err_from_is_err_and c.from_residual.result c.from_residual.ensures.1 in
    rw (p.1, p.2) (of_bad _ _ _ _ _ _ _ c.in_err-start.ensures _ refl)

pub returns-in-Half : goal.returns-in-Half
returns-in-Half c = record { law = of_half _ _ _ _ _ _ _ c.in_ok-start.ensures _ _ _ (ap Ok c.in-Half.is) c.half_string.ensures; on = tt }

pub returns-in_err-entries-in-Whole-clause-law : goal.returns-in_err-entries-in-Whole-clause-law
returns-in_err-entries-in-Whole-clause-law c =
    let p = err_from_is_err_and c.from_residual-in_err-entries-in-Whole.result c.from_residual-in_err-entries-in-Whole.ensures.1 in
    rw (p.1, p.2) (of_refused _ _ _ _ _ _ _ c.in_ok-start.ensures _ _ _ (ap Ok c.in-Whole.is) _ _ c.in_err-entries-in-Whole.ensures.window c.in_err-entries-in-Whole.ensures.law _ refl)

pub returns-in_ok-entries-in-Whole : goal.returns-in_ok-entries-in-Whole
returns-in_ok-entries-in-Whole c =
    record { law = of_whole _ _ _ _ _ _ _ c.in_ok-start.ensures _ _ _ (ap Ok c.in-Whole.is) _ _ c.in_ok-entries-in-Whole.ensures.window c.in_ok-entries-in-Whole.ensures.law _ refl; on = whole_took c.args.s.now _ _ c.in_ok-start.ensures _ _ _ (ap Ok c.in-Whole.is) }
