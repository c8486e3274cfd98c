-- `pieces::string_at` meets its contract: one law for each way through it.
use mathlib.Core.Path.{ap}
use Rattle.std.proofs.lemmas.Result.{err_from_is_err_and}
use Rattle.std.specs.Prelude.{Ok}
use native.Mathlib.Omega.{arith}
use Rattle.pieces.proofs.Found.{text_known, text_told_lem}
use Rattle.pieces.proofs.Strings.{whole_fine, whole_bad, half_fine, half_bad, not_there}
use Rattle.pieces.proofs.string_at.Goals as goal

pub text_to-to-requires : goal.text_to-to-requires
text_to-to-requires c =
    let k = text_known _ _ _ _ (text_told_lem c.args.s.now _ _ c.in_ok-start.ensures _ (ap Ok c.in-Whole.is)) in
    omega arith

pub overflow_add-start : goal.overflow_add-start
overflow_add-start c =
    let k = text_known _ _ _ _ (text_told_lem c.args.s.now _ _ c.in_ok-start.ensures _ (ap Ok c.in-Whole.is)) in
    omega arith

pub returns-then-to-start : goal.returns-then-to-start
returns-then-to-start c = search (whole_bad, c.in_ok-start.ensures)

pub text_to-to-requires-in-Half : goal.text_to-to-requires-in-Half
text_to-to-requires-in-Half c =
    let k = text_known _ _ _ _ (text_told_lem c.args.s.now _ _ c.in_ok-start.ensures _ (ap Ok c.in-Half.is)) in
    omega arith

pub overflow_add-start-in-Half : goal.overflow_add-start-in-Half
overflow_add-start-in-Half c =
    let k = text_known _ _ _ _ (text_told_lem c.args.s.now _ _ c.in_ok-start.ensures _ (ap Ok c.in-Half.is)) in
    omega arith

pub returns-then-to-start-2 : goal.returns-then-to-start-2
returns-then-to-start-2 c = search (half_bad, c.in_ok-start.ensures)

pub returns-else-to-start : goal.returns-else-to-start
returns-else-to-start c = search (whole_fine, c.in_ok-start.ensures)

pub returns-else-to-start-2 : goal.returns-else-to-start-2
returns-else-to-start-2 c = search (half_fine, c.in_ok-start.ensures)

pub returns-in_err-start : goal.returns-in_err-start
returns-in_err-start c =
    let p = err_from_is_err_and c.from_residual.result c.from_residual.ensures.1 in
    rw (p.1, p.2) (not_there _ _ _ _ c.in_err-start.ensures)
