-- `walk_take::drop_number` meets its contract: a number, or none.
use Rattle.std.proofs.lemmas.Result.{err_from_is_err_and}
use Rattle.walk_take.proofs.Numbers.{dropped_cut, dropped_value}
use Rattle.walk_take.proofs.drop_number.Goals as goal

pub returns-in_err-number_or_cut-clause-law : goal.returns-in_err-number_or_cut-clause-law
returns-in_err-number_or_cut-clause-law c =
    let p = err_from_is_err_and c.from_residual.result c.from_residual.ensures.1 in
    rw (p.1, p.2) (dropped_cut _ _ _ c.in_err-number_or_cut.ensures.cut _)

pub returns-clause-law : goal.returns-clause-law
returns-clause-law c = dropped_value _ _ _ c.in_ok-number_or_cut.ensures.whole _
