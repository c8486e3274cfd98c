-- `walk_pass::pass_item` meets its contract: nothing, a field, or a flag or count.
use mathlib.Core.Path.{refl}
use Rattle.std.proofs.lemmas.Result.{err_from_is_err_and}
use Rattle.walk_pass.proofs.Moving.{quiet_moves, field_refused, field_moves, times_cut, times_moves}
use Rattle.walk_pass.proofs.pass_item.Goals as goal

pub returns-then-kind-eq-QUIET : goal.returns-then-kind-eq-QUIET
returns-then-kind-eq-QUIET c = let all = quiet_moves _ _ _ c.if-kind-eq-QUIET.true in record { law = all.0; on = all.1 }

pub returns-in_err-next-clause-law : goal.returns-in_err-next-clause-law
returns-in_err-next-clause-law c =
    let p = err_from_is_err_and c.from_residual.result c.from_residual.ensures.1 in
    rw (p.1, p.2) ((field_refused _ _ _ c.if-kind-lt-QUIET.true _ c.in_err-next.ensures.law _ refl).0)

pub returns-then-kind-lt-QUIET : goal.returns-then-kind-lt-QUIET
returns-then-kind-lt-QUIET c = let all = field_moves _ _ _ c.if-kind-lt-QUIET.true _ c.in_ok-next.ensures.law _ refl c.in_ok-next.ensures.on in record { law = all.0; on = all.1 }

pub returns-in_err-n-clause-law : goal.returns-in_err-n-clause-law
returns-in_err-n-clause-law c =
    let p = err_from_is_err_and c.from_residual-in_err-n.result c.from_residual-in_err-n.ensures.1 in
    rw (p.1, p.2) ((times_cut _ _ _ c.if-kind-lt-QUIET.false c.if-kind-eq-QUIET.false _ c.in_err-n.ensures.cut).0)

pub returns : goal.returns
returns c = let all = times_moves _ _ _ c.if-kind-lt-QUIET.false c.if-kind-eq-QUIET.false _ c.in_ok-n.ensures.whole _ c.times.ensures in record { law = all.0; on = all.1 }
