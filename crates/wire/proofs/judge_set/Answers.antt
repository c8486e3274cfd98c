-- `wire::judge_set` meets its contract: the count, then the strings.
use mathlib.Core.Path.{refl}
use Rattle.std.proofs.lemmas.Result.{err_from_is_err_and}
use Rattle.wire.proofs.Sets.{set_cut, set_refused, set_read_lem}
use Rattle.wire.proofs.judge_set.Goals as goal

pub returns-in_err-value : goal.returns-in_err-value
returns-in_err-value c =
    let p = err_from_is_err_and c.from_residual.result c.from_residual.ensures.1 in
    rw (p.1, p.2) (set_cut _ _ _ c.in_err-value.ensures.cut _)

pub returns-in_err-t : goal.returns-in_err-t
returns-in_err-t c =
    let p = err_from_is_err_and c.from_residual-in_err-t.result c.from_residual-in_err-t.ensures.1 in
    rw (p.1, p.2) (set_refused _ _ _ c.in_ok-value.ensures.whole _ _ _ _ c.in_err-t.ensures.law _ refl)

pub returns : goal.returns
returns c = set_read_lem _ _ _ c.in_ok-value.ensures.whole _ _ _ _ c.in_ok-t.ensures.law _ _ refl
