-- `wire::Cursor::skip_string_set` meets its contract.
use mathlib.Core.Path.{refl}
use Rattle.std.proofs.lemmas.Result.{err_from_is_err_and}
use Rattle.wire.proofs.Sets.{skip_set_cut, skip_set_past, skip_set_refused}
use Rattle.wire.proofs.Cursor.skip_string_set.Goals as goal

pub returns-in_err-value : goal.returns-in_err-value
returns-in_err-value c =
    let p = err_from_is_err_and c.from_residual.result c.from_residual.ensures.1 in
    rw (p.1, p.2) (skip_set_cut _ _ _ c.in_err-value.ensures.cut)

pub returns-in_err-next : goal.returns-in_err-next
returns-in_err-next c =
    let p = err_from_is_err_and c.from_residual-in_err-next.result c.from_residual-in_err-next.ensures.1 in
    rw (p.1, p.2) (skip_set_refused _ _ _ c.in_ok-value.ensures.whole _ c.in_err-next.ensures.law _ refl)

pub returns : goal.returns
returns c = skip_set_past _ _ _ c.in_ok-value.ensures.whole _ c.in_ok-next.ensures.law _ refl
