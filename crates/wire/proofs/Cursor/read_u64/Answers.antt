-- `wire::Cursor::read_u64` meets its contract.
use mathlib.Core.Path.{refl}
use Rattle.std.proofs.lemmas.Result.{err_from_is_err_and}
use Rattle.wire.proofs.Numbers.{number_read, number_cut}
use Rattle.wire.proofs.Cursor.read_u64.Goals as goal

pub returns-in_err-value : goal.returns-in_err-value
returns-in_err-value c =
    let p = err_from_is_err_and c.from_residual.result c.from_residual.ensures.1 in
    rw (p.1, p.2) (number_cut _ _ _ c.in_err-value.ensures.cut)

pub returns : goal.returns
returns c = number_read _ _ _ _ c.in_ok-value.ensures.whole refl
