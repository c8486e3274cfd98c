-- `wire::Cursor::skip_string` meets its contract.
use Rattle.std.proofs.lemmas.Result.{err_from_is_err_and}
use Rattle.wire.proofs.Strings.{skip_past, skip_refused}
use Rattle.wire.proofs.Cursor.skip_string.Goals as goal

pub returns-in_err-k : goal.returns-in_err-k
returns-in_err-k c =
    let p = err_from_is_err_and c.from_residual.result c.from_residual.ensures.1 in
    rw (p.1, p.2) (skip_refused _ _ _ c.string_at.ensures _ c.in_err-k.was)

pub returns : goal.returns
returns c = skip_past _ _ _ c.string_at.ensures _ _ _ c.in_ok-k.was
