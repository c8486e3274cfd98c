-- `wire::Cursor::read_framed` meets its contract: what is judged fine is joined.
use Rattle.std.proofs.lemmas.Result.{err_from_is_err_and}
use Rattle.wire.proofs.Frames.{read_refused, read_joined}
use Rattle.wire.proofs.Cursor.read_framed.Goals as goal

pub returns-in_err-k : goal.returns-in_err-k
returns-in_err-k c =
    let all = read_refused _ _ _ _ c.judge_framed.ensures _ c.in_err-k.was in
    let p = err_from_is_err_and c.from_residual.result c.from_residual.ensures.1 in
    record { answer = rw (p.1, p.2) all.0; room = all.1 }

pub returns : goal.returns
returns c = let all = read_joined _ _ _ _ c.judge_framed.ensures _ _ c.in_ok-k.was _ (c.layout-layout.ensures.version, c.layout-layout.ensures.first) _ c.fill_payload.ensures in record { answer = all.0; room = all.1 }
