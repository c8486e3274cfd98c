-- `protocol::skip_text` meets its contract: as the string is judged, whose text is not looked at.
use Rattle.std.proofs.lemmas.Result.{err_from_is_err_and}
use Rattle.protocol.proofs.Rows.{text_passed_lem}
use Rattle.protocol.proofs.skip_text.Goals as goal

pub returns-in_err-c : goal.returns-in_err-c
returns-in_err-c c =
    let p = err_from_is_err_and c.from_residual.result c.from_residual.ensures.1 in
    rw (p.1, p.2) (text_passed_lem _ _ c.string_at.ensures _ c.in_err-c.was)

pub returns : goal.returns
returns c = text_passed_lem _ _ c.string_at.ensures _ c.in_ok-c.was
