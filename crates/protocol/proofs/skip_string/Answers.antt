-- `protocol::skip_string` meets its contract: the string is the one entry.
use Rattle.protocol.proofs.Rows.{text_refused, text_fine}
use Rattle.protocol.proofs.skip_string.Goals as goal

pub returns-in-Err : goal.returns-in-Err
returns-in-Err c v k e = text_refused _ _ c.string_at.ensures v k _ _ c.in-Err.is c.refused_arguments.ensures

pub returns-in-Ok : goal.returns-in-Ok
returns-in-Ok c v k e = text_fine _ _ c.string_at.ensures v k _ _ _ _ c.in-Ok.is e
