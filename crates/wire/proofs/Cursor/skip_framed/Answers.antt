-- `wire::Cursor::skip_framed` meets its contract: the total is the number.
use Rattle.wire.proofs.Frames.{framed_skip}
use Rattle.wire.proofs.Cursor.skip_framed.Goals as goal

pub returns : goal.returns
returns c = framed_skip _ _ c.judge_framed.result c.judge_framed.ensures
