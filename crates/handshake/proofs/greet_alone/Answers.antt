-- `handshake::greet_alone` meets its contract: turn by turn.
use Rattle.handshake.proofs.Sides.{alone_refused, alone_told}
use mathlib.Core.Path.{◌∙◌}
use Rattle.handshake.proofs.Order.{min_as}
use Rattle.handshake.proofs.greet_alone.Goals as goal

pub returns-in-Err : goal.returns-in-Err
returns-in-Err c m2 w2 fd q = alone_refused _ _ _ _ _ (c.min-v.ensures ∙ min_as _ _) _ _ _ _ _ _ c.in-Err.ensures c.stop.ensures _ m2 w2 fd

pub returns : goal.returns
returns c m2 w2 fd q =
    alone_told _ _ _ _ _ (c.min-v.ensures ∙ min_as _ _) _ _ _ _ _ _ c.in-Ok.ensures _ c.judge_info-i.result (c.judge_info-i.ensures _ _ _ _ _ c.judge_version-t.ensures)
    c.tell-said.ensures _ _ _ (c.layout.ensures.version, c.layout.ensures.first) (c.layout-2.ensures.version, c.layout-2.ensures.first) (c.layout-3.ensures.version, c.layout-3.ensures.first) q m2 w2 fd
