-- `protocol::skip_layout` meets its contract: the one entry is the first of the window.
use Rattle.protocol.proofs.Rows.{skipped_refused, skipped_fine}
use Rattle.protocol.proofs.skip_layout.Goals as goal

pub returns-in-Err : goal.returns-in-Err
returns-in-Err c = skipped_refused _ _ _ _ _ _ c.judge-a.ensures.answer _ _ c.in-Err.is c.refused_arguments.ensures

pub returns-in-Ok : goal.returns-in-Ok
returns-in-Ok c =
    skipped_fine _ _ _ _ _ _ c.judge-a.ensures.answer _ _ _ _ _ _ c.in-Ok.is _ c.judge-a.ensures.window _ (rw (← c.spoken.ensures) c.kind_of.ensures)
