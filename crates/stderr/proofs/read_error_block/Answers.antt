-- `stderr::read_error_block` meets its contract: a refusal changes nothing; what is judged fine is filled.
use Rattle.stderr.proofs.Block.{block_refused, block_filled_lem}
use Rattle.stderr.proofs.read_error_block.Goals as goal

pub returns-in_default : goal.returns-in_default
returns-in_default g c =
    let judged = rw c.slots.ensures.slots at c.judge_record-a.ensures in
    let all = block_refused _ _ c.error_block.ensures _ _ _ _ (c.layout-block.ensures.version, c.layout-block.ensures.first) _ _ judged g.T.Room.laid _ _ c.in_default.is in
    record { answer = all.0; entries = all.1 }

pub returns : goal.returns
returns g c =
    let judged = rw c.slots.ensures.slots at c.judge_record-a.ensures in
    let all = block_filled_lem _ _ c.error_block.ensures _ _ _ _ (c.layout-block.ensures.version, c.layout-block.ensures.first) _ _ judged g.T.Room.laid _ c.in-Ok.is _ _ c.fill_entries.ensures in
    record { answer = rw c.number.ensures all.0; entries = all.1 }
