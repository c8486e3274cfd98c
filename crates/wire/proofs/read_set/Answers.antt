-- `wire::read_set` meets its contract: what is judged fine is filled in.
use Rattle.wire.proofs.Sets.{set_room}
use Rattle.wire.proofs.read_set.Goals as goal

pub returns-clause-entries : goal.returns-clause-entries
returns-clause-entries g c =
    set_room g.T.Room.laid _ _ _ _ _ c.slots.ensures.slots _ c.judge_set.ensures _ _ c.in_ok-k.was _ (c.layout-layout.ensures.version, c.layout-layout.ensures.first) _ _
    c.fill_entries.ensures
