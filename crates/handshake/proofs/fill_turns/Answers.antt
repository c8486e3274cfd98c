-- `handshake::fill_turns` meets its contract: one turn after the other.
use Rattle.handshake.proofs.Filled.{three_turns}
use Rattle.handshake.proofs.fill_turns.Goals as goal

pub returns : goal.returns
returns g c = three_turns g.T.Room.laid g.met.T.Room.joined _ _ _ _ _ _ _ _ _ _ c.fill_entries-n.ensures c.fill_entries-m.ensures c.fill_entries.ensures
