-- `handshake::parse_handshake` meets its contract: what is judged fine fits.
use Rattle.walk_rooms.proofs.Laws.{words_after}
use Rattle.handshake.proofs.Filled.{both_fits}
use Rattle.handshake.proofs.parse_handshake.Goals as goal

pub returns-clause-entries : goal.returns-clause-entries
returns-clause-entries c = words_after _ _ (both_fits c.args.client.now c.args.daemon.now) _ _ c.read-said.ensures.entries
