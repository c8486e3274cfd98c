-- `handshake::parse_handshake_bytes` meets its contract: what is judged fine fits.
use Rattle.walk_rooms.proofs.Laws.{bytes_after}
use Rattle.handshake.proofs.Filled.{both_fits}
use Rattle.handshake.proofs.parse_handshake_bytes.Goals as goal

pub returns-clause-entries : goal.returns-clause-entries
returns-clause-entries c = bytes_after _ _ (both_fits c.args.client.now c.args.daemon.now) _ _ c.read.ensures.entries
