-- `handshake::parse_daemon_handshake_bytes` meets its contract: what is judged fine fits.
use Rattle.layouts.specs.Primitive.{version}
use Rattle.walk_rooms.proofs.Laws.{bytes_after}
use Rattle.handshake.proofs.Filled.{alone_fits}
use Rattle.handshake.proofs.parse_daemon_handshake_bytes.Goals as goal

pub returns-clause-entries : goal.returns-clause-entries
returns-clause-entries c = bytes_after _ _ (alone_fits (version c.args.major c.args.minor) c.args.daemon.now) _ _ c.read_alone.ensures.entries
