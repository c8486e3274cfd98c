-- `handshake::parse_daemon_handshake` meets its contract: what is judged fine fits.
use Rattle.layouts.specs.Primitive.{version}
use Rattle.walk_rooms.proofs.Laws.{words_after}
use Rattle.handshake.proofs.Filled.{alone_fits}
use Rattle.handshake.proofs.parse_daemon_handshake.Goals as goal

pub returns-clause-entries : goal.returns-clause-entries
returns-clause-entries c = words_after _ _ (alone_fits (version c.args.major c.args.minor) c.args.daemon.now) _ _ c.read_alone-said.ensures.entries
