-- `versions::ProtocolVersion::has_post_handshake_flush` meets its contract.
use Rattle.versions.proofs.ProtocolVersion.has_post_handshake_flush.Goals as goal

pub returns : goal.returns
returns c = c.since.ensures
