-- `versions::ProtocolVersion::has_reserve_space` meets its contract.
use Rattle.versions.proofs.ProtocolVersion.has_reserve_space.Goals as goal

pub returns : goal.returns
returns c = c.since.ensures
