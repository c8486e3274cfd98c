-- `versions::ProtocolVersion::has_features` meets its contract.
use Rattle.versions.proofs.ProtocolVersion.has_features.Goals as goal

pub returns : goal.returns
returns c = c.since.ensures
