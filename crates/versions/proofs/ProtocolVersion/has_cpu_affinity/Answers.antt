-- `versions::ProtocolVersion::has_cpu_affinity` meets its contract.
use Rattle.versions.proofs.ProtocolVersion.has_cpu_affinity.Goals as goal

pub returns : goal.returns
returns c = c.since.ensures
