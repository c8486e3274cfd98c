-- `versions::ProtocolVersion::new` meets its contract.
use mathlib.Core.Path.{refl}
use Rattle.versions.proofs.ProtocolVersion.new.Goals as goal

pub returns : goal.returns
returns c = refl
