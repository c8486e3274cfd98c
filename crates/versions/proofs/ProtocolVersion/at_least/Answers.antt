-- `versions::ProtocolVersion::at_least` meets its contract.
use mathlib.Core.Path.{sym}
use Rattle.versions.proofs.Versions.{same_major, other_major}
use Rattle.versions.proofs.ProtocolVersion.at_least.Goals as goal

pub returns-then-self-other : goal.returns-then-self-other
returns-then-self-other c = sym (same_major _ _ c.if-self-other.true)

pub returns : goal.returns
returns c = sym (other_major _ _ c.if-self-other.false)
