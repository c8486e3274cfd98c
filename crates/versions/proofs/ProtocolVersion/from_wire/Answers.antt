-- `versions::ProtocolVersion::from_wire` meets its contract.
use native.Mathlib.Omega.{arith}
use Rattle.versions.proofs.Versions.{from_wire_lem}
use Rattle.versions.proofs.ProtocolVersion.from_wire.Goals as goal

pub returns : goal.returns
returns c = from_wire_lem c.args.wire _ _ (omega arith) (omega arith)
