-- `versions::ProtocolVersion::since` meets its contract.
use mathlib.Core.Path.{ap, ◌∙◌}
use Rattle.layouts.specs.Primitive.{at_least}
use Rattle.versions.specs.Handshake.{version_of}
use Rattle.versions.proofs.ProtocolVersion.since.Goals as goal

pub returns : goal.returns
returns c = c.at_least.ensures ∙ ap (at_least (version_of c.args.self)) c.new.ensures
