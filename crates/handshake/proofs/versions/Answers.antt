-- `handshake::versions` meets its contract: one number after the other.
use Rattle.handshake.proofs.Order.{all_versions}
use mathlib.Core.Path.{◌∙◌}
use Rattle.handshake.proofs.Order.{min_as}
use Rattle.handshake.proofs.versions.Goals as goal

pub returns : goal.returns
returns c = all_versions _ _ _ _ _ _ (c.min-v.ensures ∙ min_as _ _) c.bit-has_version.ensures c.bit-has_trust.ensures
