-- Versions by the tests that the code makes, and there and back again by the wire.
use Prim.Native.Nat.{ℕ, ◌+◌, ◌*◌, ◌/◌, ◌%◌, ◌<◌}
use mathlib.Core.Path.{◌≡◌}
use native.Mathlib.Omega.{arith}
use borrow.Author.Tests.{eq-eqb, ne_eqb}
use lib.Dec.{leb, ltb}
use Rattle.layouts.specs.Primitive.{Version, version, from_wire, at_least}
use Rattle.versions.specs.declared.ProtocolVersion.{ProtocolVersion}
use Rattle.versions.specs.Handshake.{version_of}

module _ (v w : Version) where
  pub same_major : v.major ≡ w.major → at_least v w ≡ leb w.minor v.minor
  unfolding at_least
  same_major e = simp (eq-eqb v.major w.major e)

  pub other_major : (v.major ≡ w.major → ⊥) → at_least v w ≡ ltb w.major v.major
  unfolding at_least
  other_major e = simp (ne_eqb v.major w.major e)

pub from_wire_lem : (wire major minor : ℕ) → major ≡ wire / 256 % 256 → minor ≡ wire % 256 → version major minor ≡ from_wire wire
from_wire_lem wire major minor e f = rw (e, f)

-- what `to_wire` gives is read back; a minor is below 256 by its type, and a major above 255 has no place on the wire
pub wire_back : (v : ProtocolVersion) → v.major < 256 → v.minor < 256 → from_wire (256 * v.major + v.minor) ≡ version_of v
wire_back v h g =
    let m : (256 * v.major + v.minor) / 256 % 256 ≡ v.major = omega arith in
    let n : (256 * v.major + v.minor) % 256 ≡ v.minor = omega arith in
    rw (m, n)
