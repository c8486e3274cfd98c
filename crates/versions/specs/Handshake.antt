-- A protocol version of the code is a version of the definitions.
use Rattle.layouts.specs.Primitive.{Version, version}
use Rattle.versions.specs.declared.ProtocolVersion.{ProtocolVersion}

abbrev pub version_of : ProtocolVersion → Version
version_of v = version v.major v.minor
