-- Each contract, as Rattle reads it off the source, determines its answer: two that meet it are equal.
use mathlib.Core.Path.{◌≡◌, sym, ap, ◌∙◌}
use mathlib.Core.List.{List}
use contract.Lifetimes.{Lfts}
use borrow.Fn.Kinds.{ParamKind, ResultKind, Out, Dens, res_t, ended_of}
use denote.Triple.Clauses.{AtExit}
use Rattle.layouts.specs.Primitive.{Version}
use Rattle.versions.specs.declared.ProtocolVersion.{ProtocolVersion}
use Rattle.versions.specs.Handshake.{version_of}
use Rattle.versions.proofs.ProtocolVersion.new.Reads as new
use Rattle.versions.proofs.ProtocolVersion.new.Kinds as new-kinds
use Rattle.versions.proofs.ProtocolVersion.from_wire.Reads as from_wire_lem
use Rattle.versions.proofs.ProtocolVersion.from_wire.Kinds as from-wire-kinds
use Rattle.versions.proofs.ProtocolVersion.to_wire.Reads as to-wire
use Rattle.versions.proofs.ProtocolVersion.to_wire.Kinds as to-wire-kinds
use Rattle.versions.proofs.ProtocolVersion.at_least.Reads as at_least_lem
use Rattle.versions.proofs.ProtocolVersion.at_least.Kinds as at-least-kinds
use Rattle.versions.proofs.ProtocolVersion.has_features.Reads as has-features
use Rattle.versions.proofs.ProtocolVersion.has_features.Kinds as has-features-kinds
use Rattle.versions.proofs.ProtocolVersion.has_cpu_affinity.Reads as has-cpu-affinity
use Rattle.versions.proofs.ProtocolVersion.has_cpu_affinity.Kinds as has-cpu-affinity-kinds
use Rattle.versions.proofs.ProtocolVersion.has_reserve_space.Reads as has-reserve-space
use Rattle.versions.proofs.ProtocolVersion.has_reserve_space.Kinds as has-reserve-space-kinds
use Rattle.versions.proofs.ProtocolVersion.has_post_handshake_flush.Reads as has-post-handshake-flush
use Rattle.versions.proofs.ProtocolVersion.has_post_handshake_flush.Kinds as has-post-handshake-flush-kinds

-- two answers to the same arguments; no function here has a reference, so that no lifetime and no exit matters
abbrev pub Determined : (ps : List (ParamKind 0)) (k : ResultKind 0) → Out 0 ps k → Type 0
Determined ps k Post =
    (κs : Lfts 0) (a : Dens κs ps) (r r' : (res_t k κs).Denot) (x x' : AtExit (ended_of 0 ps k) κs) → Post κs a r x → Post κs a r' x' → r ≡ r'

-- a version is told by what it means
abbrev version_by : Version → ProtocolVersion
version_by v = record { major = v.major; minor = v.minor }

version_unique : (r r' : ProtocolVersion) → version_of r ≡ version_of r' → r ≡ r'
version_unique r r' e = ap version_by e

pub new_determined : Determined new-kinds.ps new-kinds.r new.Post
new_determined κs a r r' x x' p q = version_unique r r' (p ∙ sym q)

pub from_wire_determined : Determined from-wire-kinds.ps from-wire-kinds.r from_wire_lem.Post
from_wire_determined κs a r r' x x' p q = version_unique r r' (p ∙ sym q)

pub to_wire_determined : Determined to-wire-kinds.ps to-wire-kinds.r to-wire.Post
to_wire_determined κs a r r' x x' p q = p ∙ sym q

pub at_least_determined : Determined at-least-kinds.ps at-least-kinds.r at_least_lem.Post
at_least_determined κs a r r' x x' p q = p ∙ sym q

pub has_features_determined : Determined has-features-kinds.ps has-features-kinds.r has-features.Post
has_features_determined κs a r r' x x' p q = p ∙ sym q

pub has_cpu_affinity_determined : Determined has-cpu-affinity-kinds.ps has-cpu-affinity-kinds.r has-cpu-affinity.Post
has_cpu_affinity_determined κs a r r' x x' p q = p ∙ sym q

pub has_reserve_space_determined : Determined has-reserve-space-kinds.ps has-reserve-space-kinds.r has-reserve-space.Post
has_reserve_space_determined κs a r r' x x' p q = p ∙ sym q

pub has_post_handshake_flush_determined : Determined has-post-handshake-flush-kinds.ps has-post-handshake-flush-kinds.r has-post-handshake-flush.Post
has_post_handshake_flush_determined κs a r r' x x' p q = p ∙ sym q
