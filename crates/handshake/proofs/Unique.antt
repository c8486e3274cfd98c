-- Each public contract has one answer: two answers that meet it, with the lent entries at exit, are equal. `Post` is what Rattle reads off the source.
use mathlib.Core.Path.{◌≡◌, sym, ◌∙◌}
use contract.Lifetimes.{Lfts}
use borrow.Fn.Kinds.{Dens, ended_of}
use denote.Triple.Clauses.{AtExit}
use Rattle.walk_judge.specs.declared.Answer.{Answer}
use Rattle.walk_judge.proofs.Unique.{said_told}
use Rattle.handshake.proofs.parse_handshake.Reads as parse-handshake
use Rattle.handshake.proofs.parse_handshake.Kinds as parse-handshake-kinds
use Rattle.handshake.proofs.parse_daemon_handshake.Reads as parse-daemon-handshake
use Rattle.handshake.proofs.parse_daemon_handshake.Kinds as parse-daemon-handshake-kinds
use Rattle.handshake.proofs.parse_handshake_bytes.Reads as parse-handshake-bytes
use Rattle.handshake.proofs.parse_handshake_bytes.Kinds as parse-handshake-bytes-kinds
use Rattle.handshake.proofs.parse_daemon_handshake_bytes.Reads as parse-daemon-handshake-bytes
use Rattle.handshake.proofs.parse_daemon_handshake_bytes.Kinds as parse-daemon-handshake-bytes-kinds
use Rattle.walk_judge.specs.declared.Said.{Said}
use Rattle.layouts.specs.declared.Refusal.{Refusal}
use Rattle.std.specs.Prelude.{Result}

pub parse_handshake_unique : (κs : Lfts 3) (a : Dens κs parse-handshake-kinds.ps) (r r' : Answer)
    (x x' : AtExit (ended_of 3 parse-handshake-kinds.ps parse-handshake-kinds.r) κs)
    → parse-handshake.Post κs a r x → parse-handshake.Post κs a r' x' → (r ≡ r') × (x.1.1.0.now ≡ x'.1.1.0.now)
parse_handshake_unique κs a r r' x x' p q = (p.0 ∙ sym q.0, p.1 ∙ sym q.1)

pub parse_daemon_handshake_unique : (κs : Lfts 2) (a : Dens κs parse-daemon-handshake-kinds.ps) (r r' : Answer)
    (x x' : AtExit (ended_of 2 parse-daemon-handshake-kinds.ps parse-daemon-handshake-kinds.r) κs)
    → parse-daemon-handshake.Post κs a r x → parse-daemon-handshake.Post κs a r' x' → (r ≡ r') × (x.1.1.1.0.now ≡ x'.1.1.1.0.now)
parse_daemon_handshake_unique κs a r r' x x' p q = (p.0 ∙ sym q.0, p.1 ∙ sym q.1)

pub parse_handshake_bytes_unique : (κs : Lfts 5) (a : Dens κs parse-handshake-bytes-kinds.ps) (r r' : Result Said Refusal)
    (x x' : AtExit (ended_of 5 parse-handshake-bytes-kinds.ps parse-handshake-bytes-kinds.r) κs)
    → parse-handshake-bytes.Post κs a r x → parse-handshake-bytes.Post κs a r' x'
    → ((r ≡ r') × (x.1.1.1.0.now ≡ x'.1.1.1.0.now) × (x.1.1.1.1.0.now ≡ x'.1.1.1.1.0.now)) × (x.1.1.0.now ≡ x'.1.1.0.now)
parse_handshake_bytes_unique κs a r r' x x' p q = (
  said_told r r' x.1.1.1.0.now x.1.1.1.1.0.now x'.1.1.1.0.now x'.1.1.1.1.0.now (p.0 ∙ sym q.0),
  p.1 ∙ sym q.1,
)

pub parse_daemon_handshake_bytes_unique : (κs : Lfts 4) (a : Dens κs parse-daemon-handshake-bytes-kinds.ps) (r r' : Result Said Refusal)
    (x x' : AtExit (ended_of 4 parse-daemon-handshake-bytes-kinds.ps parse-daemon-handshake-bytes-kinds.r) κs)
    → parse-daemon-handshake-bytes.Post κs a r x → parse-daemon-handshake-bytes.Post κs a r' x'
    → ((r ≡ r') × (x.1.1.1.1.0.now ≡ x'.1.1.1.1.0.now) × (x.1.1.1.1.1.0.now ≡ x'.1.1.1.1.1.0.now))
    × (x.1.1.1.0.now ≡ x'.1.1.1.0.now)
parse_daemon_handshake_bytes_unique κs a r r' x x' p q = (
  said_told r r' x.1.1.1.1.0.now x.1.1.1.1.1.0.now x'.1.1.1.1.0.now x'.1.1.1.1.1.0.now (p.0 ∙ sym q.0),
  p.1 ∙ sym q.1,
)
