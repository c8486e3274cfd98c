-- Both handshakes: turns on two streams, each a layout from where the last turn on that stream ended. The client's stream is `false`, the daemon's `true`.
use Rattle.std.specs.Prelude.{ℕ, ◌-◌, List, [], ◌∷◌, ◌++◌, Bool, true, false, get_or, eqb}
use Rattle.layouts.specs.declared.Record.{Record}
use Rattle.layouts.specs.Primitive.{pick, Version, version, from_wire, at_least, smaller, client_magic_wrong, daemon_magic_wrong, not_last, Result, ok, refused, onward}
use Rattle.layouts.specs.Shape.{maybe, always, Gated, once, Tree, layout}
use Rattle.layouts.specs.Pieces.{Pieces, run, skip_of}
use Rattle.layouts.specs.Record.{blank, record_of}
use Rattle.layouts.specs.Judge.{judge_of, entries_of}
use Rattle.layouts.specs.Operations.{N, n, S, S*, since}
use Rattle.layouts.specs.Calls.{Answer}
use Rattle.layouts.specs.Stderr.{Last}

-- what follows a turn knows the record so far and the turn's end
pub data Talk : Type 0 where
  turn : (daemons : Bool) → Tree → (Record → ℕ → Talk) → Talk
  lost : (which place stream : ℕ) → Talk
  over : Talk

-- the pieces of each turn, in order, up to the end of both streams or a refusal
pub data Heard : Type 0 where
  heard : (daemons : Bool) → Pieces → Heard → Heard
  failed : (which place stream : ℕ) → Heard
  ended : (client daemon : ℕ) → Heard

abbrev pub client : Bool
client = false

abbrev pub daemon : Bool
daemon = true

abbrev pub stream_of : Bool → ℕ
stream_of false = 0
stream_of true = 1

-- after a turn that did not end nothing more is heard
abbrev pub if_ends : Bool → Result ℕ → (ℕ → Heard) → Heard
if_ends d (ok e) k = k e
if_ends d (refused which place stream) k = failed which place (stream_of d)

-- from the places a and b of the client's stream s and the daemon's u, with the record r so far
unfoldable pub hear : Talk → (s u : List ℕ) → (a b : ℕ) → Record → Heard
hear (turn false t k) s u a b r =
    heard false (run t s a) (if_ends false (skip_of (run t s a)) (λ e. hear (k (record_of r (run t s a)) e) s u e b (record_of r (run t s a))))
hear (turn true t k) s u a b r =
    heard true (run t u b) (if_ends true (skip_of (run t u b)) (λ e. hear (k (record_of r (run t u b)) e) s u a e (record_of r (run t u b))))
hear (lost which place stream) s u a b r = failed which place stream
hear over s u a b r = ended a b

-- ---- reading
pub record Both : Type 0 where
  pub found : Record
  pub client_ends : ℕ
  pub daemon_ends : ℕ

-- a refusal says which stream
abbrev pub on_stream : {A : Type 0} → Bool → Result A → Result A
on_stream d (ok a) = ok a
on_stream d (refused which place stream) = refused which place (stream_of d)

unfoldable pub judge_heard : (s u : List ℕ) → (slots : ℕ) → Record → Heard → Result Both
judge_heard s u slots r (heard d p h) = onward (on_stream d (judge_of (pick d u s) slots 0 r p)) (λ e. judge_heard s u slots e.found h)
judge_heard s u slots r (failed which place stream) = refused which place stream
judge_heard s u slots r (ended a b) = ok (record { found = r; client_ends = a; daemon_ends = b })

unfoldable pub heard_entries : Heard → List ℕ
heard_entries (heard d p h) = entries_of p ++ heard_entries h
heard_entries (failed which place stream) = []
heard_entries (ended a b) = []

-- ---- the two handshakes. While they are read the record's numbers are: magic and version of the client, magic and version of the daemon, trust, the last number
abbrev pub client_magic : ℕ
client_magic = 0x6e697863

abbrev pub daemon_magic : ℕ
daemon_magic = 0x6478696f

abbrev pub number_in : Record → ℕ → ℕ
number_in r i = get_or r.numbers i 0

abbrev pub fields_at : Version → List Gated → Tree
fields_at v is = layout v (once is ∷ [])

abbrev pub hello : (magic wire : ℕ) → Tree
hello magic wire = fields_at (version 0 0) (N magic ∷ N wire ∷ [])

-- the daemon's number at the end must be Last
abbrev pub lastly : Record → (e : ℕ) → Talk
lastly r e = pick (eqb (number_in r 5) Last) over (lost not_last (e - 8) 1)

-- From 1.38: client S*, then daemon S*
abbrev pub feature_fields : ℕ → List Gated
feature_fields i = since 38 (S* i ∷ [])

-- From 1.14: client N, and if nonzero another. From 1.11: client N
abbrev pub obsolete_fields : List Gated
obsolete_fields = since 14 (always maybe ∷ []) ++ since 11 (n ∷ [])

-- From 1.33: daemon S. From 1.35: daemon N. Then daemon N
abbrev pub info_fields : List Gated
info_fields = since 33 (S ∷ []) ++ since 35 (N 4 ∷ []) ++ (N 5 ∷ [])

unfoldable pub daemon_info : Version → Talk
daemon_info v = turn daemon (fields_at v info_fields) (λ r e. lastly r e)

unfoldable pub greeting : Version → Talk
greeting v =
    turn client (fields_at v (feature_fields 0)) (λ r e.
    turn daemon (fields_at v (feature_fields 1)) (λ r e.
    turn client (fields_at v obsolete_fields) (λ r e.
    daemon_info v)))

-- the magics are tested after all four numbers are read
unfoldable pub handshake : Talk
handshake =
    turn client (hello 0 1) (λ r e.
    turn daemon (hello 2 3) (λ r e.
    pick (eqb (number_in r 0) client_magic)
    (pick (eqb (number_in r 2) daemon_magic) (greeting (smaller (from_wire (number_in r 1)) (from_wire (number_in r 3)))) (lost daemon_magic_wrong 0 1))
    (lost client_magic_wrong 0 0)))

unfoldable pub daemon_greeting : Version → Talk
daemon_greeting v = turn daemon (fields_at v (feature_fields 1)) (λ r e. daemon_info v)

-- the daemon side alone, against a given client version
unfoldable pub daemon_handshake : Version → Talk
daemon_handshake c =
    turn daemon (hello 2 3) (λ r e.
    pick (eqb (number_in r 2) daemon_magic)
    (daemon_greeting (smaller c (from_wire (number_in r 3))))
    (lost daemon_magic_wrong 0 1))

-- ---- answers: the versions, whether the daemon's version string and trust are there, trust
abbrev pub versions : (c d : Version) → (trust : ℕ) → List ℕ
versions c d trust =
    c.major ∷ c.minor ∷ d.major ∷ d.minor ∷ (smaller c d).major ∷ (smaller c d).minor ∷
    pick (at_least (smaller c d) (version 1 33)) 1 0 ∷ pick (at_least (smaller c d) (version 1 35)) 1 0 ∷ trust ∷ 0 ∷ 0 ∷ 0 ∷ []

abbrev pub handshake_answer : Version → Both → Result Answer
handshake_answer c x =
    ok (record {
      kind = 0;
      ends = x.client_ends;
      ends2 = x.daemon_ends;
      found = record {
        numbers = versions c (from_wire (number_in x.found 3)) (number_in x.found 4);
        counts = x.found.counts;
        present = x.found.present;
        entries = x.found.entries;
        payload = x.found.payload;
      };
    })

unfoldable pub parse_handshake : (s u : List ℕ) → (slots : ℕ) → Result Answer
parse_handshake s u slots =
    onward (judge_heard s u slots blank (hear handshake s u 0 0 blank)) (λ x. handshake_answer (from_wire (number_in x.found 1)) x)

unfoldable pub parse_daemon_handshake : Version → (u : List ℕ) → (slots : ℕ) → Result Answer
parse_daemon_handshake c u slots = onward (judge_heard [] u slots blank (hear (daemon_handshake c) [] u 0 0 blank)) (λ x. handshake_answer c x)
