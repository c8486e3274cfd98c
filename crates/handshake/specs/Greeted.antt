-- The entries of the turns that keep strings, from the places where these turns begin; answer and room of a call.
use Rattle.std.specs.Prelude.{ℕ, List, [], ◌++◌}
use Rattle.layouts.specs.Primitive.{Version, from_wire}
use Rattle.layouts.specs.Record.{blank}
use Rattle.layouts.specs.Judge.{entries_of}
use Rattle.layouts.specs.Handshake.{Talk, Both, hear, heard_entries, handshake, daemon_handshake, parse_handshake, parse_daemon_handshake}
use Rattle.walk_judge.specs.declared.Answer.{Answer}
use Rattle.walk_judge.specs.Judged.{answer_as}
use Rattle.walk_fill.specs.There.{pieces_there}
use Rattle.walk_rooms.specs.Rooms.{RoomFilled, room_filled, LentRead, lent_read}
use Rattle.handshake.specs.declared.Greeted.{Greeted}
use Rattle.handshake.specs.Turns.{Greets}

-- the client's features, the daemon's, its version string
abbrev pub kept_by : Greeted → (s u : List ℕ) → List ℕ
kept_by g s u =
    entries_of (pieces_there g.offers s 16) ++ (entries_of (pieces_there g.features u 16) ++ entries_of (pieces_there g.info u g.info_at))

-- ---- what is left of both sides; and of the daemon's alone, where no stream of the client is read
abbrev pub GreetsBoth : Talk → Both → (s u : List ℕ) → (slots : ℕ) → (w : List ℕ) → Greeted → (ns cs w' : List ℕ) → Type 0
GreetsBoth t x s u slots w g ns cs w' = Greets s u slots from_wire t x w g.said ns cs (kept_by g s u) w'

abbrev pub GreetsAlone : Version → Talk → Both → (u : List ℕ) → (slots : ℕ) → (w : List ℕ) → Greeted → (ns cs w' : List ℕ) → Type 0
GreetsAlone c t x u slots w g ns cs w' = (q : List ℕ) → Greets [] u slots (λ n. c) t x w g.said ns cs (kept_by g q u) w'

-- the strings that a handshake keeps, of both sides and of the daemon's alone
abbrev pub both_entries : (s u : List ℕ) → List ℕ
both_entries s u = heard_entries (hear handshake s u 0 0 blank)

abbrev pub alone_entries : Version → (u : List ℕ) → List ℕ
alone_entries c u = heard_entries (hear (daemon_handshake c) [] u 0 0 blank)

-- ---- answer and room of a call, where n entries have room, and stand in a form
abbrev pub both_filled : {A : Type 0} → (s u : List ℕ) → (n : ℕ) → (form : List ℕ → List A) → (lent : List A) → RoomFilled Answer A
both_filled s u n form lent = room_filled answer_as (parse_handshake s u n) (form (both_entries s u)) [] lent []

abbrev pub alone_filled : {A : Type 0} → Version → (u : List ℕ) → (n : ℕ) → (form : List ℕ → List A) → (lent : List A) → RoomFilled Answer A
alone_filled c u n form lent = room_filled answer_as (parse_daemon_handshake c u n) (form (alone_entries c u)) [] lent []

-- with n slots in the lent room, where an entry is told by these numbers or bytes
abbrev pub both_read : (s u : List ℕ) → (n : ℕ) → (told : List ℕ → List ℕ) → (lent : List ℕ) → LentRead Answer
both_read s u n told lent = lent_read answer_as (parse_handshake s u n) (told (both_entries s u)) [] lent []

abbrev pub alone_read : Version → (u : List ℕ) → (n : ℕ) → (told : List ℕ → List ℕ) → (lent : List ℕ) → LentRead Answer
alone_read c u n told lent = lent_read answer_as (parse_daemon_handshake c u n) (told (alone_entries c u)) [] lent []
