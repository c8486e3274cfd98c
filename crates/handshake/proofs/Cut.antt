-- W-212, of what both parsers return, on each stream when the other is whole: the streams are passed to their ends, and the same call is made with another one of them and the
-- same room. On a shorter beginning of its bytes up to the end the call refuses by 1 and names that stream, and lent memory stays. Where only what stands behind the end is
-- other, it answers the same and leaves the same in the room. Each theorem is about `Post`, the contract as Rattle reads it off the source.
use Prim.Native.Nat.{ℕ, ◌/◌}
use mathlib.Core.Path.{◌≡◌, ◌∙◌, ap}
use mathlib.Core.List.{List}
use lib.ListN.{length}
use contract.Lifetimes.{Lfts}
use borrow.Fn.Kinds.{Dens, ended_of}
use denote.Triple.Clauses.{AtExit}
use Rattle.layouts.specs.Primitive.{Version}
use Rattle.layouts.specs.Handshake.{heard_entries}
use Rattle.layouts.specs.Cut.{CutOrLonger, RefusedAsCut}
use Rattle.layouts.proofs.CutTalk.{handshake_client_whole, handshake_daemon_whole, daemon_handshake_whole}
use Rattle.walk_judge.specs.declared.Answer.{Answer}
use Rattle.walk_judge.proofs.Cut.{answered_room}
use Rattle.walk_rooms.specs.Rooms.{LentRead}
use Rattle.handshake.specs.Greeted.{both_read, alone_read}
use Rattle.handshake.proofs.Demands.{client_of, daemon_of, entries_at, entries_after, version_of, stream_of, room_at, room_after}
use Rattle.handshake.proofs.parse_handshake.Reads as parse-handshake
use Rattle.handshake.proofs.parse_handshake.Kinds as parse-handshake-kinds
use Rattle.handshake.proofs.parse_daemon_handshake.Reads as parse-daemon-handshake
use Rattle.handshake.proofs.parse_daemon_handshake.Kinds as parse-daemon-handshake-kinds
use Rattle.std.specs.Prelude.{Ok, Err}

-- ---- both sides
module _ (κs : Lfts 3) (a : Dens κs parse-handshake-kinds.ps) (r : Answer) (x : AtExit (ended_of 3 parse-handshake-kinds.ps parse-handshake-kinds.r) κs) (p : parse-handshake.Post κs a r x)
    (κs' : Lfts 3) (a' : Dens κs' parse-handshake-kinds.ps) (r' : Answer) (x' : AtExit (ended_of 3 parse-handshake-kinds.ps parse-handshake-kinds.r) κs')
    (q : parse-handshake.Post κs' a' r' x') (room : entries_at a' ≡ entries_at a) (fine : r.outcome ≡ Ok tt) where
  abbrev AsCut : (stream : ℕ) → Type 0
  AsCut stream = RefusedAsCut Err stream r'.outcome × (entries_after x' ≡ entries_at a')

  abbrev Same : Type 0
  Same = (r' ≡ r) × (entries_after x' ≡ entries_after x)

  abbrev read_both : (s u lent : List ℕ) → LentRead Answer
  read_both s u lent = both_read s u (length lent / 2) (λ es. es) lent

  -- the client's stream
  pub parse_handshake_client_whole : daemon_of a' ≡ daemon_of a → CutOrLonger r.ends (client_of a) (client_of a') (AsCut 0) Same
  parse_handshake_client_whole other =
      let u = handshake_client_whole (length (entries_at a) / 2) (daemon_of a) in
      let same : read_both (client_of a') (daemon_of a') (entries_at a') ≡ read_both (client_of a') (daemon_of a) (entries_at a) =
      ap (λ (d : List ℕ). read_both (client_of a') d (entries_at a')) other ∙ ap (read_both (client_of a') (daemon_of a)) room in
      answered_room u (client_of a) (client_of a') r r' p.0 fine (q.0 ∙ ap (λ (c : LentRead Answer). c.answer) same)
      heard_entries (entries_at a) (entries_at a') _ _ room p.1 (q.1 ∙ ap (λ (c : LentRead Answer). c.entries) same)

  -- the daemon's
  pub parse_handshake_daemon_whole : client_of a' ≡ client_of a → CutOrLonger r.ends2 (daemon_of a) (daemon_of a') (AsCut 1) Same
  parse_handshake_daemon_whole other =
      let u = handshake_daemon_whole (length (entries_at a) / 2) (client_of a) in
      let same : read_both (client_of a') (daemon_of a') (entries_at a') ≡ read_both (client_of a) (daemon_of a') (entries_at a) =
      ap (λ (s : List ℕ). read_both s (daemon_of a') (entries_at a')) other ∙ ap (read_both (client_of a) (daemon_of a')) room in
      answered_room u (daemon_of a) (daemon_of a') r r' p.0 fine (q.0 ∙ ap (λ (c : LentRead Answer). c.answer) same)
      heard_entries (entries_at a) (entries_at a') _ _ room p.1 (q.1 ∙ ap (λ (c : LentRead Answer). c.entries) same)

-- ---- the daemon's stream alone, for the same version of the client
pub parse_daemon_handshake_whole : (κs : Lfts 2) (a : Dens κs parse-daemon-handshake-kinds.ps) (r : Answer)
    (x : AtExit (ended_of 2 parse-daemon-handshake-kinds.ps parse-daemon-handshake-kinds.r) κs) → parse-daemon-handshake.Post κs a r x
    → (κs' : Lfts 2) (a' : Dens κs' parse-daemon-handshake-kinds.ps) (r' : Answer) (x' : AtExit (ended_of 2 parse-daemon-handshake-kinds.ps parse-daemon-handshake-kinds.r) κs')
    → parse-daemon-handshake.Post κs' a' r' x' → version_of a' ≡ version_of a → room_at a' ≡ room_at a → r.outcome ≡ Ok tt
    → CutOrLonger r.ends2 (stream_of a) (stream_of a') (RefusedAsCut Err 1 r'.outcome × (room_after x' ≡ room_at a')) ((r' ≡ r) × (room_after x' ≡ room_after x))
parse_daemon_handshake_whole κs a r x p κs' a' r' x' q v room fine =
    let u = daemon_handshake_whole (length (room_at a) / 2) (version_of a) in
    let readAlone : Version → List ℕ → LentRead Answer = λ c lent. alone_read c (stream_of a') (length lent / 2) (λ es. es) lent in
    let same : readAlone (version_of a') (room_at a') ≡ readAlone (version_of a) (room_at a) = ap (λ (c : Version). readAlone c (room_at a')) v ∙ ap (readAlone (version_of a)) room in
    answered_room u (stream_of a) (stream_of a') r r' p.0 fine (q.0 ∙ ap (λ (c : LentRead Answer). c.answer) same)
    heard_entries (room_at a) (room_at a') _ _ room p.1 (q.1 ∙ ap (λ (c : LentRead Answer). c.entries) same)
