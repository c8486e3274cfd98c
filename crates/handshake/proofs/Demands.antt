-- The demands, of what the two calls return. Each theorem is about `Post`, the contract as Rattle reads it off the source.
use Prim.Native.Nat.{ℕ, ◌*◌, ◌/◌, ◌≤◌, ◌<◌}
use mathlib.Core.Path.{◌≡◌, refl, sym, ◌∙◌, ap}
use mathlib.Core.List.{List, [], ◌++◌}
use mathlib.Core.Bool.{Bool, true, false}
use native.Mathlib.Omega.{arith}
use lib.ListN.{length, drop, length-append}
use contract.Lifetimes.{Lfts}
use borrow.Fn.Kinds.{Dens, ended_of}
use denote.Triple.Clauses.{AtExit}
use denote.Ref.{Bor, MutBor}
use Rattle.layouts.specs.declared.Record.{Record}
use Rattle.layouts.specs.declared.Refusal.{Refusal}
use Rattle.layouts.specs.Primitive.{pick, Version, version, from_wire, Result, ok, refused, onward}
use Rattle.layouts.specs.Pieces.{skip_of}
use Rattle.layouts.specs.Calls as L
use Rattle.layouts.specs.Record.{blank, record_of}
use Rattle.layouts.specs.Judge.{Ended, judge_of, entries_of}
use Rattle.layouts.specs.Writers.{entry_start, entry_length, view_of, feature_of}
use Rattle.layouts.specs.Handshake.{Heard, heard, failed, ended, hear, heard_entries, Both, on_stream, judge_heard, number_in, handshake, daemon_handshake, handshake_answer, parse_handshake, parse_daemon_handshake}
use Rattle.layouts.specs.Soft.{SoftenedOn, skip_heard, record_heard, kept_heard, unless_heard}
use Rattle.layouts.specs.Demands.{Untouched, VerdictHeard, both_mean}
use Rattle.layouts.proofs.Judge.{judge_read, entries_length}
use Rattle.layouts.proofs.Placed.{never_both}
use Rattle.layouts.proofs.Theorems.{view_kept}
use Rattle.layouts.proofs.Talk.{soft_hear, unless_heard_lem, soft_handshake, soft_rest_handshake, soft_daemon_handshake, soft_rest_daemon_handshake}
use Rattle.walk_judge.specs.declared.Answer.{Answer}
use Rattle.walk_judge.specs.Judged.{answer_as}
use Rattle.walk_judge.proofs.Answers.{answer_fine, refused_keeps, fine_reports, beyond}
use Rattle.walk_judge.proofs.Cut.{said_by}
use Rattle.handshake.proofs.Room.{handshake_counted, daemon_counted}
use Rattle.handshake.proofs.parse_handshake.Reads as parse-handshake
use Rattle.handshake.proofs.parse_handshake.Kinds as parse-handshake-kinds
use Rattle.handshake.proofs.parse_daemon_handshake.Reads as parse-daemon-handshake
use Rattle.handshake.proofs.parse_daemon_handshake.Kinds as parse-daemon-handshake-kinds
use Rattle.std.specs.Prelude.{Ok, Err}

-- ---- the arguments of `parse_handshake`, by name: both streams, and the room that is lent for entries; that room at exit
abbrev pub Streams : Type 0 → Type 0
Streams A = Bor (List ℕ) × (Bor (List ℕ) × A)

module _ {A : Type 0} where
  abbrev pub client_of : Streams A → List ℕ
  client_of a = a.0.now

  abbrev pub daemon_of : Streams A → List ℕ
  daemon_of a = a.1.0.now

  abbrev pub entries_at : Streams (MutBor (List ℕ) × A) → List ℕ
  entries_at a = a.1.1.0.now

  -- what is heard on both streams
  abbrev heard_in : Streams A → Heard
  heard_in a = hear handshake (client_of a) (daemon_of a) 0 0 blank

module _ {A B C : Type 0} where
  abbrev pub entries_after : A × (B × (MutBor (List ℕ) × C)) → List ℕ
  entries_after x = x.1.1.0.now

-- ---- those of `parse_daemon_handshake`: the client's version, the daemon's stream, the room
abbrev pub Alone : Type 0 → Type 0
Alone A = ℕ × (ℕ × (Bor (List ℕ) × A))

module _ {A : Type 0} where
  abbrev pub version_of : Alone A → Version
  version_of a = version a.0 a.1.0

  abbrev pub stream_of : Alone A → List ℕ
  stream_of a = a.1.1.0.now

  abbrev pub room_at : Alone (MutBor (List ℕ) × A) → List ℕ
  room_at a = a.1.1.1.0.now

  abbrev alone_in : Alone A → Heard
  alone_in a = hear (daemon_handshake (version_of a)) [] (stream_of a) 0 0 blank

module _ {A B C D : Type 0} where
  abbrev pub room_after : A × (B × (C × (MutBor (List ℕ) × D))) → List ℕ
  room_after x = x.1.1.1.0.now

-- ---- an answer is what both streams mean, up to where they are passed
abbrev ends_in : Result L.Answer → ℕ
ends_in (ok x) = x.ends
ends_in (refused which place stream) = 0

abbrev ends2_in : Result L.Answer → ℕ
ends2_in (ok x) = x.ends2
ends2_in (refused which place stream) = 0

-- both ends, without what was found
abbrev ends_of : Both → Both
ends_of y = record { found = blank; client_ends = y.client_ends; daemon_ends = y.daemon_ends }

heard_meant : (s u : List ℕ) (slots : ℕ) (r : Record) (h : Heard) (y : Both) → judge_heard s u slots r h ≡ ok y
    → (skip_heard h ≡ ok (ends_of y)) × (y.found ≡ record_heard r h)
unfolding judge_heard skip_heard record_heard
heard_meant s u slots r (failed which place stream) y e = absurd (never_both e)
heard_meant s u slots r (ended a b) y e =
    let z : record { found = r; client_ends = a; daemon_ends = b } ≡ y = cc in
    (ap (λ (x : Both). ok (ends_of x)) z, sym (ap (λ (x : Both). x.found) z))
heard_meant s u slots r (heard d p h) y e = go (judge_of (pick d u s) slots 0 r p) refl e (λ q f. heard_meant s u slots q h y f)
  where
    go : (o : Result Ended) → judge_of (pick d u s) slots 0 r p ≡ o → onward (on_stream d o) (λ z. judge_heard s u slots z.found h) ≡ ok y
        → ((q : Record) → judge_heard s u slots q h ≡ ok y → (skip_heard h ≡ ok (ends_of y)) × (y.found ≡ record_heard q h))
        → (onward (on_stream d (skip_of p)) (λ z. skip_heard h) ≡ ok (ends_of y)) × (y.found ≡ record_heard (record_of r p) h)
    go (ok z) q f rest =
        let j = judge_read (pick d u s) slots 0 r p z q in
        let w = rest z.found f in
        (ap (λ (o : Result ℕ). onward (on_stream d o) (λ x. skip_heard h)) j.skips ∙ w.0, w.1 ∙ ap (λ (x : Record). record_heard x h) j.holds)
    go (refused which place stream) q f rest = absurd (never_both f)

module _ (s u : List ℕ) (slots : ℕ) (h : Heard) (c : Both → Version) (x : L.Answer) where
  abbrev Meant : Both → Type 0
  Meant e = (skip_heard h ≡ ok e) × ((handshake_answer (c (both_mean h e)) (both_mean h e) ≡ ok x) × ((e.client_ends ≡ x.ends) × (e.daemon_ends ≡ x.ends2)))

  answer_meant : (o : Result Both) → judge_heard s u slots blank h ≡ o → onward o (λ y. handshake_answer (c y) y) ≡ ok x → (e : Both) × Meant e
  answer_meant (ok y) q e =
      let m = heard_meant s u slots blank h y q in
      let same : both_mean h (ends_of y) ≡ y =
      sym (ap (λ (r : Record). record { found = r; client_ends = y.client_ends; daemon_ends = y.daemon_ends }) m.1) in
      (ends_of y, (m.0, (ap (λ (z : Both). handshake_answer (c z) z) same ∙ e, (ap ends_in e, ap ends2_in e))))
  answer_meant (refused which place stream) q e = absurd (never_both e)

-- how many numbers tell the strings that are kept
heard_length : (h : Heard) → length (heard_entries h) ≡ 2 * kept_heard h
unfolding heard_entries kept_heard
heard_length (heard d p h) =
    let l = length-append (entries_of p) (heard_entries h) in let n = entries_length p in let m = heard_length h in omega arith
heard_length (failed which place stream) = refl
heard_length (ended a b) = refl

-- ---- demand 1
module _ (κs : Lfts 3) (a : Dens κs parse-handshake-kinds.ps) (r : Answer) (x : AtExit (ended_of 3 parse-handshake-kinds.ps parse-handshake-kinds.r) κs)
    (p : parse-handshake.Post κs a r x) where
  abbrev handshake_said : Result L.Answer
  handshake_said = parse_handshake (client_of a) (daemon_of a) (length (entries_at a) / 2)

  -- a refusal changes no lent memory
  pub handshake_refused : (y : Refusal) → r.outcome ≡ Err y → entries_after x ≡ entries_at a
  handshake_refused y f = refused_keeps r handshake_said p.0 y f _ _ _ p.1

  -- a success writes only what it reports
  pub handshake_written : r.outcome ≡ Ok tt → drop (2 * r.found.entries) (entries_after x) ≡ drop (2 * r.found.entries) (entries_at a)
  handshake_written f =
      beyond (2 * r.found.entries) (heard_entries (heard_in a)) _ _
      (handshake_counted (client_of a) (daemon_of a) _ _ (answer_fine r handshake_said p.0 f)).0
      (fine_reports r handshake_said p.0 f _ _ _ p.1)

module _ (κs : Lfts 2) (a : Dens κs parse-daemon-handshake-kinds.ps) (r : Answer) (x : AtExit (ended_of 2 parse-daemon-handshake-kinds.ps parse-daemon-handshake-kinds.r) κs)
    (p : parse-daemon-handshake.Post κs a r x) where
  abbrev daemon_said : Result L.Answer
  daemon_said = parse_daemon_handshake (version_of a) (stream_of a) (length (room_at a) / 2)

  -- a refusal changes no lent memory
  pub daemon_handshake_refused : (y : Refusal) → r.outcome ≡ Err y → room_after x ≡ room_at a
  daemon_handshake_refused y f = refused_keeps r daemon_said p.0 y f _ _ _ p.1

  -- a success writes only what it reports
  pub daemon_handshake_written : r.outcome ≡ Ok tt → drop (2 * r.found.entries) (room_after x) ≡ drop (2 * r.found.entries) (room_at a)
  daemon_handshake_written f =
      beyond (2 * r.found.entries) (heard_entries (alone_in a)) _ _
      (daemon_counted (version_of a) (stream_of a) _ _ (answer_fine r daemon_said p.0 f)).0
      (fine_reports r daemon_said p.0 f _ _ _ p.1)

-- ---- demand 3: both streams were read, and two others differ from them in contents and padding only
module _ (κs : Lfts 3) (a : Dens κs parse-handshake-kinds.ps) (r : Answer) (x : AtExit (ended_of 3 parse-handshake-kinds.ps parse-handshake-kinds.r) κs)
    (p : parse-handshake.Post κs a r x) (fine : r.outcome ≡ Ok tt) (κs' : Lfts 3) (a' : Dens κs' parse-handshake-kinds.ps) (r' : Answer)
    (x' : AtExit (ended_of 3 parse-handshake-kinds.ps parse-handshake-kinds.r) κs') (q : parse-handshake.Post κs' a' r' x')
    (client : SoftenedOn false (heard_in a) (client_of a) (client_of a')) (daemon : SoftenedOn true (heard_in a) (daemon_of a) (daemon_of a')) where
  meant : (e : Both) × Meant (client_of a) (daemon_of a) 0 (heard_in a) (λ y. from_wire (number_in y.found 1)) (said_by r) e
  unfolding parse_handshake
  meant =
      answer_meant (client_of a) (daemon_of a) (length (entries_at a) / 2) (heard_in a) (λ y. from_wire (number_in y.found 1)) (said_by r) _ refl
      (answer_fine r (handshake_said κs a r x p) p.0 fine)

  -- what follows on both streams is as before
  pub soft_followed_handshake : (drop r.ends (client_of a') ≡ drop r.ends (client_of a)) × (drop r.ends2 (daemon_of a') ≡ drop r.ends2 (daemon_of a))
  soft_followed_handshake =
      let m = meant.1 in
      let w = soft_rest_handshake (client_of a) (client_of a') (daemon_of a) (daemon_of a') client daemon meant.0 m.0 in
      (rw m.1.1.0 at w.0, rw m.1.1.1 at w.1)

  -- with room for all entries: every decoded string is text, and the answer is as before; or 3 in the first that is not, on its stream
  pub soft_judged_handshake : kept_heard (heard_in a) ≤ length (entries_at a') / 2
      → (said : Result L.Answer) × (r' ≡ answer_as said) × VerdictHeard (client_of a') (daemon_of a') (heard_in a) (ok (said_by r)) said
  soft_judged_handshake slots =
      let m = meant.1 in (
        unless_heard (client_of a') (daemon_of a') (heard_in a) (ok (said_by r)),
        q.0 ∙ ap answer_as (soft_handshake (client_of a) (client_of a') (daemon_of a) (daemon_of a') client daemon meant.0 m.0 (length (entries_at a') / 2) slots ∙
            ap (unless_heard (client_of a') (daemon_of a') (heard_in a)) m.1.0),
        unless_heard_lem (client_of a') (daemon_of a') (heard_in a) (ok (said_by r)),
      )

  -- its entries are as before
  pub soft_kept_handshake : r'.outcome ≡ Ok tt → entries_after x' ≡ heard_entries (heard_in a) ++ drop (length (heard_entries (heard_in a))) (entries_at a')
  soft_kept_handshake f =
      fine_reports r' (handshake_said κs' a' r' x' q) q.0 f _ _ _ q.1 ∙
      ap (λ (h : Heard). heard_entries h ++ drop (length (heard_entries h)) (entries_at a')) (soft_hear handshake blank (client_of a) (client_of a') (daemon_of a) (daemon_of a') client daemon)

  -- string number i that it keeps, on its stream, is the one that was there, where none of its bytes was changed
  pub soft_string_handshake : r'.outcome ≡ Ok tt → (i : ℕ) → i < kept_heard (heard_in a) → (of-daemon : Bool)
      → Untouched (pick of-daemon (daemon_of a) (client_of a)) (pick of-daemon (daemon_of a') (client_of a')) (entry_start (heard_entries (heard_in a)) i) (entry_length (heard_entries (heard_in a)) i)
      → feature_of of-daemon (client_of a') (daemon_of a') (entries_after x') i ≡ feature_of of-daemon (client_of a) (daemon_of a) (heard_entries (heard_in a)) i
  soft_string_handshake f i h false t =
      let l = heard_length (heard_in a) in
      ap (λ (es : List ℕ). view_of (client_of a') es i) (soft_kept_handshake f) ∙ view_kept (client_of a) (client_of a') client.size (heard_entries (heard_in a)) _ i (omega arith) t
  soft_string_handshake f i h true t =
      let l = heard_length (heard_in a) in
      ap (λ (es : List ℕ). view_of (daemon_of a') es i) (soft_kept_handshake f) ∙ view_kept (daemon_of a) (daemon_of a') daemon.size (heard_entries (heard_in a)) _ i (omega arith) t

-- ---- the same of the daemon's stream alone, for the same version of the client
module _ (κs : Lfts 2) (a : Dens κs parse-daemon-handshake-kinds.ps) (r : Answer) (x : AtExit (ended_of 2 parse-daemon-handshake-kinds.ps parse-daemon-handshake-kinds.r) κs)
    (p : parse-daemon-handshake.Post κs a r x) (fine : r.outcome ≡ Ok tt) (κs' : Lfts 2) (a' : Dens κs' parse-daemon-handshake-kinds.ps) (r' : Answer)
    (x' : AtExit (ended_of 2 parse-daemon-handshake-kinds.ps parse-daemon-handshake-kinds.r) κs') (q : parse-daemon-handshake.Post κs' a' r' x')
    (v : version_of a' ≡ version_of a) (soft : SoftenedOn true (alone_in a) (stream_of a) (stream_of a')) where
  alone_meant : (e : Both) × Meant [] (stream_of a) 0 (alone_in a) (λ y. version_of a) (said_by r) e
  unfolding parse_daemon_handshake
  alone_meant =
      answer_meant [] (stream_of a) (length (room_at a) / 2) (alone_in a) (λ y. version_of a) (said_by r) _ refl (answer_fine r (daemon_said κs a r x p) p.0 fine)

  -- what follows is as before
  pub soft_followed_daemon_handshake : drop r.ends2 (stream_of a') ≡ drop r.ends2 (stream_of a)
  soft_followed_daemon_handshake =
      let m = alone_meant.1 in
      let w = soft_rest_daemon_handshake (version_of a) (stream_of a) (stream_of a') soft alone_meant.0 m.0 in
      rw m.1.1.1 at w

  -- with room for all entries: every decoded string is text, and the answer is as before; or 3 in the first that is not
  pub soft_judged_daemon_handshake : kept_heard (alone_in a) ≤ length (room_at a') / 2
      → (said : Result L.Answer) × (r' ≡ answer_as said) × VerdictHeard [] (stream_of a') (alone_in a) (ok (said_by r)) said
  soft_judged_daemon_handshake slots =
      let m = alone_meant.1 in
      let n = length (room_at a') / 2 in (
        unless_heard [] (stream_of a') (alone_in a) (ok (said_by r)),
        q.0 ∙ ap answer_as (ap (λ (c : Version). parse_daemon_handshake c (stream_of a') n) v
            ∙ soft_daemon_handshake (version_of a) (stream_of a) (stream_of a') soft alone_meant.0 m.0 n slots ∙ ap (unless_heard [] (stream_of a') (alone_in a)) m.1.0),
        unless_heard_lem [] (stream_of a') (alone_in a) (ok (said_by r)),
      )

  -- its entries are as before
  pub soft_kept_daemon_handshake : r'.outcome ≡ Ok tt → room_after x' ≡ heard_entries (alone_in a) ++ drop (length (heard_entries (alone_in a))) (room_at a')
  soft_kept_daemon_handshake f =
      let same : hear (daemon_handshake (version_of a')) [] (stream_of a') 0 0 blank ≡ alone_in a =
      ap (λ (c : Version). hear (daemon_handshake c) [] (stream_of a') 0 0 blank) v ∙
      soft_hear (daemon_handshake (version_of a)) blank [] [] (stream_of a) (stream_of a') (record { size = refl; hard = λ i h o. refl }) soft in
      fine_reports r' (daemon_said κs' a' r' x' q) q.0 f _ _ _ q.1 ∙
      ap (λ (h : Heard). heard_entries h ++ drop (length (heard_entries h)) (room_at a')) same

  -- string number i that it keeps is the one that was there, where none of its bytes was changed
  pub soft_string_daemon_handshake : r'.outcome ≡ Ok tt → (i : ℕ) → i < kept_heard (alone_in a)
      → Untouched (stream_of a) (stream_of a') (entry_start (heard_entries (alone_in a)) i) (entry_length (heard_entries (alone_in a)) i)
      → view_of (stream_of a') (room_after x') i ≡ view_of (stream_of a) (heard_entries (alone_in a)) i
  soft_string_daemon_handshake f i h t =
      let l = heard_length (alone_in a) in
      ap (λ (es : List ℕ). view_of (stream_of a') es i) (soft_kept_daemon_handshake f) ∙ view_kept (stream_of a) (stream_of a') soft.size (heard_entries (alone_in a)) _ i (omega arith) t
