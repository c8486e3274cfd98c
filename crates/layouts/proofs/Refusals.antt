-- Document 01's table of refusals: each call refuses with a number at a place exactly when the table says so, in the words of `Refusals` of specs/.
use Prim.Native.Nat.{ℕ, ◌+◌}
use mathlib.Core.Path.{◌≡◌, refl, sym, ◌∙◌, ap, subst}
use mathlib.Core.Logic.{◌↔◌}
use mathlib.Core.List.{List, []}
use lib.ListN.{length, drop}
use lib.Seq.{get_or-drop}
use native.Mathlib.Omega.{arith}
use Rattle.layouts.specs.declared.Record.{Record}
use Rattle.layouts.specs.Primitive.{Version, Result, ok, refused, onward}
use Rattle.layouts.specs.Shape.{Tree}
use Rattle.layouts.specs.Pieces.{run, skip_of}
use Rattle.layouts.specs.Record.{blank}
use Rattle.layouts.specs.Judge.{Ended, judge_of}
use Rattle.layouts.specs.Refusals.{Answers, Refuses, lower_case, Parts}
use Rattle.layouts.specs.Operations.{Kinds}
use Rattle.layouts.specs.Calls.{Context, arguments_tree, skipped_tree, reply_tree, arguments_kinds, skipped_kinds, reply_kinds, answered, read_op_args, read_daemon_result, skip_daemon_result, skip_op_args}
use Rattle.layouts.specs.Handshake.{hear, judge_heard, handshake, daemon_handshake, parse_handshake, parse_daemon_handshake}
use Rattle.layouts.specs.Demands.{Bytes}
use Rattle.layouts.proofs.Placed.{never_both}
use Rattle.layouts.proofs.Calls.{refused_of}
use Rattle.layouts.proofs.LowerCase.{SameWay, both_end, both_refuse, lower_alike}
use Rattle.layouts.proofs.Faults.{refused_same, ended_same, answers_ok, refuses_refused}
use Rattle.layouts.proofs.Outcomes.{Outcome, answers, refuses, outcome}
use Rattle.layouts.proofs.Turns.{parts_refused, refused_parts, handshake_loses, daemon_loses}

-- ---- both ways, for every tree from every place on
module _ (s : List ℕ) (bytes : Bytes s) (slots room : ℕ) (t : Tree) (at : ℕ) (r : Record) where
  abbrev judged_here : Result Ended
  judged_here = judge_of s slots room r (run t s at)

  here : Outcome slots room t at r (drop at s)
  here = outcome slots room t at r (drop at s) (λ x. rw get_or-drop (bytes (at + x)))

  -- reading answers, with this record and at this place, exactly when a beginning of what remains reads to the tree's end
  pub reads_ok : (found : Record) (ends : ℕ)
      → (judge_of s slots room r (run t s at) ≡ ok (record { found = found; ends = ends })) ↔ Answers slots room t at r (drop at s) found ends
  reads_ok found ends = (λ e. by e here, answers_ok s slots room)
    where
      by : judged_here ≡ ok (record { found = found; ends = ends }) → Outcome slots room t at r (drop at s) → Answers slots room t at r (drop at s) found ends
      by e (answers f n y) =
          subst (λ (x : Ended). Answers slots room t at r (drop at s) x.found x.ends) (ended_same (sym (answers_ok s slots room y) ∙ e)) y
      by e (refuses w p y) = absurd (never_both (sym (refuses_refused s slots room y) ∙ e))

  -- "given exactly when": reading refuses, with this number and at this place, exactly when a beginning reads and what comes next is at fault so
  pub refused_when : (which place : ℕ) → (judge_of s slots room r (run t s at) ≡ refused which place 0) ↔ Refuses slots room t at r (drop at s) which place
  refused_when which place = (λ e. by e here, refuses_refused s slots room)
    where
      by : judged_here ≡ refused which place 0 → Outcome slots room t at r (drop at s) → Refuses slots room t at r (drop at s) which place
      by e (answers f n y) = absurd (never_both (sym e ∙ answers_ok s slots room y))
      by e (refuses w p y) =
          let q = refused_same (sym (refuses_refused s slots room y) ∙ e) in
          rw (q.0, q.1) at y

  -- a refusal names no stream but 0
  pub refused_stream : (which place stream : ℕ) → judge_of s slots room r (run t s at) ≡ refused which place stream → stream ≡ 0
  refused_stream which place stream e = by here
    where
      by : Outcome slots room t at r (drop at s) → stream ≡ 0
      by (answers f n y) = absurd (never_both (sym e ∙ answers_ok s slots room y))
      by (refuses w p y) = (refused_same (sym e ∙ refuses_refused s slots room y)).2

-- ---- the calls on operations
through : {A B C : Type 0} → A ↔ B → B ↔ C → A ↔ C
through f g = (λ a. g.0 (f.0 a), λ c. f.1 (g.1 c))

-- a call refuses exactly as what it judged
answered_refused : (v : Version) (k : Kinds) (o : Result Ended) (which place : ℕ) → (answered v k o ≡ refused which place 0) ↔ (o ≡ refused which place 0)
answered_refused v k o which place = (λ e. refused_of v k o which place 0 e, λ e. ap (answered v k) e)

module _ (c : Context) (s : List ℕ) (bytes : Bytes s) where
  -- 01's table, "given exactly when", for the call that reads arguments
  pub arguments_refused_when : (slots room which place : ℕ)
      → (read_op_args c s slots room ≡ refused which place 0) ↔ Refuses slots room (arguments_tree c) 0 blank s which place
  unfolding read_op_args
  arguments_refused_when slots room which place =
      through (answered_refused c.spoken (arguments_kinds c) _ which place) (refused_when s bytes slots room (arguments_tree c) 0 blank which place)

  -- for the call that skips arguments: it keeps one string and has no room for chunks
  pub skipped_refused_when : (which place : ℕ) → (skip_op_args c s ≡ refused which place 0) ↔ Refuses 1 0 (skipped_tree c) 0 blank s which place
  unfolding skip_op_args
  skipped_refused_when which place =
      through (answered_refused c.spoken (skipped_kinds c) _ which place) (refused_when s bytes 1 0 (skipped_tree c) 0 blank which place)

  -- the refusals of these calls name no stream but 0
  pub arguments_stream : (slots room which place stream : ℕ) → read_op_args c s slots room ≡ refused which place stream → stream ≡ 0
  unfolding read_op_args
  arguments_stream slots room which place stream e =
      refused_stream s bytes slots room (arguments_tree c) 0 blank which place stream (refused_of c.spoken (arguments_kinds c) _ which place stream e)

  pub skipped_stream : (which place stream : ℕ) → skip_op_args c s ≡ refused which place stream → stream ≡ 0
  unfolding skip_op_args
  skipped_stream which place stream e =
      refused_stream s bytes 1 0 (skipped_tree c) 0 blank which place stream (refused_of c.spoken (skipped_kinds c) _ which place stream e)

module _ (op : ℕ) (v : Version) (s : List ℕ) (bytes : Bytes s) where
  -- for the call that reads a reply
  pub reply_refused_when : (slots room which place : ℕ)
      → (read_daemon_result op v s slots room ≡ refused which place 0) ↔ Refuses slots room (reply_tree op v) 0 blank s which place
  unfolding read_daemon_result
  reply_refused_when slots room which place =
      through (answered_refused v (reply_kinds op) _ which place) (refused_when s bytes slots room (reply_tree op v) 0 blank which place)

  pub reply_stream : (slots room which place stream : ℕ) → read_daemon_result op v s slots room ≡ refused which place stream → stream ≡ 0
  unfolding read_daemon_result
  reply_stream slots room which place stream e =
      refused_stream s bytes slots room (reply_tree op v) 0 blank which place stream (refused_of v (reply_kinds op) _ which place stream e)

-- ---- skipping a reply
refused_alike : {o : Result ℕ} {o' : Result Ended} → SameWay o o' → (which place : ℕ) → (o ≡ refused which place 0) ↔ (o' ≡ refused which place 0)
refused_alike (both_end r e) which place = (λ q. absurd (never_both (sym q)), λ q. absurd (never_both (sym q)))
refused_alike (both_refuse w p) which place =
    (λ q. let z = refused_same q in rw (z.0, z.1), λ q. let z = refused_same q in rw (z.0, z.1))

stream_alike : {o : Result ℕ} {o' : Result Ended} → SameWay o o' → (which place stream : ℕ) → o ≡ refused which place stream → stream ≡ 0
stream_alike (both_end r e) which place stream q = absurd (never_both (sym q))
stream_alike (both_refuse w p) which place stream q = sym (refused_same q).2

ends_alike : {o : Result ℕ} {o' : Result Ended} → SameWay o o' → (e : ℕ) → (o ≡ ok e) ↔ ((r : Record) × (o' ≡ ok (record { found = r; ends = e })))
ends_alike (both_end r e) e' =
    (λ q. let z : e ≡ e' = cc in (r, ap (λ (n : ℕ). ok (record { found = r; ends = n })) z), λ q. ap ok (ap (λ (x : Ended). x.ends) (ended_same q.1)))
ends_alike (both_refuse w p) e' = (λ q. absurd (never_both q), λ q. absurd (never_both q.1))

-- for every tree from every place on: skipping is reading with every string lower-case, no slots, and room for as much as the stream is long
module _ (s : List ℕ) (bytes : Bytes s) (t : Tree) (at : ℕ) where
  alike : SameWay (skip_of (run t s at)) (judge_of s 0 (length s) blank (run (lower_case t) s at))
  alike = lower_alike s 0 (length s) t at blank (omega arith)

  -- skipping refuses exactly when that does
  pub lower_refused_when : (which place : ℕ) → (skip_of (run t s at) ≡ refused which place 0) ↔ Refuses 0 (length s) (lower_case t) at blank (drop at s) which place
  lower_refused_when which place = through (refused_alike alike which place) (refused_when s bytes 0 (length s) (lower_case t) at blank which place)

  -- skipping ends exactly where that does
  pub lower_ends_when : (ends : ℕ) → (skip_of (run t s at) ≡ ok ends) ↔ ((found : Record) × Answers 0 (length s) (lower_case t) at blank (drop at s) found ends)
  lower_ends_when ends = (
    λ e. let z = (ends_alike alike ends).0 e in (z.0, (reads_ok s bytes 0 (length s) (lower_case t) at blank z.0 ends).0 z.1),
    λ y. (ends_alike alike ends).1 (y.0, (reads_ok s bytes 0 (length s) (lower_case t) at blank y.0 ends).1 y.1),
  )

  -- and its refusals name no stream but 0
  pub lower_stream : (which place stream : ℕ) → skip_of (run t s at) ≡ refused which place stream → stream ≡ 0
  lower_stream which place stream = stream_alike alike which place stream

module _ (op : ℕ) (v : Version) (s : List ℕ) (bytes : Bytes s) where
  -- 01's table for the call that skips a reply: "the same layouts with every string lower-case"
  pub skip_refused_when : (which place : ℕ) → (skip_daemon_result op v s ≡ refused which place 0) ↔ Refuses 0 (length s) (lower_case (reply_tree op v)) 0 blank s which place
  unfolding skip_daemon_result
  skip_refused_when = lower_refused_when s bytes (reply_tree op v) 0

  -- and where it ends
  pub skip_ends_when : (ends : ℕ) → (skip_daemon_result op v s ≡ ok ends) ↔ ((found : Record) × Answers 0 (length s) (lower_case (reply_tree op v)) 0 blank s found ends)
  unfolding skip_daemon_result
  skip_ends_when = lower_ends_when s bytes (reply_tree op v) 0

  -- its refusals name no stream but 0
  pub skip_stream : (which place stream : ℕ) → skip_daemon_result op v s ≡ refused which place stream → stream ≡ 0
  unfolding skip_daemon_result
  skip_stream = lower_stream s bytes (reply_tree op v) 0

-- ---- handshakes
onward_refused : {A B : Type 0} (o : Result A) (f : A → B) (which place stream : ℕ) → (onward o (λ a. ok (f a)) ≡ refused which place stream) ↔ (o ≡ refused which place stream)
onward_refused (ok a) f which place stream = (λ e. absurd (never_both (sym e)), λ e. absurd (never_both (sym e)))
onward_refused (refused w p t) f which place stream = (λ e. let z = refused_same e in rw (z.0, z.1, z.2), λ e. let z = refused_same e in rw (z.0, z.1, z.2))

-- 01's table for a handshake: "a handshake refusal also says which stream"
pub handshake_refused_when : (s u : List ℕ) → Bytes s → Bytes u → (slots which place stream : ℕ)
    → (parse_handshake s u slots ≡ refused which place stream) ↔ Parts slots handshake 0 0 blank s u which place stream
unfolding parse_handshake
handshake_refused_when s u h i slots which place stream =
    through (onward_refused (judge_heard s u slots blank (hear handshake s u 0 0 blank)) _ which place stream)
    (refused_parts s u slots which place stream handshake_loses h i 0 0 blank, λ y. parts_refused s u slots y refl refl)

-- and for the daemon's side alone
pub daemon_refused_when : (c : Version) (u : List ℕ) → Bytes u → (slots which place stream : ℕ)
    → (parse_daemon_handshake c u slots ≡ refused which place stream) ↔ Parts slots (daemon_handshake c) 0 0 blank [] u which place stream
unfolding parse_daemon_handshake
daemon_refused_when c u i slots which place stream =
    through (onward_refused (judge_heard [] u slots blank (hear (daemon_handshake c) [] u 0 0 blank)) _ which place stream)
    (refused_parts [] u slots which place stream (daemon_loses c) (λ x. omega arith) i 0 0 blank, λ y. parts_refused [] u slots y refl refl)
