-- The demands, of what the exported functions that are lent room return and leave. Each theorem is about `Post`, the contract as Rattle reads it off the source.
use Prim.Native.Nat.{ℕ, ◌*◌, ◌/◌, ◌≤◌, ◌<◌}
use mathlib.Core.Path.{◌≡◌, refl, sym, ◌∙◌, ap}
use mathlib.Core.List.{List, [], ◌++◌}
use native.Mathlib.Omega.{arith}
use native.Mathlib.Decide.{dec_le}
use lib.ListN.{length, drop}
use contract.Lifetimes.{Lfts}
use borrow.Fn.Kinds.{Dens, ended_of}
use denote.Triple.Clauses.{AtExit}
use denote.Ref.{MutBor}
use Rattle.layouts.specs.Primitive.{Version, version, Result, ok}
use Rattle.layouts.specs.Shape.{Tree, as_count, kept, set, framed}
use Rattle.layouts.specs.Pieces.{Pieces, run, total_of}
use Rattle.layouts.specs.Record.{blank}
use Rattle.layouts.specs.Judge.{Ended, entries_of, payload_of, lent_after}
use Rattle.layouts.specs.Writers.{entry_start, entry_length, view_of}
use Rattle.layouts.specs.Operations.{Kinds}
use Rattle.layouts.specs.Calls as L
use Rattle.layouts.specs.Calls.{Context, arguments_kinds, reply_kinds, arguments_tree, reply_tree, read_of, read_op_args, read_daemon_result, skip_daemon_result, field, read_string_set, read_framed}
use Rattle.layouts.specs.Stderr.{stderr_loop, error_pieces, read_stderr_with_error}
use Rattle.layouts.specs.Handshake.{hear, heard_entries, handshake, daemon_handshake, parse_handshake, parse_daemon_handshake}
use Rattle.layouts.specs.Soft.{Softened, kept_of, unless_bad}
use Rattle.layouts.specs.Demands.{meaning_of, Untouched, Verdict}
use Rattle.layouts.proofs.Placed.{run_placed, ends}
use Rattle.layouts.proofs.Judge.{judge_read, entries_length, entries_counted, payload_counted}
use Rattle.layouts.proofs.Soft.{soft_run}
use Rattle.layouts.proofs.Theorems.{view_untouched, unless_bad_lem}
use Rattle.layouts.proofs.Calls.{soft_skip_reply, soft_read_reply, soft_rest_reply}
use Rattle.entries.specs.Entries.{entries_in}
use Rattle.pieces.proofs.Fields.{field_framed}
use Rattle.writers_output.specs.Numbers.{bytes_of}
use Rattle.walk_judge.specs.Judged.{answer_as}
use Rattle.wire.specs.Answers.{set_entries, framed_payload}
use Rattle.wire.proofs.Sets.{set_fits}
use Rattle.wire.proofs.Frames.{frames_total}
use Rattle.protocol.proofs.Demands.{Lent, op_of, version_of, stream_of, reply_in, counted, totalled, roomy, same_as}
use Rattle.stderr.proofs.Block.{with_error_fits}
use Rattle.stderr.proofs.Demands.{error_counted}
use Rattle.handshake.proofs.Room.{handshake_counted, daemon_counted}
use Rattle.lintelow_answers.specs.Answers.{mode_of, ended}
use Rattle.lintelow_answers.specs.Skips.{result_skipped}
use Rattle.lintelow_answers.specs.Block.{guarded, number_of, block_after}
use Rattle.lintelow.specs.Calls.{error_asked}
use Rattle.lintelow.specs.Demands.{end_told, entries_told, payload_told, Lendable, Tells}
use Rattle.lintelow.proofs.Told.{room_kept, entries_only, payload_only, reply_passed, read_fills, view_in_bytes, entries_small}
use Rattle.lintelow.proofs.lintelow_read_op_args.Reads as read-op-args
use Rattle.lintelow.proofs.lintelow_read_op_args.Kinds as read-op-args-kinds
use Rattle.lintelow.proofs.lintelow_read_daemon_result.Reads as read-daemon-result
use Rattle.lintelow.proofs.lintelow_read_daemon_result.Kinds as read-daemon-result-kinds
use Rattle.lintelow.proofs.lintelow_skip_daemon_result.Reads as skip-daemon-result
use Rattle.lintelow.proofs.lintelow_skip_daemon_result.Kinds as skip-daemon-result-kinds
use Rattle.lintelow.proofs.lintelow_read_stderr_with_error.Reads as read-stderr-with-error
use Rattle.lintelow.proofs.lintelow_read_stderr_with_error.Kinds as read-stderr-with-error-kinds
use Rattle.lintelow.proofs.lintelow_parse_handshake.Reads as parse-handshake
use Rattle.lintelow.proofs.lintelow_parse_handshake.Kinds as parse-handshake-kinds
use Rattle.lintelow.proofs.lintelow_parse_daemon_handshake.Reads as parse-daemon-handshake
use Rattle.lintelow.proofs.lintelow_parse_daemon_handshake.Kinds as parse-daemon-handshake-kinds
use Rattle.lintelow.proofs.reads.lintelow_read_string_set.Reads as read-string-set
use Rattle.lintelow.proofs.reads.lintelow_read_string_set.Kinds as read-string-set-kinds
use Rattle.lintelow.proofs.reads.lintelow_read_framed.Reads as read-framed
use Rattle.lintelow.proofs.reads.lintelow_read_framed.Kinds as read-framed-kinds

-- ---- what is lent, by name; the rooms and the block of the arguments a at entry and of x at exit alike
-- the calls on arguments and replies, which have an operation, a version and a stream before
module _ {A B C D E : Type 0} where
  abbrev pub entries_at : A × (B × (C × (D × (MutBor (List ℕ) × E)))) → List ℕ
  entries_at a = a.1.1.1.1.0.now

  abbrev pub payload_at : A × (B × (C × (D × (MutBor (List ℕ) × (MutBor (List ℕ) × E))))) → List ℕ
  payload_at a = a.1.1.1.1.1.0.now

  abbrev pub block_at : A × (B × (C × (D × (MutBor (List ℕ) × (MutBor (List ℕ) × (MutBor (List ℕ) × E)))))) → List ℕ
  block_at a = a.1.1.1.1.1.1.0.now

  -- the skipper's
  abbrev pub skip_block : A × (B × (C × (D × (MutBor (List ℕ) × E)))) → List ℕ
  skip_block a = a.1.1.1.1.0.now

-- the calls on arguments have a mode before all that
abbrev pub context_at : {A : Type 0} → ℕ × Lent A → Context
context_at a = record { mode = mode_of a.0; op = op_of a.1; spoken = version_of a.1 }

-- the call on an error has a mode in place of the operation
abbrev pub error_at : {A : Type 0} → Lent A → ℕ
error_at a = error_asked a.0 a.1.0 a.1.1.0

abbrev pub error_block : {A B C D E : Type 0} → A × (B × (C × (D × (MutBor (List ℕ) × (MutBor (List ℕ) × E))))) → List ℕ
error_block a = a.1.1.1.1.1.0.now

-- the other calls: one room, and the block behind it. Before it stand both streams, or a stream and a place; a version and a stream
module _ {A B C : Type 0} where
  abbrev pub room_of : A × (B × (MutBor (List ℕ) × C)) → List ℕ
  room_of a = a.1.1.0.now

  abbrev pub room_block : A × (B × (MutBor (List ℕ) × (MutBor (List ℕ) × C))) → List ℕ
  room_block a = a.1.1.1.0.now

module _ {A B C D : Type 0} where
  abbrev pub daemon_room : A × (B × (C × (MutBor (List ℕ) × D))) → List ℕ
  daemon_room a = a.1.1.1.0.now

  abbrev pub daemon_block : A × (B × (C × (MutBor (List ℕ) × (MutBor (List ℕ) × D)))) → List ℕ
  daemon_block a = a.1.1.1.1.0.now

-- ---- demand 1. Of each call, `-refused`: a nonzero number returned leaves the lent rooms as they were; `-written`: whatever it returns, all bytes of a room behind
-- what the block reports, sixteen for each entry and the payload's length, are as they were
-- the two rooms of a read, of any tree
module _ (v : Version) (k : Kinds) (s : List ℕ) (t : Tree) (block es ps : List ℕ) (number : ℕ) (after es' ps' : List ℕ)
    (told : Tells (answer_as (read_of v k (length es / 16) (length ps) s t)) block number after)
    (e : es' ≡ lent_after (guarded block (read_of v k (length es / 16) (length ps) s t)) (bytes_of (entries_of (run t s 0))) es)
    (q : ps' ≡ lent_after (guarded block (read_of v k (length es / 16) (length ps) s t)) (payload_of s (run t s 0)) ps) where
  abbrev judged : Result L.Answer
  judged = read_of v k (length es / 16) (length ps) s t

  rooms_kept : 0 < number → (es' ≡ es) × (ps' ≡ ps)
  rooms_kept h =
      (room_kept answer_as (λ y. refl) block judged number after told es es' _ e h, room_kept answer_as (λ y. refl) block judged number after told ps ps' _ q h)

  rooms_only : Lendable es → Lendable ps
      → (drop (16 * entries_told after) es' ≡ drop (16 * entries_told after) es) × (drop (payload_told after) ps' ≡ drop (payload_told after) ps)
  rooms_only l m = (
    entries_only answer_as (λ y. refl) block judged number after told es es' (entries_of (run t s 0)) e l
        (λ y w. (counted v k (length es / 16) (length ps) s t y w, (roomy v k (length es / 16) (length ps) s t y w).0)),
    payload_only answer_as (λ y. refl) block judged number after told ps ps' (payload_of s (run t s 0)) q m
        (λ y w. (totalled v k (length es / 16) (length ps) s t y w, (roomy v k (length es / 16) (length ps) s t y w).1)),
  )

-- lintelow_read_op_args
module _ (κs : Lfts 4) (a : Dens κs read-op-args-kinds.ps) (r : ℕ) (x : AtExit (ended_of 4 read-op-args-kinds.ps read-op-args-kinds.r) κs)
    (p : read-op-args.Post κs a r x) where
  pub arguments_refused : 0 < r → (entries_at x.1 ≡ entries_at a.1) × (payload_at x.1 ≡ payload_at a.1)
  unfolding read_op_args
  arguments_refused =
      rooms_kept (version_of a.1) (arguments_kinds (context_at a)) (stream_of a.1) (arguments_tree (context_at a)) (block_at a.1) (entries_at a.1) (payload_at a.1) r
      (block_at x.1) (entries_at x.1) (payload_at x.1) (p.0, p.1.0) p.1.1.0 p.1.1.1

  pub arguments_written : Lendable (entries_at a.1) → Lendable (payload_at a.1)
      → (drop (16 * entries_told (block_at x.1)) (entries_at x.1) ≡ drop (16 * entries_told (block_at x.1)) (entries_at a.1)) ×
      (drop (payload_told (block_at x.1)) (payload_at x.1) ≡ drop (payload_told (block_at x.1)) (payload_at a.1))
  unfolding read_op_args
  arguments_written =
      rooms_only (version_of a.1) (arguments_kinds (context_at a)) (stream_of a.1) (arguments_tree (context_at a)) (block_at a.1) (entries_at a.1) (payload_at a.1) r
      (block_at x.1) (entries_at x.1) (payload_at x.1) (p.0, p.1.0) p.1.1.0 p.1.1.1

-- lintelow_read_daemon_result
module _ (κs : Lfts 4) (a : Dens κs read-daemon-result-kinds.ps) (r : ℕ) (x : AtExit (ended_of 4 read-daemon-result-kinds.ps read-daemon-result-kinds.r) κs)
    (p : read-daemon-result.Post κs a r x) where
  pub reply_refused : 0 < r → (entries_at x ≡ entries_at a) × (payload_at x ≡ payload_at a)
  unfolding read_daemon_result
  reply_refused =
      rooms_kept (version_of a) (reply_kinds (op_of a)) (stream_of a) (reply_tree (op_of a) (version_of a)) (block_at a) (entries_at a) (payload_at a) r
      (block_at x) (entries_at x) (payload_at x) (p.0, p.1.0) p.1.1.0 p.1.1.1

  pub reply_written : Lendable (entries_at a) → Lendable (payload_at a)
      → (drop (16 * entries_told (block_at x)) (entries_at x) ≡ drop (16 * entries_told (block_at x)) (entries_at a)) ×
      (drop (payload_told (block_at x)) (payload_at x) ≡ drop (payload_told (block_at x)) (payload_at a))
  unfolding read_daemon_result
  reply_written =
      rooms_only (version_of a) (reply_kinds (op_of a)) (stream_of a) (reply_tree (op_of a) (version_of a)) (block_at a) (entries_at a) (payload_at a) r
      (block_at x) (entries_at x) (payload_at x) (p.0, p.1.0) p.1.1.0 p.1.1.1

-- lintelow_read_stderr_with_error
module _ (κs : Lfts 3) (a : Dens κs read-stderr-with-error-kinds.ps) (r : ℕ) (x : AtExit (ended_of 3 read-stderr-with-error-kinds.ps read-stderr-with-error-kinds.r) κs)
    (p : read-stderr-with-error.Post κs a r x) where
  abbrev error_said : Result L.Answer
  error_said = read_stderr_with_error (error_at a) (stream_of a) (length (entries_at a) / 16)

  pub stderr_refused : 0 < r → entries_at x ≡ entries_at a
  stderr_refused = room_kept answer_as (λ y. refl) (error_block a) error_said r (error_block x) (p.0, p.1.0) (entries_at a) (entries_at x) _ p.1.1

  pub stderr_written : Lendable (entries_at a) → drop (16 * entries_told (error_block x)) (entries_at x) ≡ drop (16 * entries_told (error_block x)) (entries_at a)
  stderr_written l =
      let k = error_at a in
      let s = stream_of a in
      let n = length (entries_at a) / 16 in
      entries_only answer_as (λ y. refl) (error_block a) error_said r (error_block x) (p.0, p.1.0) (entries_at a) (entries_at x) (entries_of (error_pieces k s (stderr_loop s))) p.1.1 l
      (λ y w. let c = error_counted k s n y w in let f = with_error_fits k s n y w in (c, omega arith))

-- lintelow_parse_handshake
module _ (κs : Lfts 4) (a : Dens κs parse-handshake-kinds.ps) (r : ℕ) (x : AtExit (ended_of 4 parse-handshake-kinds.ps parse-handshake-kinds.r) κs)
    (p : parse-handshake.Post κs a r x) where
  abbrev handshake_said : Result L.Answer
  handshake_said = parse_handshake a.0.now a.1.0.now (length (room_of a) / 16)

  pub handshake_refused : 0 < r → room_of x ≡ room_of a
  handshake_refused = room_kept answer_as (λ y. refl) (room_block a) handshake_said r (room_block x) (p.0, p.1.0) (room_of a) (room_of x) _ p.1.1

  pub handshake_written : Lendable (room_of a) → drop (16 * entries_told (room_block x)) (room_of x) ≡ drop (16 * entries_told (room_block x)) (room_of a)
  handshake_written l =
      let s = a.0.now in
      let u = a.1.0.now in
      entries_only answer_as (λ y. refl) (room_block a) handshake_said r (room_block x) (p.0, p.1.0) (room_of a) (room_of x) (heard_entries (hear handshake s u 0 0 blank)) p.1.1 l
      (λ y w. handshake_counted s u (length (room_of a) / 16) y w)

-- lintelow_parse_daemon_handshake
module _ (κs : Lfts 3) (a : Dens κs parse-daemon-handshake-kinds.ps) (r : ℕ) (x : AtExit (ended_of 3 parse-daemon-handshake-kinds.ps parse-daemon-handshake-kinds.r) κs)
    (p : parse-daemon-handshake.Post κs a r x) where
  abbrev daemon_said : Result L.Answer
  daemon_said = parse_daemon_handshake (version a.0 a.1.0) a.1.1.0.now (length (daemon_room a) / 16)

  pub daemon_handshake_refused : 0 < r → daemon_room x ≡ daemon_room a
  daemon_handshake_refused = room_kept answer_as (λ y. refl) (daemon_block a) daemon_said r (daemon_block x) (p.0, p.1.0) (daemon_room a) (daemon_room x) _ p.1.1

  pub daemon_handshake_written : Lendable (daemon_room a) → drop (16 * entries_told (daemon_block x)) (daemon_room x) ≡ drop (16 * entries_told (daemon_block x)) (daemon_room a)
  daemon_handshake_written l =
      let c = version a.0 a.1.0 in
      let u = a.1.1.0.now in
      entries_only answer_as (λ y. refl) (daemon_block a) daemon_said r (daemon_block x) (p.0, p.1.0) (daemon_room a) (daemon_room x) (heard_entries (hear (daemon_handshake c) [] u 0 0 blank)) p.1.1 l
      (λ y w. daemon_counted c u (length (daemon_room a) / 16) y w)

-- lintelow_read_string_set
module _ (κs : Lfts 3) (a : Dens κs read-string-set-kinds.ps) (r : ℕ) (x : AtExit (ended_of 3 read-string-set-kinds.ps read-string-set-kinds.r) κs)
    (p : read-string-set.Post κs a r x) where
  abbrev set_said : Result Ended
  set_said = read_string_set a.0.now a.1.0 (length (room_of a) / 16)

  pub set_refused : 0 < r → room_of x ≡ room_of a
  set_refused = room_kept (λ o. answer_as (ended o)) (λ y. refl) (room_block a) set_said r (room_block x) (p.0, p.1.0) (room_of a) (room_of x) _ p.1.1.0

  pub set_written_lem : Lendable (room_of a) → drop (16 * entries_told (room_block x)) (room_of x) ≡ drop (16 * entries_told (room_block x)) (room_of a)
  set_written_lem l =
      let s = a.0.now in
      let at = a.1.0 in
      let n = length (room_of a) / 16 in
      entries_only (λ o. answer_as (ended o)) (λ y. refl) (room_block a) set_said r (room_block x) (p.0, p.1.0) (room_of a) (room_of x) (set_entries s at) p.1.1.0 l
      (λ y w. let c = entries_counted s n 0 blank (run (field (set kept (as_count 0))) s at) y w refl in let f = set_fits s at n y w in (c, omega arith))

framed_counted : (s : List ℕ) (at room : ℕ) (y : Ended) → read_framed s at room ≡ ok y → (length (framed_payload s at) ≡ y.found.payload) × (y.found.payload ≤ room)
framed_counted s at room y e =
    let p = run (field framed) s at in
    let l : length (payload_of s p) ≡ total_of p = rw field_framed (frames_total s at (dec_le at (length s))).1 in
    let f = (judge_read s 0 room blank p y e).fits (omega arith) (omega arith) in
    let c = payload_counted s 0 room blank p y e refl l in
    (c, omega (arith, f))

-- lintelow_read_framed
module _ (κs : Lfts 3) (a : Dens κs read-framed-kinds.ps) (r : ℕ) (x : AtExit (ended_of 3 read-framed-kinds.ps read-framed-kinds.r) κs)
    (p : read-framed.Post κs a r x) where
  abbrev framed_said : Result Ended
  framed_said = read_framed a.0.now a.1.0 (length (room_of a))

  pub framed_refused : 0 < r → room_of x ≡ room_of a
  framed_refused = room_kept (λ o. answer_as (ended o)) (λ y. refl) (room_block a) framed_said r (room_block x) (p.0, p.1.0) (room_of a) (room_of x) _ p.1.1

  pub framed_written : Lendable (room_of a) → drop (payload_told (room_block x)) (room_of x) ≡ drop (payload_told (room_block x)) (room_of a)
  framed_written l =
      payload_only (λ o. answer_as (ended o)) (λ y. refl) (room_block a) framed_said r (room_block x) (p.0, p.1.0) (room_of a) (room_of x) (framed_payload a.0.now a.1.0) p.1.1 l
      (λ y w. framed_counted a.0.now a.1.0 (length (room_of a)) y w)

-- ---- demand 3: a reply s that the skipper passes, and s' that differs from it in contents, payload and padding only
module _ (κs : Lfts 2) (a : Dens κs skip-daemon-result-kinds.ps) (r : ℕ) (x : AtExit (ended_of 2 skip-daemon-result-kinds.ps skip-daemon-result-kinds.r) κs)
    (p : skip-daemon-result.Post κs a r x) where
  -- skipping s' tells what skipping s does: the same end or the same refusal
  pub soft_skipped : (κs' : Lfts 2) (a' : Dens κs' skip-daemon-result-kinds.ps) (r' : ℕ) (x' : AtExit (ended_of 2 skip-daemon-result-kinds.ps skip-daemon-result-kinds.r) κs')
      → skip-daemon-result.Post κs' a' r' x' → op_of a' ≡ op_of a → version_of a' ≡ version_of a → Softened (reply_in a) (stream_of a) (stream_of a')
      → Tells (answer_as (result_skipped (skip_daemon_result (op_of a) (version_of a) (stream_of a)))) (skip_block a') r' (skip_block x')
  soft_skipped κs' a' r' x' q o v soft =
      let same = same_as (λ op w. skip_daemon_result op w (stream_of a')) o v ∙ soft_skip_reply (op_of a) (version_of a) (stream_of a) (stream_of a') soft in
      let w = ap (λ (y : Result ℕ). answer_as (result_skipped y)) same in
      (q.0 ∙ ap (number_of (skip_block a')) w, q.1 ∙ ap (block_after (skip_block a')) w)

  -- it returned 0, so the reply was passed to the end that the block tells
  module _ (zero : r ≡ 0) (fits : Lendable (stream_of a)) where
    pub skip_passed : skip_daemon_result (op_of a) (version_of a) (stream_of a) ≡ ok (end_told (skip_block x))
    unfolding skip_daemon_result
    skip_passed =
        let w = reply_passed (skip_block a) (op_of a) (version_of a) (stream_of a) r (skip_block x) p zero in
        let b = ends w.0 (run_placed (reply_tree (op_of a) (version_of a)) (stream_of a) 0 (omega arith)) w.1 in
        w.1 ∙ ap ok (sym (w.2 (omega arith)))

    -- and s' is read
    module _ (κs' : Lfts 4) (a' : Dens κs' read-daemon-result-kinds.ps) (r' : ℕ) (x' : AtExit (ended_of 4 read-daemon-result-kinds.ps read-daemon-result-kinds.r) κs')
        (q : read-daemon-result.Post κs' a' r' x') (o : op_of a' ≡ op_of a) (v : version_of a' ≡ version_of a) (soft : Softened (reply_in a) (stream_of a) (stream_of a')) where
      -- what follows the reply is as before, so every call on it answers as before
      pub soft_followed : drop (end_told (skip_block x)) (stream_of a') ≡ drop (end_told (skip_block x)) (stream_of a)
      soft_followed = soft_rest_reply (op_of a) (version_of a) (stream_of a) (stream_of a') soft (end_told (skip_block x)) skip_passed

      -- string number i of any entries is as before where none of its bytes was changed
      pub soft_viewed : (es : List ℕ) (i : ℕ) → Untouched (stream_of a) (stream_of a') (entry_start es i) (entry_length es i) → view_of (stream_of a') es i ≡ view_of (stream_of a) es i
      soft_viewed = view_untouched (stream_of a) (stream_of a') soft.size

      -- with room for all its entries and payload
      module _ (slots : kept_of (reply_in a) ≤ length (entries_at a') / 16) (room : total_of (reply_in a) ≤ length (payload_at a')) where
        abbrev meaning : Result L.Answer
        meaning = meaning_of (version_of a) (reply_kinds (op_of a)) (reply_in a) (end_told (skip_block x))

        abbrev said : Result L.Answer
        said = unless_bad (stream_of a') (reply_in a) meaning

        read_said : read_daemon_result (op_of a') (version_of a') (stream_of a') (length (entries_at a') / 16) (length (payload_at a')) ≡ said
        read_said =
            let n = length (entries_at a') / 16 in
            let m = length (payload_at a') in
            same_as (λ op w. read_daemon_result op w (stream_of a') n m) o v
            ∙ soft_read_reply (op_of a) (version_of a) (stream_of a) (stream_of a') soft n m (end_told (skip_block x)) skip_passed slots room

        tells_said : Tells (answer_as said) (block_at a') r' (block_at x')
        tells_said = (
          q.0 ∙ ap (λ (y : Result L.Answer). number_of (block_at a') (answer_as y)) read_said,
          q.1.0 ∙ ap (λ (y : Result L.Answer). block_after (block_at a') (answer_as y)) read_said,
        )

        -- every decoded string of s' is text, and reading tells what the bytes of s mean, up to the same end; or 3 in the first that is not
        pub soft_judged : (o : Result L.Answer) × Tells (answer_as o) (block_at a') r' (block_at x') × Verdict (stream_of a') (reply_in a) meaning o
        soft_judged = (said, tells_said, unless_bad_lem (stream_of a') (reply_in a) meaning)

        -- where it returns 0 its entries are those of s
        pub soft_kept : r' ≡ 0 → entries_at x' ≡ bytes_of (entries_of (reply_in a)) ++ drop (length (bytes_of (entries_of (reply_in a)))) (entries_at a')
        soft_kept z =
            let same : run (reply_tree (op_of a') (version_of a')) (stream_of a') 0 ≡ reply_in a =
            same_as (λ op w. run (reply_tree op w) (stream_of a') 0) o v ∙ soft_run (reply_tree (op_of a) (version_of a)) (stream_of a) (stream_of a') soft in
            read_fills (block_at a') said (unless_bad_lem (stream_of a') (reply_in a) meaning) r' tells_said.0 (bytes_of (entries_of (reply_in a))) (entries_at a') (entries_at x')
            (q.1.1.0 ∙ ap (λ (y : Result L.Answer). lent_after (guarded (block_at a') y) (bytes_of (entries_of (run (reply_tree (op_of a') (version_of a')) (stream_of a') 0))) (entries_at a')) read_said
            ∙ ap (λ (y : Pieces). lent_after (guarded (block_at a') said) (bytes_of (entries_of y)) (entries_at a')) same) z

        -- and string number i of them is the one that s has there, where none of its bytes was changed
        pub soft_string : r' ≡ 0 → (i : ℕ) → i < kept_of (reply_in a)
            → Untouched (stream_of a) (stream_of a') (entry_start (entries_of (reply_in a)) i) (entry_length (entries_of (reply_in a)) i)
            → view_of (stream_of a') (entries_in (entries_at x')) i ≡ view_of (stream_of a) (entries_of (reply_in a)) i
        soft_string z i h u =
            let es = entries_of (reply_in a) in
            let l = entries_length (reply_in a) in
            let small = entries_small (run_placed (reply_tree (op_of a) (version_of a)) (stream_of a) 0 (omega arith)) in
            ap (λ (b : List ℕ). view_of (stream_of a') (entries_in b) i) (soft_kept z)
            ∙ view_in_bytes (stream_of a') es (drop (length (bytes_of es)) (entries_at a')) i (omega arith) (λ k. let w = small k in omega arith)
            ∙ view_untouched (stream_of a) (stream_of a') soft.size es i u
