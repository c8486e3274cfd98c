-- W-212, of what the exported functions return and leave: a call returns 0, so its stream was passed to the end that the block tells, and it is made again on another stream,
-- with all else the same. On a shorter beginning of the bytes up to the end it returns 1, the block tells which stream is cut, and lent memory stays. Where only what stands
-- behind the end is other, it returns 0 and leaves the same block and the same rooms. Each theorem is about `Post`, the contract as Rattle reads it off the source. There is
-- none of the stderr loop, whose messages may be cut where they end with neither Last nor Error, but one of the error block behind messages that end in Error; nor of
-- `lintelow_peek_u64`, which passes nothing.
use Prim.Native.Nat.{ℕ, ◌/◌, ◌≤◌}
use mathlib.Core.Path.{◌≡◌, refl, sym, ◌∙◌, ap}
use mathlib.Core.List.{List}
use native.Mathlib.Omega.{arith}
use lib.ListN.{length}
use contract.Lifetimes.{Lfts}
use borrow.Fn.Kinds.{Dens, ended_of}
use denote.Triple.Clauses.{AtExit}
use Rattle.layouts.specs.Primitive.{Version, version, Result, ok}
use Rattle.layouts.specs.Shape.{Tree, num, as_number, as_count, str, passed, kept, set, framed}
use Rattle.layouts.specs.Pieces.{Pieces, run}
use Rattle.layouts.specs.Judge.{Ended, entries_of, payload_of}
use Rattle.layouts.specs.Calls as L
use Rattle.layouts.specs.Calls.{arguments_tree, skipped_tree, reply_tree, read_op_args, read_daemon_result, skip_op_args, skip_daemon_result, read_number, read_u32, skip_string, read_string, skip_string_set, skip_framed}
use Rattle.layouts.specs.Stderr.{Stopped, Error, stderr_loop, error_pieces, read_stderr_with_error}
use Rattle.layouts.specs.Handshake.{heard_entries}
use Rattle.layouts.specs.Cut.{CutBehind, SameTo, CutOrLonger, WholeOnly}
use Rattle.layouts.proofs.Cut as W
use Rattle.layouts.proofs.Cut.{seen}
use Rattle.layouts.proofs.CutTalk.{handshake_client_whole, handshake_daemon_whole, daemon_handshake_whole}
use Rattle.layouts.proofs.CutError.{error_numbered, error_within, error_cut, error_longer}
use Rattle.layouts.proofs.Talk.{handshake_numbered, daemon_handshake_numbered}
use Rattle.layouts.proofs.Success.{Numbered, onward_numbered, read_reply_numbered, skip_reply_numbered, read_arguments_numbered, skip_arguments_numbered, skip_field_numbered, read_field_numbered, skip_framed_numbered, read_u32_numbered}
use Rattle.writers_output.specs.Numbers.{bytes_of}
use Rattle.walk_judge.specs.declared.Answer.{Answer}
use Rattle.walk_judge.specs.Judged.{answer_as}
use Rattle.wire.specs.Answers.{read_bytes, read_text}
use Rattle.wire.proofs.Cut.{end_of, bytes_whole, text_whole}
use Rattle.protocol.proofs.Demands.{op_of, version_of, stream_of, same_as}
use Rattle.lintelow_answers.specs.Answers.{ended, passed_to, string_read}
use Rattle.lintelow_answers.specs.Skips.{string_skipped, result_skipped}
use Rattle.lintelow_answers.specs.Block.{number_of, block_after}
use Rattle.lintelow.specs.Calls.{Called, ReadCalled, read_called, error_called, handshake_called, daemon_called, set_called, framed_called}
use Rattle.lintelow.specs.Demands.{end_told, end2_told, Lendable, Tells}
use Rattle.lintelow.specs.Cut.{TellsCut}
use Rattle.lintelow.proofs.Demands.{context_at, error_at, error_block, entries_at, payload_at, block_at, skip_block, room_of, room_block, daemon_room, daemon_block}
use Rattle.lintelow.proofs.CutLaws.{Telling, succeeded, end_told_lem, cut_told, longer_told, exported_cut, exported_longer, Leaves, room_whole}
use Rattle.lintelow.proofs.lintelow_read_op_args.Reads as read-op-args
use Rattle.lintelow.proofs.lintelow_read_op_args.Kinds as read-op-args-kinds
use Rattle.lintelow.proofs.lintelow_read_daemon_result.Reads as read-daemon-result
use Rattle.lintelow.proofs.lintelow_read_daemon_result.Kinds as read-daemon-result-kinds
use Rattle.lintelow.proofs.lintelow_skip_op_args.Reads as skip-op-args
use Rattle.lintelow.proofs.lintelow_skip_op_args.Kinds as skip-op-args-kinds
use Rattle.lintelow.proofs.lintelow_skip_daemon_result.Reads as skip-daemon-result
use Rattle.lintelow.proofs.lintelow_skip_daemon_result.Kinds as skip-daemon-result-kinds
use Rattle.lintelow.proofs.lintelow_read_stderr_with_error.Reads as read-stderr-with-error
use Rattle.lintelow.proofs.lintelow_read_stderr_with_error.Kinds as read-stderr-with-error-kinds
use Rattle.lintelow.proofs.lintelow_parse_handshake.Reads as parse-handshake
use Rattle.lintelow.proofs.lintelow_parse_handshake.Kinds as parse-handshake-kinds
use Rattle.lintelow.proofs.lintelow_parse_daemon_handshake.Reads as parse-daemon-handshake
use Rattle.lintelow.proofs.lintelow_parse_daemon_handshake.Kinds as parse-daemon-handshake-kinds
use Rattle.lintelow.proofs.reads.lintelow_read_u64.Reads as read_u64
use Rattle.lintelow.proofs.reads.lintelow_read_u64.Kinds as read-u64-kinds
use Rattle.lintelow.proofs.reads.lintelow_read_u32.Reads as read_u32
use Rattle.lintelow.proofs.reads.lintelow_read_bytes.Reads as read-bytes
use Rattle.lintelow.proofs.reads.lintelow_read_string.Reads as read-string
use Rattle.lintelow.proofs.reads.lintelow_skip_string.Reads as skip-string
use Rattle.lintelow.proofs.reads.lintelow_read_string_set.Reads as read-string-set
use Rattle.lintelow.proofs.reads.lintelow_read_string_set.Kinds as read-string-set-kinds
use Rattle.lintelow.proofs.reads.lintelow_skip_string_set.Reads as skip-string-set
use Rattle.lintelow.proofs.reads.lintelow_read_framed.Reads as read-framed
use Rattle.lintelow.proofs.reads.lintelow_skip_framed.Reads as skip-framed

-- the end is number 4 of the block; of the daemon's stream in a handshake it is number 5
answer_tells : {K : Type 0} → Telling {K = K} 4 (λ (y : L.Answer). y.ends) (λ k o. answer_as o)
answer_tells = record { refuses = λ k which place stream. refl; long = λ k y. omega arith; end = λ k y. refl }

daemon_tells : {K : Type 0} → Telling {K = K} 5 (λ (y : L.Answer). y.ends2) (λ k o. answer_as o)
daemon_tells = record { refuses = λ k which place stream. refl; long = λ k y. omega arith; end = λ k y. refl }

ended_tells : {K : Type 0} → Telling {K = K} 4 (λ (y : Ended). y.ends) (λ k o. answer_as (ended o))
ended_tells = record { refuses = λ k which place stream. refl; long = λ k y. omega arith; end = λ k y. refl }

passed_tells : {K : Type 0} → Telling {K = K} 4 (λ e. e) (λ k o. answer_as (passed_to o))
passed_tells = record { refuses = λ k which place stream. refl; long = λ k y. omega arith; end = λ k y. refl }

string_tells : {K : Type 0} → Telling {K = K} 4 end_of (λ k o. answer_as (string_read o))
string_tells = record { refuses = λ k which place stream. refl; long = λ k y. omega arith; end = λ k y. refl }

result_tells : {K : Type 0} → Telling {K = K} 4 (λ e. e) (λ k o. answer_as (result_skipped o))
result_tells = record { refuses = λ k which place stream. refl; long = λ k y. omega arith; end = λ k y. refl }

-- ---- replies and arguments, read: said by what chooses a tree, of the tree's pieces, stream and room
abbrev ReadWhole : (r r' : ℕ) → (s s' block entries' payload' : List ℕ) → (after after' entriesOut entriesOut' payloadOut payloadOut' : List ℕ) → Type 0
ReadWhole r r' s s' block entries' payload' after after' entriesOut entriesOut' payloadOut payloadOut' =
    CutOrLonger (end_told after) s s' (TellsCut 0 block r' after' × ((entriesOut' ≡ entries') × (payloadOut' ≡ payload')))
    (((r' ≡ r) × (after' ≡ after)) × ((entriesOut' ≡ entriesOut) × (payloadOut' ≡ payloadOut)))

module _ {K : Type 0} (said : K → List ℕ → (slots room : ℕ) → Result L.Answer) (tree : K → Tree)
    (w : (k : K) (slots room : ℕ) → WholeOnly (λ s. said k s slots room) (λ y. y.ends) 0 (seen (tree k) 0)) (n : (s : List ℕ) (k : K) (slots room : ℕ) → Numbered (said k s slots room)) where
  abbrev called_as : K → (s entries payload block : List ℕ) → ReadCalled
  called_as k s entries payload block =
      read_called block (said k s (length entries / 16) (length payload)) (bytes_of (entries_of (run (tree k) s 0))) (payload_of s (run (tree k) s 0)) entries payload

  abbrev Contract : (number : ℕ) → (block entries payload : List ℕ) → ReadCalled → Type 0
  Contract number block entries payload c = (number ≡ c.number) × ((block ≡ c.block) × ((entries ≡ c.entries) × (payload ≡ c.payload)))

  module _ (k k' : K) (same : k' ≡ k) (s s' entries entries' payload payload' block block' : List ℕ) (es : entries' ≡ entries) (ps : payload' ≡ payload) (b : block' ≡ block) where
    same_call : called_as k' s' entries' payload' block' ≡ called_as k s' entries payload block
    same_call = ap (λ (c : K). called_as c s' entries' payload' block') same ∙ ap (λ (l : List ℕ). called_as k s' l payload' block') es
        ∙ ap (λ (l : List ℕ). called_as k s' entries l block') ps ∙ ap (called_as k s' entries payload) b

    read_whole : (r r' : ℕ) (after after' eo eo' po po' : List ℕ) → r ≡ 0 → Lendable s → Contract r after eo po (called_as k s entries payload block)
        → Contract r' after' eo' po' (called_as k' s' entries' payload' block') → ReadWhole r r' s s' block entries' payload' after after' eo eo' po po'
    read_whole r r' after after' eo eo' po po' zero fits p q =
        let u = w k (length entries / 16) (length payload) in
        let m : (s : List ℕ) → Numbered (said k s (length entries / 16) (length payload)) = λ s. n s k _ _ in
        let number = q.0 ∙ ap (λ (c : ReadCalled). c.number) same_call in
        let told = q.1.0 ∙ ap (λ (c : ReadCalled). c.block) same_call in
        let e = room_whole u m answer_as answer_tells (λ y. bytes_of (entries_of y.0)) block entries entries' s s' r r' after after' eo eo' (p.0, (p.1.0, p.1.1.0))
        (number, (told, q.1.1.0 ∙ ap (λ (c : ReadCalled). c.entries) same_call)) es zero fits in
        let d = room_whole u m answer_as answer_tells (λ y. y.1) block payload payload' s s' r r' after after' po po' (p.0, (p.1.0, p.1.1.1))
        (number, (told, q.1.1.1 ∙ ap (λ (c : ReadCalled). c.payload) same_call)) ps zero fits in
        (λ c. ((e.0 c).0, ((e.0 c).1, (d.0 c).1)), λ c. ((e.1 c).0, ((e.1 c).1, (d.1 c).1)))

pub read_daemon_result_whole : (κs : Lfts 4) (a : Dens κs read-daemon-result-kinds.ps) (r : ℕ) (x : AtExit (ended_of 4 read-daemon-result-kinds.ps read-daemon-result-kinds.r) κs)
    (κs' : Lfts 4) (a' : Dens κs' read-daemon-result-kinds.ps) (r' : ℕ) (x' : AtExit (ended_of 4 read-daemon-result-kinds.ps read-daemon-result-kinds.r) κs')
    → op_of a' ≡ op_of a → version_of a' ≡ version_of a → entries_at a' ≡ entries_at a → payload_at a' ≡ payload_at a → block_at a' ≡ block_at a → r ≡ 0 → Lendable (stream_of a)
    → read-daemon-result.Post κs a r x → read-daemon-result.Post κs' a' r' x'
    → ReadWhole r r' (stream_of a) (stream_of a') (block_at a) (entries_at a') (payload_at a') (block_at x) (block_at x') (entries_at x) (entries_at x') (payload_at x) (payload_at x')
read_daemon_result_whole κs a r x κs' a' r' x' o v es ps b zero fits p q =
    read_whole {K = ℕ × Version} (λ k. read_daemon_result k.0 k.1) (λ k. reply_tree k.0 k.1) (λ k. W.read_reply_whole k.0 k.1)
    (λ s k. read_reply_numbered s k.0 k.1) (op_of a, version_of a) (op_of a', version_of a') (same_as (λ op u. (op, u)) o v) (stream_of a) (stream_of a') _ _ _ _ _ _ es ps b r r'
    (block_at x) (block_at x') (entries_at x) (entries_at x') (payload_at x) (payload_at x') zero fits p q

pub read_op_args_whole : (κs : Lfts 4) (a : Dens κs read-op-args-kinds.ps) (r : ℕ) (x : AtExit (ended_of 4 read-op-args-kinds.ps read-op-args-kinds.r) κs)
    (κs' : Lfts 4) (a' : Dens κs' read-op-args-kinds.ps) (r' : ℕ) (x' : AtExit (ended_of 4 read-op-args-kinds.ps read-op-args-kinds.r) κs')
    → context_at a' ≡ context_at a → entries_at a'.1 ≡ entries_at a.1 → payload_at a'.1 ≡ payload_at a.1 → block_at a'.1 ≡ block_at a.1 → r ≡ 0 → Lendable (stream_of a.1)
    → read-op-args.Post κs a r x → read-op-args.Post κs' a' r' x'
    → ReadWhole r r' (stream_of a.1) (stream_of a'.1) (block_at a.1) (entries_at a'.1) (payload_at a'.1) (block_at x.1) (block_at x'.1) (entries_at x.1)
    (entries_at x'.1) (payload_at x.1) (payload_at x'.1)
read_op_args_whole κs a r x κs' a' r' x' same es ps b zero fits p q =
    read_whole read_op_args arguments_tree W.read_arguments_whole read_arguments_numbered (context_at a) (context_at a') same (stream_of a.1) (stream_of a'.1) _ _ _ _ _ _ es ps b r r'
    (block_at x.1) (block_at x'.1) (entries_at x.1) (entries_at x'.1) (payload_at x.1) (payload_at x'.1) zero fits p q

-- ---- skipped
abbrev SkipWhole : (r r' : ℕ) → (s s' block after after' : List ℕ) → Type 0
SkipWhole r r' s s' block after after' = CutOrLonger (end_told after) s s' (TellsCut 0 block r' after') ((r' ≡ r) × (after' ≡ after))

module _ {A K P : Type 0} (said : K → List ℕ → Result A) (keeps : K → List ℕ → P) (ends : A → ℕ) (f : P → Result A → Answer) (t : Telling 4 ends f) where
  skip_whole : (k k' : K) → k' ≡ k → (s s' block block' : List ℕ) → block' ≡ block → (r r' : ℕ) (after after' : List ℕ) → r ≡ 0 → Lendable s
      → WholeOnly (said k) ends 0 (keeps k) → ((s : List ℕ) → Numbered (said k s)) → Tells (f (keeps k s) (said k s)) block r after
      → Tells (f (keeps k' s') (said k' s')) block' r' after' → SkipWhole r r' s s' block after after'
  skip_whole k k' same s s' block block' b r r' after after' zero fits w n p q =
      let answer : K → Answer = λ c. f (keeps c s') (said c s') in
      let e = ap answer same in
      let tells : Tells (answer k) block r' after' = (
        q.0 ∙ ap (λ (l : List ℕ). number_of l (answer k')) b ∙ ap (number_of block) e,
        q.1 ∙ ap (λ (l : List ℕ). block_after l (answer k')) b ∙ ap (block_after block) e,
      ) in (
        λ c. (exported_cut w n f t block s s' r r' after after' p tells zero fits c).0,
        λ c. (exported_longer w n f t block s s' r r' after after' p tells zero fits c).0,
      )

pub skip_daemon_result_whole : (κs : Lfts 2) (a : Dens κs skip-daemon-result-kinds.ps) (r : ℕ) (x : AtExit (ended_of 2 skip-daemon-result-kinds.ps skip-daemon-result-kinds.r) κs)
    (κs' : Lfts 2) (a' : Dens κs' skip-daemon-result-kinds.ps) (r' : ℕ) (x' : AtExit (ended_of 2 skip-daemon-result-kinds.ps skip-daemon-result-kinds.r) κs')
    → op_of a' ≡ op_of a → version_of a' ≡ version_of a → skip_block a' ≡ skip_block a → r ≡ 0 → Lendable (stream_of a) → skip-daemon-result.Post κs a r x
    → skip-daemon-result.Post κs' a' r' x' → SkipWhole r r' (stream_of a) (stream_of a') (skip_block a) (skip_block x) (skip_block x')
skip_daemon_result_whole κs a r x κs' a' r' x' o v b zero fits p q =
    skip_whole {K = ℕ × Version} (λ k. skip_daemon_result k.0 k.1) (λ k s. run (reply_tree k.0 k.1) s 0) (λ e. e) (λ k o. answer_as (result_skipped o)) result_tells
    (op_of a, version_of a) (op_of a', version_of a') (same_as (λ op u. (op, u)) o v) (stream_of a) (stream_of a') _ _ b r r' (skip_block x) (skip_block x') zero fits
    (W.skip_reply_whole (op_of a) (version_of a)) (λ s. skip_reply_numbered s (op_of a) (version_of a)) p q

pub skip_op_args_whole : (κs : Lfts 2) (a : Dens κs skip-op-args-kinds.ps) (r : ℕ) (x : AtExit (ended_of 2 skip-op-args-kinds.ps skip-op-args-kinds.r) κs)
    (κs' : Lfts 2) (a' : Dens κs' skip-op-args-kinds.ps) (r' : ℕ) (x' : AtExit (ended_of 2 skip-op-args-kinds.ps skip-op-args-kinds.r) κs')
    → context_at a' ≡ context_at a → skip_block a'.1 ≡ skip_block a.1 → r ≡ 0 → Lendable (stream_of a.1) → skip-op-args.Post κs a r x → skip-op-args.Post κs' a' r' x'
    → SkipWhole r r' (stream_of a.1) (stream_of a'.1) (skip_block a.1) (skip_block x.1) (skip_block x'.1)
skip_op_args_whole κs a r x κs' a' r' x' same b zero fits p q =
    skip_whole skip_op_args (λ c. seen (skipped_tree c) 0) (λ y. y.ends) (λ k o. answer_as (string_skipped o (entries_of k.0)))
    (record { refuses = λ k which place stream. refl; long = λ k y. omega arith; end = λ k y. refl }) (context_at a) (context_at a') same (stream_of a.1) (stream_of a'.1) _ _ b r r'
    (skip_block x.1) (skip_block x'.1) zero fits (W.skip_arguments_whole (context_at a)) (λ s. skip_arguments_numbered s (context_at a)) p q

-- ---- one field, at the same place, without room
module _ (κs : Lfts 2) (a : Dens κs read-u64-kinds.ps) (r : ℕ) (x : AtExit (ended_of 2 read-u64-kinds.ps read-u64-kinds.r) κs)
    (κs' : Lfts 2) (a' : Dens κs' read-u64-kinds.ps) (r' : ℕ) (x' : AtExit (ended_of 2 read-u64-kinds.ps read-u64-kinds.r) κs')
    (place : a'.1.0 ≡ a.1.0) (b : a'.1.1.0.now ≡ a.1.1.0.now) (zero : r ≡ 0) (fits : Lendable a.0.now) where
  abbrev field_block : List ℕ
  field_block = a.1.1.0.now

  abbrev FieldWhole : Type 0
  FieldWhole =
      CutOrLonger (end_told x.1.1.0.now) a.0.now a'.0.now (TellsCut 0 field_block r' x'.1.1.0.now) ((r' ≡ r) × (x'.1.1.0.now ≡ x.1.1.0.now))

  field_whole : {A K : Type 0} {keeps : List ℕ → K} (said : List ℕ → ℕ → Result A) (ends : A → ℕ) (f : Result A → Answer) → Telling {K = K} 4 ends (λ k. f)
      → WholeOnly (λ s. said s a.1.0) ends 0 keeps → ((s : List ℕ) → Numbered (said s a.1.0)) → Tells (f (said a.0.now a.1.0)) field_block r x.1.1.0.now
      → Tells (f (said a'.0.now a'.1.0)) a'.1.1.0.now r' x'.1.1.0.now → FieldWhole
  field_whole said ends f t w n p q =
      let answer : ℕ → Answer = λ at. f (said a'.0.now at) in
      let tells : Tells (answer a.1.0) field_block r' x'.1.1.0.now = (
        q.0 ∙ ap (λ (l : List ℕ). number_of l (answer a'.1.0)) b ∙ ap (λ (at : ℕ). number_of field_block (answer at)) place,
        q.1 ∙ ap (λ (l : List ℕ). block_after l (answer a'.1.0)) b ∙ ap (λ (at : ℕ). block_after field_block (answer at)) place,
      ) in (
        λ c. (exported_cut w n (λ k. f) t field_block a.0.now a'.0.now r r' x.1.1.0.now x'.1.1.0.now p tells zero fits c).0,
        λ c. (exported_longer w n (λ k. f) t field_block a.0.now a'.0.now r r' x.1.1.0.now x'.1.1.0.now p tells zero fits c).0,
      )

  pub read_u64_whole : read_u64.Post κs a r x → read_u64.Post κs' a' r' x' → FieldWhole
  read_u64_whole p q =
      field_whole read_number (λ y. y.ends) (λ o. answer_as (ended o)) ended_tells (W.read_number_whole a.1.0) (λ s. read_field_numbered s a.1.0 (num (as_number 0)) 0 0) p q

  pub read_u32_whole : read_u32.Post κs a r x → read_u32.Post κs' a' r' x' → FieldWhole
  read_u32_whole p q = field_whole read_u32 (λ y. y.ends) (λ o. answer_as (ended o)) ended_tells (W.read_u32_whole a.1.0) (λ s. read_u32_numbered s a.1.0) p q

  pub skip_string_whole : skip-string.Post κs a r x → skip-string.Post κs' a' r' x' → FieldWhole
  skip_string_whole p q =
      field_whole skip_string (λ e. e) (λ o. answer_as (passed_to o)) passed_tells (W.skip_string_whole a.1.0) (λ s. skip_field_numbered s a.1.0 (str passed)) p q

  pub read_bytes_whole : read-bytes.Post κs a r x → read-bytes.Post κs' a' r' x' → FieldWhole
  read_bytes_whole p q =
      field_whole read_bytes end_of (λ o. answer_as (string_read o)) string_tells (bytes_whole a.1.0)
      (λ s. onward_numbered (skip_string s a.1.0) _ (skip_field_numbered s a.1.0 (str passed)) (λ e. tt)) (p.0, p.1.0) (q.0, q.1.0)

  pub read_string_whole : read-string.Post κs a r x → read-string.Post κs' a' r' x' → FieldWhole
  read_string_whole p q =
      field_whole read_text end_of (λ o. answer_as (string_read o)) string_tells (text_whole a.1.0)
      (λ s. onward_numbered (read_string s a.1.0) _ (read_field_numbered s a.1.0 (str kept) 1 0) (λ e. tt)) (p.0, p.1.0) (q.0, q.1.0)

  pub skip_string_set_whole : skip-string-set.Post κs a r x → skip-string-set.Post κs' a' r' x' → FieldWhole
  skip_string_set_whole p q =
      field_whole skip_string_set (λ y. y.ends) (λ o. answer_as (ended o)) ended_tells (W.skip_set_whole a.1.0) (λ s. read_field_numbered s a.1.0 (set passed (as_number 0)) 0 0) p q

  pub skip_framed_whole : skip-framed.Post κs a r x → skip-framed.Post κs' a' r' x' → FieldWhole
  skip_framed_whole p q =
      field_whole skip_framed (λ y. y.ends) (λ o. answer_as (ended o)) ended_tells (W.skip_framed_whole a.1.0) (λ s. skip_framed_numbered s a.1.0) p q

-- ---- with one room
same_lent : (f : (room block : List ℕ) → Called) {room room' block block' : List ℕ} → room' ≡ room → block' ≡ block → f room' block' ≡ f room block
same_lent f {room} {room'} {block} {block'} e g = ap (λ (l : List ℕ). f l block') e ∙ ap (f room) g

leaves : {r : ℕ} {block room : List ℕ} {c d : Called} → c ≡ d → Leaves r block room c → Leaves r block room d
leaves e p = (p.0 ∙ ap (λ (c : Called). c.number) e, (p.1.0 ∙ ap (λ (c : Called). c.block) e, p.1.1 ∙ ap (λ (c : Called). c.room) e))

module _ (κs : Lfts 3) (a : Dens κs read-string-set-kinds.ps) (r : ℕ) (x : AtExit (ended_of 3 read-string-set-kinds.ps read-string-set-kinds.r) κs)
    (κs' : Lfts 3) (a' : Dens κs' read-string-set-kinds.ps) (r' : ℕ) (x' : AtExit (ended_of 3 read-string-set-kinds.ps read-string-set-kinds.r) κs')
    (place : a'.1.0 ≡ a.1.0) (room : room_of a' ≡ room_of a) (b : room_block a' ≡ room_block a) (zero : r ≡ 0) (fits : Lendable a.0.now) where
  abbrev RoomWhole : Type 0
  RoomWhole =
      CutOrLonger (end_told (room_block x)) a.0.now a'.0.now (TellsCut 0 (room_block a) r' (room_block x') × (room_of x' ≡ room_of a'))
      (((r' ≡ r) × (room_block x' ≡ room_block x)) × (room_of x' ≡ room_of x))

  pub read_string_set_whole : read-string-set.Post κs a r x → read-string-set.Post κs' a' r' x' → RoomWhole
  read_string_set_whole p q =
      let at = a.1.0 in
      let slots = length (room_of a) / 16 in
      let same : set_called a'.0.now a'.1.0 (room_of a') (room_block a') ≡ set_called a'.0.now at (room_of a) (room_block a) =
      ap (λ (n : ℕ). set_called a'.0.now n (room_of a') (room_block a')) place ∙ same_lent (set_called a'.0.now at) room b in
      room_whole (W.read_set_whole at slots) (λ s. read_field_numbered s at (set kept (as_count 0)) slots 0) (λ o. answer_as (ended o)) ended_tells (λ k. bytes_of (entries_of k.0))
      (room_block a) (room_of a) (room_of a') a.0.now a'.0.now r r' (room_block x) (room_block x') (room_of x) (room_of x')
      (p.0, (p.1.0, p.1.1.0)) (leaves same (q.0, (q.1.0, q.1.1.0))) room zero fits

  pub read_framed_whole : read-framed.Post κs a r x → read-framed.Post κs' a' r' x' → RoomWhole
  read_framed_whole p q =
      let at = a.1.0 in
      let size = length (room_of a) in
      let same : framed_called a'.0.now a'.1.0 (room_of a') (room_block a') ≡ framed_called a'.0.now at (room_of a) (room_block a) =
      ap (λ (n : ℕ). framed_called a'.0.now n (room_of a') (room_block a')) place ∙ same_lent (framed_called a'.0.now at) room b in
      room_whole (W.read_framed_whole at size) (λ s. read_field_numbered s at framed 0 size) (λ o. answer_as (ended o)) ended_tells (λ k. k.1)
      (room_block a) (room_of a) (room_of a') a.0.now a'.0.now r r' (room_block x) (room_block x') (room_of x) (room_of x') p (leaves same q) room zero fits

-- ---- an error block: the messages before it end in Error at a place, and the second stream has them. The same block is asked for
module _ (κs : Lfts 3) (a : Dens κs read-stderr-with-error-kinds.ps) (r : ℕ) (x : AtExit (ended_of 3 read-stderr-with-error-kinds.ps read-stderr-with-error-kinds.r) κs)
    (p : read-stderr-with-error.Post κs a r x) (κs' : Lfts 3) (a' : Dens κs' read-stderr-with-error-kinds.ps) (r' : ℕ)
    (x' : AtExit (ended_of 3 read-stderr-with-error-kinds.ps read-stderr-with-error-kinds.r) κs') (q : read-stderr-with-error.Post κs' a' r' x') (asked : error_at a' ≡ error_at a)
    (room : entries_at a' ≡ entries_at a) (b : error_block a' ≡ error_block a) (zero : r ≡ 0) (fits : Lendable (stream_of a)) (y : Stopped) (stops : stderr_loop (stream_of a) ≡ ok y)
    (error : y.code ≡ Error) where
  abbrev s : List ℕ
  s = stream_of a

  abbrev s' : List ℕ
  s' = stream_of a'

  abbrev slots : ℕ
  slots = length (entries_at a) / 16

  again : Leaves r' (error_block x') (entries_at x') (error_called (error_at a) s' (entries_at a) (error_block a))
  again = leaves (ap (λ (k : ℕ). error_called k s' (entries_at a') (error_block a')) asked ∙ same_lent (error_called (error_at a) s') room b) q

  abbrev said : List ℕ → Result L.Answer
  said u = read_stderr_with_error (error_at a) u slots

  abbrev keeps : List ℕ → Pieces
  keeps u = error_pieces (error_at a) u (stderr_loop u)

  numbered : Numbered (said s)
  numbered = error_numbered (error_at a) slots s y stops error

  abbrev done : (200 ≤ length (error_block a)) × (z : L.Answer) × (said s ≡ ok z)
  done = succeeded said (λ z. z.ends) keeps (λ k o. answer_as o) answer_tells (error_block a) s s' r r' (error_block x) (error_block x') (p.0, p.1.0) (again.0, again.1.0) zero numbered

  ends_there : end_told (error_block x) ≡ done.1.ends
  ends_there =
      end_told_lem said (λ z. z.ends) keeps (λ k o. answer_as o) answer_tells (error_block a) s s' r r' (error_block x) (error_block x') (p.0, p.1.0) (again.0, again.1.0) zero numbered
      (error_within (error_at a) slots s y stops error done.1 done.2) fits

  pub read_stderr_with_error_cut : CutBehind y.ends (end_told (error_block x)) s s' → TellsCut 0 (error_block a) r' (error_block x') × (entries_at x' ≡ entries_at a')
  read_stderr_with_error_cut c =
      let z = cut_told said (λ z. z.ends) keeps (λ k o. answer_as o) answer_tells (error_block a) s s' r r' (error_block x) (error_block x') (p.0, p.1.0) (again.0, again.1.0) zero numbered
      0 (error_cut (error_at a) slots s y stops error done.1 done.2 s' (rw ends_there at c)) in
      (z.0, again.1.1 ∙ z.1 _ (entries_at a) ∙ sym room)

  pub read_stderr_with_error_longer : SameTo (end_told (error_block x)) s s' → ((r' ≡ r) × (error_block x' ≡ error_block x)) × (entries_at x' ≡ entries_at x)
  read_stderr_with_error_longer c =
      let l = error_longer (error_at a) slots s y stops error done.1 done.2 s' (rw ends_there at c) in
      let z = longer_told said (λ z. z.ends) keeps (λ k o. answer_as o) answer_tells (error_block a) s s' r r' (error_block x) (error_block x') (p.0, p.1.0) (again.0, again.1.0) zero
      numbered l.0 l.1 in
      (z.0, again.1.1 ∙ z.1 (λ k. bytes_of (entries_of k)) (entries_at a) ∙ sym p.1.1)

-- ---- handshakes: both sides
module _ (κs : Lfts 4) (a : Dens κs parse-handshake-kinds.ps) (r : ℕ) (x : AtExit (ended_of 4 parse-handshake-kinds.ps parse-handshake-kinds.r) κs) (p : parse-handshake.Post κs a r x)
    (κs' : Lfts 4) (a' : Dens κs' parse-handshake-kinds.ps) (r' : ℕ) (x' : AtExit (ended_of 4 parse-handshake-kinds.ps parse-handshake-kinds.r) κs')
    (q : parse-handshake.Post κs' a' r' x') (room : room_of a' ≡ room_of a) (b : room_block a' ≡ room_block a) (zero : r ≡ 0) where
  abbrev HandshakeWhole : (stream ends : ℕ) → (s s' : List ℕ) → Type 0
  HandshakeWhole stream ends s s' =
      CutOrLonger ends s s' (TellsCut stream (room_block a) r' (room_block x') × (room_of x' ≡ room_of a')) (((r' ≡ r) × (room_block x' ≡ room_block x)) × (room_of x' ≡ room_of x))

  abbrev handshake_slots : ℕ
  handshake_slots = length (room_of a) / 16

  -- the client's stream
  pub parse_handshake_client_whole : a'.1.0.now ≡ a.1.0.now → Lendable a.0.now → HandshakeWhole 0 (end_told (room_block x)) a.0.now a'.0.now
  parse_handshake_client_whole other fits =
      let s' = a'.0.now in
      let u = a.1.0.now in
      let same : handshake_called s' a'.1.0.now (room_of a') (room_block a') ≡ handshake_called s' u (room_of a) (room_block a) =
      ap (λ (l : List ℕ). handshake_called s' l (room_of a') (room_block a')) other ∙ same_lent (handshake_called s' u) room b in
      room_whole (handshake_client_whole handshake_slots u) (λ s. handshake_numbered s u handshake_slots) answer_as answer_tells (λ h. bytes_of (heard_entries h))
      (room_block a) (room_of a) (room_of a') a.0.now s' r r' (room_block x) (room_block x') (room_of x) (room_of x') p (leaves same q) room zero fits

  -- the daemon's
  pub parse_handshake_daemon_whole : a'.0.now ≡ a.0.now → Lendable a.1.0.now → HandshakeWhole 1 (end2_told (room_block x)) a.1.0.now a'.1.0.now
  parse_handshake_daemon_whole other fits =
      let s = a.0.now in
      let u' = a'.1.0.now in
      let same : handshake_called a'.0.now u' (room_of a') (room_block a') ≡ handshake_called s u' (room_of a) (room_block a) =
      ap (λ (l : List ℕ). handshake_called l u' (room_of a') (room_block a')) other ∙ same_lent (handshake_called s u') room b in
      room_whole (handshake_daemon_whole handshake_slots s) (λ u. handshake_numbered s u handshake_slots) answer_as daemon_tells (λ h. bytes_of (heard_entries h))
      (room_block a) (room_of a) (room_of a') a.1.0.now u' r r' (room_block x) (room_block x') (room_of x) (room_of x') p (leaves same q) room zero fits

-- ---- the daemon's stream alone, for the same version of the client
pub parse_daemon_handshake_whole : (κs : Lfts 3) (a : Dens κs parse-daemon-handshake-kinds.ps) (r : ℕ)
    (x : AtExit (ended_of 3 parse-daemon-handshake-kinds.ps parse-daemon-handshake-kinds.r) κs) → parse-daemon-handshake.Post κs a r x
    → (κs' : Lfts 3) (a' : Dens κs' parse-daemon-handshake-kinds.ps) (r' : ℕ) (x' : AtExit (ended_of 3 parse-daemon-handshake-kinds.ps parse-daemon-handshake-kinds.r) κs')
    → parse-daemon-handshake.Post κs' a' r' x' → version a'.0 a'.1.0 ≡ version a.0 a.1.0 → daemon_room a' ≡ daemon_room a → daemon_block a' ≡ daemon_block a → r ≡ 0
    → Lendable a.1.1.0.now
    → CutOrLonger (end2_told (daemon_block x)) a.1.1.0.now a'.1.1.0.now (TellsCut 1 (daemon_block a) r' (daemon_block x') × (daemon_room x' ≡ daemon_room a'))
    (((r' ≡ r) × (daemon_block x' ≡ daemon_block x)) × (daemon_room x' ≡ daemon_room x))
parse_daemon_handshake_whole κs a r x p κs' a' r' x' q v room b zero fits =
    let slots = length (daemon_room a) / 16 in
    let c = version a.0 a.1.0 in
    let u' = a'.1.1.0.now in
    let same : daemon_called (version a'.0 a'.1.0) u' (daemon_room a') (daemon_block a') ≡ daemon_called c u' (daemon_room a) (daemon_block a) =
    ap (λ (d : Version). daemon_called d u' (daemon_room a') (daemon_block a')) v ∙ same_lent (daemon_called c u') room b in
    room_whole (daemon_handshake_whole slots c) (λ u. daemon_handshake_numbered c u slots) answer_as daemon_tells (λ h. bytes_of (heard_entries h))
    (daemon_block a) (daemon_room a) (daemon_room a') a.1.1.0.now u' r r' (daemon_block x) (daemon_block x') (daemon_room x) (daemon_room x') p (leaves same q) room zero fits
