-- W-212, of what the calls on replies and arguments return: a stream is passed to an end, and the same call is made on another one, with the same operation, version and
-- rooms. On a shorter beginning of the bytes up to the end it refuses by 1, and lent memory stays. Where only what stands behind the end is other, it answers the same and
-- leaves the same in the rooms. Each theorem is about `Post`, the contract as Rattle reads it off the source.
use Prim.Native.Nat.{ℕ, ◌/◌}
use mathlib.Core.Path.{◌≡◌, refl, sym, ◌∙◌, ap}
use mathlib.Core.List.{List}
use lib.ListN.{length}
use contract.Lifetimes.{Lfts}
use borrow.Fn.Kinds.{Dens, ended_of}
use denote.Triple.Clauses.{AtExit}
use Rattle.layouts.specs.Primitive.{Version, Result, ok, refused}
use Rattle.layouts.specs.Shape.{Tree}
use Rattle.layouts.specs.Pieces.{Pieces, run}
use Rattle.layouts.specs.Judge.{entries_of, payload_of}
use Rattle.layouts.specs.Calls.{Context, Answer, arguments_tree, skipped_tree, reply_tree, read_op_args, read_daemon_result, skip_op_args, skip_daemon_result}
use Rattle.layouts.specs.Cut.{CutOrLonger, RefusedAsCut, WholeOnly}
use Rattle.layouts.proofs.Cut.{seen, told_whole, read_reply_whole, skip_reply_whole, read_arguments_whole, skip_arguments_whole}
use Rattle.walk_judge.specs.declared.Answer as C
use Rattle.walk_judge.specs.Judged.{answer_as}
use Rattle.walk_judge.proofs.Answers.{never}
use Rattle.walk_judge.proofs.Cut.{answered_room}
use Rattle.walk_rooms.specs.Rooms.{LentRead, lent_read}
use Rattle.walk_pass.specs.Skip.{skipped}
use Rattle.walk_pass.proofs.Unique.{skipped_told}
use Rattle.protocol.specs.declared.Arguments.{Arguments}
use Rattle.protocol.specs.Protocol.{arguments_as}
use Rattle.protocol.proofs.Demands.{op_of, version_of, context_of, stream_of, entries_at, payload_at, entries_after, payload_after, same_as}
use Rattle.protocol.proofs.read_op_args.Reads as read-op-args
use Rattle.protocol.proofs.read_op_args.Kinds as read-op-args-kinds
use Rattle.protocol.proofs.read_daemon_result.Reads as read-daemon-result
use Rattle.protocol.proofs.read_daemon_result.Kinds as read-daemon-result-kinds
use Rattle.protocol.proofs.skip_op_args.Reads as skip-op-args
use Rattle.protocol.proofs.skip_op_args.Kinds as skip-op-args-kinds
use Rattle.protocol.proofs.skip_daemon_result.Reads as skip-daemon-result
use Rattle.protocol.proofs.skip_daemon_result.Kinds as skip-daemon-result-kinds
use Rattle.std.specs.Prelude as Std
use Rattle.layouts.specs.declared.Refusal.{Refusal}
use Rattle.std.specs.Prelude.{Ok, Err}

-- ---- reading
abbrev ReadWhole : (r r' : C.Answer) → (s s' entries' payload' : List ℕ) → (entriesOut entriesOut' payloadOut payloadOut' : List ℕ) → Type 0
ReadWhole r r' s s' entries' payload' entriesOut entriesOut' payloadOut payloadOut' =
    CutOrLonger r.ends s s' (RefusedAsCut Err 0 r'.outcome × ((entriesOut' ≡ entries') × (payloadOut' ≡ payload')))
    ((r' ≡ r) × ((entriesOut' ≡ entriesOut) × (payloadOut' ≡ payloadOut)))

-- both readers: said by what chooses a tree, of the tree's pieces, stream and room
module _ {K : Type 0} (said : K → List ℕ → (slots room : ℕ) → Result Answer) (tree : K → Tree)
    (w : (k : K) (slots room : ℕ) → WholeOnly (λ s. said k s slots room) (λ y. y.ends) 0 (seen (tree k) 0)) where
  abbrev read_as : K → (s entries payload : List ℕ) → LentRead C.Answer
  read_as k s entries payload =
      lent_read answer_as (said k s (length entries / 2) (length payload)) (entries_of (run (tree k) s 0)) (payload_of s (run (tree k) s 0)) entries payload

  abbrev Contract : C.Answer → (entries payload : List ℕ) → LentRead C.Answer → Type 0
  Contract answer entries payload c = (answer ≡ c.answer) × ((entries ≡ c.entries) × (payload ≡ c.payload))

  module _ (k k' : K) (same : k' ≡ k) (s s' entries entries' payload payload' : List ℕ) (es : entries' ≡ entries) (ps : payload' ≡ payload) where
    same_read : read_as k' s' entries' payload' ≡ read_as k s' entries payload
    same_read = ap (λ (c : K). read_as c s' entries' payload') same ∙ ap (λ (l : List ℕ). read_as k s' l payload') es ∙ ap (read_as k s' entries) ps

    read_whole : (r r' : C.Answer) (eo eo' po po' : List ℕ) → r.outcome ≡ (Ok tt) → Contract r eo po (read_as k s entries payload)
        → Contract r' eo' po' (read_as k' s' entries' payload') → ReadWhole r r' s s' entries' payload' eo eo' po po'
    read_whole r r' eo eo' po po' fine p q =
        let u = w k (length entries / 2) (length payload) in
        let room = answered_room u s s' r r' p.0 fine (q.0 ∙ ap (λ (c : LentRead C.Answer). c.answer) same_read) in
        let e = room (λ y. entries_of y.0) entries entries' eo eo' es p.1.0 (q.1.0 ∙ ap (λ (c : LentRead C.Answer). c.entries) same_read) in
        let d = room (λ y. y.1) payload payload' po po' ps p.1.1 (q.1.1 ∙ ap (λ (c : LentRead C.Answer). c.payload) same_read) in
        (λ c. ((e.0 c).0, ((e.0 c).1, (d.0 c).1)), λ c. ((e.1 c).0, ((e.1 c).1, (d.1 c).1)))

pub read_daemon_result_whole : (κs : Lfts 3) (a : Dens κs read-daemon-result-kinds.ps) (r : C.Answer) (x : AtExit (ended_of 3 read-daemon-result-kinds.ps read-daemon-result-kinds.r) κs)
    (κs' : Lfts 3) (a' : Dens κs' read-daemon-result-kinds.ps) (r' : C.Answer) (x' : AtExit (ended_of 3 read-daemon-result-kinds.ps read-daemon-result-kinds.r) κs')
    → op_of a' ≡ op_of a → version_of a' ≡ version_of a → entries_at a' ≡ entries_at a → payload_at a' ≡ payload_at a → r.outcome ≡ Ok tt
    → read-daemon-result.Post κs a r x → read-daemon-result.Post κs' a' r' x'
    → ReadWhole r r' (stream_of a) (stream_of a') (entries_at a') (payload_at a') (entries_after x) (entries_after x') (payload_after x) (payload_after x')
read_daemon_result_whole κs a r x κs' a' r' x' o v es ps fine p q =
    read_whole {K = ℕ × Version} (λ k. read_daemon_result k.0 k.1) (λ k. reply_tree k.0 k.1) (λ k. read_reply_whole k.0 k.1) (op_of a, version_of a)
    (op_of a', version_of a') (same_as (λ op u. (op, u)) o v) (stream_of a) (stream_of a') _ _ _ _ es ps r r' (entries_after x) (entries_after x') (payload_after x) (payload_after x') fine p q

pub read_op_args_whole : (κs : Lfts 3) (a : Dens κs read-op-args-kinds.ps) (r : C.Answer) (x : AtExit (ended_of 3 read-op-args-kinds.ps read-op-args-kinds.r) κs)
    (κs' : Lfts 3) (a' : Dens κs' read-op-args-kinds.ps) (r' : C.Answer) (x' : AtExit (ended_of 3 read-op-args-kinds.ps read-op-args-kinds.r) κs')
    → context_of a' ≡ context_of a → entries_at a'.1 ≡ entries_at a.1 → payload_at a'.1 ≡ payload_at a.1 → r.outcome ≡ Ok tt
    → read-op-args.Post κs a r x → read-op-args.Post κs' a' r' x'
    → ReadWhole r r' (stream_of a.1) (stream_of a'.1) (entries_at a'.1) (payload_at a'.1) (entries_after x.1) (entries_after x'.1) (payload_after x.1)
    (payload_after x'.1)
read_op_args_whole κs a r x κs' a' r' x' same es ps fine p q =
    read_whole read_op_args arguments_tree read_arguments_whole (context_of a) (context_of a') same (stream_of a.1) (stream_of a'.1) _ _ _ _ es ps r r'
    (entries_after x.1) (entries_after x'.1) (payload_after x.1) (payload_after x'.1) fine p q

-- ---- skipping a reply
pub skip_daemon_result_whole : (κs : Lfts 1) (a : Dens κs skip-daemon-result-kinds.ps) (r : Std.Result ℕ Refusal) (x : AtExit (ended_of 1 skip-daemon-result-kinds.ps skip-daemon-result-kinds.r) κs)
    → skip-daemon-result.Post κs a r x
    → (κs' : Lfts 1) (a' : Dens κs' skip-daemon-result-kinds.ps) (r' : Std.Result ℕ Refusal) (x' : AtExit (ended_of 1 skip-daemon-result-kinds.ps skip-daemon-result-kinds.r) κs')
    → skip-daemon-result.Post κs' a' r' x' → op_of a' ≡ op_of a → version_of a' ≡ version_of a → (ends : ℕ) → r ≡ Ok ends
    → CutOrLonger ends (stream_of a) (stream_of a') (RefusedAsCut Err 0 r') (r' ≡ r)
skip_daemon_result_whole κs a r x p κs' a' r' x' q o v ends passed =
    told_whole (skip_reply_whole (op_of a) (version_of a)) (stream_of a) (stream_of a') ends (sym p ∙ ap skipped passed) skipped_told Err (λ y. refl) r r' p
    (q ∙ same_as (λ op u. skip_daemon_result op u (stream_of a')) o v)

-- ---- skipping arguments
arguments_fine : (r : Arguments) (o : Result Answer) (es : List ℕ) → r ≡ arguments_as o es → r.outcome ≡ (Ok tt) → (y : Answer) × (o ≡ ok y) × (y.ends ≡ r.ends)
arguments_fine r (ok y) es e f = (y, refl, sym (ap (λ (b : Arguments). b.ends) e))
arguments_fine r (refused which place stream) es e f = never r.outcome _ f (ap (λ (b : Arguments). b.outcome) e)

pub skip_op_args_whole : (κs : Lfts 1) (a : Dens κs skip-op-args-kinds.ps) (r : Arguments) (x : AtExit (ended_of 1 skip-op-args-kinds.ps skip-op-args-kinds.r) κs) → skip-op-args.Post κs a r x
    → (κs' : Lfts 1) (a' : Dens κs' skip-op-args-kinds.ps) (r' : Arguments) (x' : AtExit (ended_of 1 skip-op-args-kinds.ps skip-op-args-kinds.r) κs') → skip-op-args.Post κs' a' r' x'
    → context_of a' ≡ context_of a → r.outcome ≡ (Ok tt) → CutOrLonger r.ends (stream_of a.1) (stream_of a'.1) (RefusedAsCut Err 0 r'.outcome) (r' ≡ r)
skip_op_args_whole κs a r x p κs' a' r' x' q same fine =
    let w = skip_arguments_whole (context_of a) in
    let s' = stream_of a'.1 in
    let f = arguments_fine r (skip_op_args (context_of a) (stream_of a.1)) _ p fine in
    let q' = q ∙ ap (λ (k : Context). arguments_as (skip_op_args k s') (entries_of (run (skipped_tree k) s' 0))) same in (
      λ c.
          let z = w.cut (stream_of a.1) s' f.0 f.1 (rw (← f.2) at c) in
          (z.0, ap (λ (b : Arguments). b.outcome) (q' ∙ ap (λ (d : Result Answer). arguments_as d (entries_of (run (skipped_tree (context_of a)) s' 0))) z.1)),
      λ c.
          let z = w.longer (stream_of a.1) s' f.0 f.1 (rw (← f.2) at c) in
          q' ∙ ap (λ (d : Result Answer). arguments_as d (entries_of (run (skipped_tree (context_of a)) s' 0))) (z.0 ∙ sym f.1)
          ∙ ap (λ (y : Pieces × List ℕ). arguments_as (skip_op_args (context_of a) (stream_of a.1)) (entries_of y.0)) z.1 ∙ sym p,
    )
