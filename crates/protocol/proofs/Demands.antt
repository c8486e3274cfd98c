-- The demands, of what the public calls return: each theorem is about `Post`, the contract as Rattle reads it off the source.
use Prim.Native.Nat.{ℕ, ◌*◌, ◌/◌, ◌≤◌, ◌<◌}
use mathlib.Core.Path.{◌≡◌, sym, ◌∙◌, ap}
use mathlib.Core.List.{List, ◌++◌}
use native.Mathlib.Omega.{arith}
use lib.ListN.{length, drop}
use contract.Lifetimes.{Lfts}
use borrow.Fn.Kinds.{Dens, ended_of}
use denote.Triple.Clauses.{AtExit}
use denote.Ref.{Bor, MutBor}
use Rattle.layouts.specs.declared.Mode.{Mode}
use Rattle.layouts.specs.declared.Record.{Record}
use Rattle.layouts.specs.declared.Refusal.{Refusal}
use Rattle.layouts.specs.Primitive.{Version, version, Result, ok, refused}
use Rattle.layouts.specs.Shape.{Tree}
use Rattle.layouts.specs.Pieces.{Pieces, run, skip_of, total_of}
use Rattle.layouts.specs.Record.{blank}
use Rattle.layouts.specs.Judge.{judge_of, entries_of, payload_of, lent_after}
use Rattle.layouts.specs.Writers.{entry_start, entry_length, view_of}
use Rattle.layouts.specs.Soft.{Softened, kept_of, unless_bad}
use Rattle.layouts.specs.Operations.{Kinds}
use Rattle.layouts.specs.Calls.{Context, Answer, answered, arguments_kinds, reply_kinds, arguments_tree, reply_tree, read_of, read_op_args, read_daemon_result, skip_daemon_result}
use Rattle.layouts.specs.Demands.{meaning_of, Untouched, Verdict}
use Rattle.layouts.proofs.Judge.{judge_read, entries_length, payload_length, entries_counted, payload_counted}
use Rattle.layouts.proofs.Placed.{run_placed}
use Rattle.layouts.proofs.Soft.{soft_run}
use Rattle.layouts.proofs.Theorems.{view_untouched, view_kept, unless_bad_lem}
use Rattle.layouts.proofs.Calls.{answer_of_lem, soft_skip_reply, soft_read_reply, soft_rest_reply, soft_read_arguments, soft_rest_arguments}
use Rattle.walk_judge.specs.declared.Answer as C
use Rattle.walk_judge.specs.Judged.{answer_as}
use Rattle.walk_pass.specs.Skip.{skipped}
use Rattle.walk_judge.proofs.Answers.{answer_fine, refused_keeps, fine_reports, beyond}
use Rattle.walk_pass.proofs.Unique.{skipped_told}
use Rattle.protocol.proofs.read_op_args.Reads as read-op-args
use Rattle.protocol.proofs.read_op_args.Kinds as read-op-args-kinds
use Rattle.protocol.proofs.read_daemon_result.Reads as read-daemon-result
use Rattle.protocol.proofs.read_daemon_result.Kinds as read-daemon-result-kinds
use Rattle.protocol.proofs.skip_daemon_result.Reads as skip-daemon-result
use Rattle.protocol.proofs.skip_daemon_result.Kinds as skip-daemon-result-kinds
use Rattle.std.specs.Prelude as Std
use Rattle.std.specs.Prelude.{Ok, Err}

-- ---- the arguments of a call, by name: operation, version, stream; of a reader also the rooms that are lent for entries and payload
abbrev pub Lent : Type 0 → Type 0
Lent A = ℕ × (ℕ × (ℕ × (Bor (List ℕ) × A)))

module _ {A : Type 0} where
  abbrev pub op_of : Lent A → ℕ
  op_of a = a.0

  abbrev pub version_of : Lent A → Version
  version_of a = version a.1.0 a.1.1.0

  abbrev pub stream_of : Lent A → List ℕ
  stream_of a = a.1.1.1.0.now

  abbrev pub entries_at : Lent (MutBor (List ℕ) × A) → List ℕ
  entries_at a = a.1.1.1.1.0.now

  abbrev pub payload_at : Lent (MutBor (List ℕ) × (MutBor (List ℕ) × A)) → List ℕ
  payload_at a = a.1.1.1.1.1.0.now

  -- the mode comes first, where a call takes it
  abbrev pub context_of : Mode × Lent A → Context
  context_of a = record { mode = a.0; op = op_of a.1; spoken = version_of a.1 }

  -- the pieces of the arguments, or of the reply, that stand in the stream
  abbrev arguments_in : Mode × Lent A → Pieces
  arguments_in a = run (arguments_tree (context_of a)) (stream_of a.1) 0

  abbrev pub reply_in : Lent A → Pieces
  reply_in a = run (reply_tree (op_of a) (version_of a)) (stream_of a) 0

-- the rooms at exit
module _ {A B C D E : Type 0} where
  abbrev pub entries_after : A × (B × (C × (D × (MutBor (List ℕ) × E)))) → List ℕ
  entries_after x = x.1.1.1.1.0.now

  abbrev pub payload_after : A × (B × (C × (D × (MutBor (List ℕ) × (MutBor (List ℕ) × E))))) → List ℕ
  payload_after x = x.1.1.1.1.1.0.now

-- ---- laws of any tree
abbrev ends_in : Result Answer → ℕ
ends_in (ok x) = x.ends
ends_in (refused which place stream) = 0

abbrev entries_in : Result Answer → ℕ
entries_in (ok x) = x.found.entries
entries_in (refused which place stream) = 0

abbrev payload_in : Result Answer → ℕ
payload_in (ok x) = x.found.payload
payload_in (refused which place stream) = 0

module _ (v : Version) (k : Kinds) (slots room : ℕ) (s : List ℕ) (t : Tree) (x : Answer) (e : read_of v k slots room s t ≡ ok x) where
  -- an answer reports as many entries and as many bytes of payload as are kept
  pub counted : length (entries_of (run t s 0)) ≡ 2 * x.found.entries
  counted =
      let y = answer_of_lem v k (judge_of s slots room blank (run t s 0)) x e in
      let q : y.0.found.entries ≡ x.found.entries = ap entries_in y.2 in
      let c = entries_counted s slots room blank (run t s 0) y.0 y.1 (omega arith) in
      omega arith

  pub totalled : length (payload_of s (run t s 0)) ≡ x.found.payload
  totalled =
      let y = answer_of_lem v k (judge_of s slots room blank (run t s 0)) x e in
      payload_counted s slots room blank (run t s 0) y.0 y.1 (omega arith) (payload_length s (run_placed t s 0 (omega arith))) ∙ ap payload_in y.2

  -- and there was room for them
  pub roomy : (x.found.entries ≤ slots) × (x.found.payload ≤ room)
  roomy =
      let y = answer_of_lem v k (judge_of s slots room blank (run t s 0)) x e in
      let f = (judge_read s slots room blank (run t s 0) y.0 y.1).fits (omega arith) (omega arith) in
      let n = entries_length (run t s 0) in
      let m = payload_length s (run_placed t s 0 (omega arith)) in
      let c = counted in
      let d = totalled in
      (omega (arith, f), omega (arith, f))

  -- it is what the pieces mean, up to where skipping ends
  means : (skip_of (run t s 0) ≡ ok x.ends) × (meaning_of v k (run t s 0) x.ends ≡ ok x)
  means =
      let y = answer_of_lem v k (judge_of s slots room blank (run t s 0)) x e in
      let j = judge_read s slots room blank (run t s 0) y.0 y.1 in
      let q : y.0.ends ≡ x.ends = ap ends_in y.2 in (
        j.skips ∙ ap ok q,
        ap (λ (n : ℕ). meaning_of v k (run t s 0) n) (sym q) ∙ ap (λ (r : Record). answered v k (ok (record { found = r; ends = y.0.ends }))) (sym j.holds) ∙ y.2,
      )

-- the two rooms of a read, before and after it
module _ (v : Version) (k : Kinds) (slots room : ℕ) (s : List ℕ) (t : Tree) (r : C.Answer) (p : r ≡ answer_as (read_of v k slots room s t)) (es es' ps ps' : List ℕ)
    (e : es' ≡ lent_after (read_of v k slots room s t) (entries_of (run t s 0)) es) (q : ps' ≡ lent_after (read_of v k slots room s t) (payload_of s (run t s 0)) ps) where
  refused_read : (y : Refusal) → r.outcome ≡ Err y → (es' ≡ es) × (ps' ≡ ps)
  refused_read y f = (refused_keeps r (read_of v k slots room s t) p y f _ _ _ e, refused_keeps r (read_of v k slots room s t) p y f _ _ _ q)

  written_read : r.outcome ≡ Ok tt
      → (drop (2 * r.found.entries) es' ≡ drop (2 * r.found.entries) es) × (drop r.found.payload ps' ≡ drop r.found.payload ps)
  written_read f =
      let o = read_of v k slots room s t in
      let g = answer_fine r o p f in (
        beyond (2 * r.found.entries) (entries_of (run t s 0)) es es' (counted v k slots room s t _ g) (fine_reports r o p f _ _ _ e),
        beyond r.found.payload (payload_of s (run t s 0)) ps ps' (totalled v k slots room s t _ g) (fine_reports r o p f _ _ _ q),
      )

-- ---- demand 1
module _ (κs : Lfts 3) (a : Dens κs read-op-args-kinds.ps) (r : C.Answer) (x : AtExit (ended_of 3 read-op-args-kinds.ps read-op-args-kinds.r) κs)
    (p : read-op-args.Post κs a r x) where
  -- a refusal changes no lent memory
  pub arguments_refused : (y : Refusal) → r.outcome ≡ Err y → (entries_after x.1 ≡ entries_at a.1) × (payload_after x.1 ≡ payload_at a.1)
  unfolding read_op_args
  arguments_refused = refused_read (version_of a.1) (arguments_kinds (context_of a)) _ _ (stream_of a.1) (arguments_tree (context_of a)) r p.0 _ _ _ _ p.1.0 p.1.1

  -- a success writes only what it reports
  pub arguments_written : r.outcome ≡ Ok tt
      → (drop (2 * r.found.entries) (entries_after x.1) ≡ drop (2 * r.found.entries) (entries_at a.1)) ×
      (drop r.found.payload (payload_after x.1) ≡ drop r.found.payload (payload_at a.1))
  unfolding read_op_args
  arguments_written = written_read (version_of a.1) (arguments_kinds (context_of a)) _ _ (stream_of a.1) (arguments_tree (context_of a)) r p.0 _ _ _ _ p.1.0 p.1.1

module _ (κs : Lfts 3) (a : Dens κs read-daemon-result-kinds.ps) (r : C.Answer) (x : AtExit (ended_of 3 read-daemon-result-kinds.ps read-daemon-result-kinds.r) κs)
    (p : read-daemon-result.Post κs a r x) where
  -- a refusal changes no lent memory
  pub reply_refused : (y : Refusal) → r.outcome ≡ Err y → (entries_after x ≡ entries_at a) × (payload_after x ≡ payload_at a)
  unfolding read_daemon_result
  reply_refused = refused_read (version_of a) (reply_kinds (op_of a)) _ _ (stream_of a) (reply_tree (op_of a) (version_of a)) r p.0 _ _ _ _ p.1.0 p.1.1

  -- a success writes only what it reports
  pub reply_written : r.outcome ≡ Ok tt
      → (drop (2 * r.found.entries) (entries_after x) ≡ drop (2 * r.found.entries) (entries_at a)) ×
      (drop r.found.payload (payload_after x) ≡ drop r.found.payload (payload_at a))
  unfolding read_daemon_result
  reply_written = written_read (version_of a) (reply_kinds (op_of a)) _ _ (stream_of a) (reply_tree (op_of a) (version_of a)) r p.0 _ _ _ _ p.1.0 p.1.1

-- ---- demand 3: a reply s that the skipper passes, and s' that differs from it in contents, payload and padding only
-- of the same operation and version
pub same_as : {A : Type 0} (f : ℕ → Version → A) {op op' : ℕ} {v v' : Version} → op' ≡ op → v' ≡ v → f op' v' ≡ f op v
same_as f {op} {op'} {v} {v'} e g = ap (λ (n : ℕ). f n v') e ∙ ap (f op) g

module _ (κs : Lfts 1) (a : Dens κs skip-daemon-result-kinds.ps) (x : AtExit (ended_of 1 skip-daemon-result-kinds.ps skip-daemon-result-kinds.r) κs) (k : Std.Result ℕ Refusal)
    (p : skip-daemon-result.Post κs a k x) where
  -- skipping s' ends where skipping s does, and is refused where it is
  pub soft_skipped : (κs' : Lfts 1) (a' : Dens κs' skip-daemon-result-kinds.ps) (x' : AtExit (ended_of 1 skip-daemon-result-kinds.ps skip-daemon-result-kinds.r) κs') (k' : Std.Result ℕ Refusal)
      → skip-daemon-result.Post κs' a' k' x' → op_of a' ≡ op_of a → version_of a' ≡ version_of a → Softened (reply_in a) (stream_of a) (stream_of a') → k' ≡ k
  soft_skipped κs' a' x' k' q o v soft =
      skipped_told k' k (q ∙ same_as (λ op w. skip_daemon_result op w (stream_of a')) o v ∙ soft_skip_reply (op_of a) (version_of a) (stream_of a) (stream_of a') soft ∙ sym p)

  -- the reply was passed to its end, and s' is read
  module _ (ends : ℕ) (passed : k ≡ Ok ends) (κs' : Lfts 3) (a' : Dens κs' read-daemon-result-kinds.ps)
      (x' : AtExit (ended_of 3 read-daemon-result-kinds.ps read-daemon-result-kinds.r) κs') (r : C.Answer) (q : read-daemon-result.Post κs' a' r x')
      (o : op_of a' ≡ op_of a) (v : version_of a' ≡ version_of a) (soft : Softened (reply_in a) (stream_of a) (stream_of a')) where
    skips : skip_daemon_result (op_of a) (version_of a) (stream_of a) ≡ ok ends
    skips = sym p ∙ ap skipped passed

    -- what follows the reply is as before, so every call on it answers as before
    pub soft_followed : drop ends (stream_of a') ≡ drop ends (stream_of a)
    soft_followed = soft_rest_reply (op_of a) (version_of a) (stream_of a) (stream_of a') soft ends skips

    -- string number i of any entries is as before where none of its bytes was changed
    pub soft_viewed : (es : List ℕ) (i : ℕ) → Untouched (stream_of a) (stream_of a') (entry_start es i) (entry_length es i) → view_of (stream_of a') es i ≡ view_of (stream_of a) es i
    soft_viewed = view_untouched (stream_of a) (stream_of a') soft.size

    -- with room for all its entries and payload
    module _ (slots : kept_of (reply_in a) ≤ length (entries_at a') / 2) (room : total_of (reply_in a) ≤ length (payload_at a')) where
      abbrev meaning : Result Answer
      meaning = meaning_of (version_of a) (reply_kinds (op_of a)) (reply_in a) ends

      -- reading s' ends there too, with what the bytes of s mean, or is refused by 3 in the first string that is no text
      pub soft_answered : r ≡ answer_as (unless_bad (stream_of a') (reply_in a) meaning)
      soft_answered =
          let n = length (entries_at a') / 2 in
          let m = length (payload_at a') in
          q.0 ∙ ap answer_as (same_as (λ op w. read_daemon_result op w (stream_of a') n m) o v ∙ soft_read_reply (op_of a) (version_of a) (stream_of a) (stream_of a') soft n m ends skips slots room)

      -- in RFC 3629's words: every decoded string of s' is text, and the answer is what the bytes of s mean; or 3 in the first that is not
      pub soft_judged : (said : Result Answer) × (r ≡ answer_as said) × Verdict (stream_of a') (reply_in a) meaning said
      soft_judged = (unless_bad (stream_of a') (reply_in a) meaning, soft_answered, unless_bad_lem (stream_of a') (reply_in a) meaning)

      -- and its entries are those of s
      pub soft_kept : r.outcome ≡ (Ok tt) → entries_after x' ≡ entries_of (reply_in a) ++ drop (length (entries_of (reply_in a))) (entries_at a')
      soft_kept f =
          let same : run (reply_tree (op_of a') (version_of a')) (stream_of a') 0 ≡ reply_in a =
          same_as (λ op w. run (reply_tree op w) (stream_of a') 0) o v ∙ soft_run (reply_tree (op_of a) (version_of a)) (stream_of a) (stream_of a') soft in
          fine_reports r (read_daemon_result (op_of a') (version_of a') (stream_of a') (length (entries_at a') / 2) (length (payload_at a'))) q.0 f _ _ _ q.1.0 ∙
          ap (λ (y : Pieces). entries_of y ++ drop (length (entries_of y)) (entries_at a')) same

      -- string number i that it keeps is the one that s has there, where none of its bytes was changed
      pub soft_string : r.outcome ≡ (Ok tt) → (i : ℕ) → i < kept_of (reply_in a)
          → Untouched (stream_of a) (stream_of a') (entry_start (entries_of (reply_in a)) i) (entry_length (entries_of (reply_in a)) i)
          → view_of (stream_of a') (entries_after x') i ≡ view_of (stream_of a) (entries_of (reply_in a)) i
      soft_string f i h u =
          let l = entries_length (reply_in a) in
          ap (λ (es : List ℕ). view_of (stream_of a') es i) (soft_kept f)
          ∙ view_kept (stream_of a) (stream_of a') soft.size (entries_of (reply_in a)) _ i (omega arith) u

-- ---- the same for arguments s that were read, and s'
module _ (κs : Lfts 3) (a : Dens κs read-op-args-kinds.ps) (r : C.Answer) (x : AtExit (ended_of 3 read-op-args-kinds.ps read-op-args-kinds.r) κs)
    (p : read-op-args.Post κs a r x) (fine : r.outcome ≡ Ok tt) (κs' : Lfts 3) (a' : Dens κs' read-op-args-kinds.ps) (r' : C.Answer)
    (x' : AtExit (ended_of 3 read-op-args-kinds.ps read-op-args-kinds.r) κs') (q : read-op-args.Post κs' a' r' x') (same : context_of a' ≡ context_of a)
    (soft : Softened (arguments_in a) (stream_of a.1) (stream_of a'.1)) where
  -- what was said of s
  abbrev before : Answer
  before = record { kind = r.kind; ends = r.ends; ends2 = r.ends2; found = r.found }

  meant : (skip_of (arguments_in a) ≡ ok r.ends) × (meaning_of (version_of a.1) (arguments_kinds (context_of a)) (arguments_in a) r.ends ≡ ok before)
  unfolding read_op_args
  meant =
      let o = read_op_args (context_of a) (stream_of a.1) (length (entries_at a.1) / 2) (length (payload_at a.1)) in
      means (version_of a.1) (arguments_kinds (context_of a)) _ _ (stream_of a.1) (arguments_tree (context_of a)) before (answer_fine r o p.0 fine)

  -- what follows the arguments is as before
  pub soft_followed_arguments : drop r.ends (stream_of a'.1) ≡ drop r.ends (stream_of a.1)
  soft_followed_arguments = soft_rest_arguments (context_of a) (stream_of a.1) (stream_of a'.1) soft r.ends meant.0

  -- with room for all: every decoded string of s' is text, and the answer is as before; or 3 in the first that is not
  pub soft_judged_arguments : kept_of (arguments_in a) ≤ length (entries_at a'.1) / 2 → total_of (arguments_in a) ≤ length (payload_at a'.1)
      → (said : Result Answer) × (r' ≡ answer_as said) × Verdict (stream_of a'.1) (arguments_in a) (ok before) said
  soft_judged_arguments slots room =
      let n = length (entries_at a'.1) / 2 in
      let m = length (payload_at a'.1) in (
        unless_bad (stream_of a'.1) (arguments_in a) (ok before),
        q.0 ∙ ap answer_as (ap (λ (c : Context). read_op_args c (stream_of a'.1) n m) same
            ∙ soft_read_arguments (context_of a) (stream_of a.1) (stream_of a'.1) soft n m r.ends meant.0 slots room ∙ ap (unless_bad (stream_of a'.1) (arguments_in a)) meant.1),
        unless_bad_lem (stream_of a'.1) (arguments_in a) (ok before),
      )
