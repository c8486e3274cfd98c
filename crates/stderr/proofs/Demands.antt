-- The demands, of what the calls on the stderr loop return. Each theorem is about `Post`, the contract as Rattle reads it off the source.
use Prim.Native.Nat.{ℕ, ◌*◌, ◌/◌, ◌≤◌, ◌<◌}
use mathlib.Core.Path.{◌≡◌, refl, sym, ◌∙◌, ap}
use mathlib.Core.List.{List, ◌++◌}
use mathlib.Core.Bool.{Bool, true, false}
use native.Mathlib.Omega.{arith}
use lib.ListN.{length, drop}
use lib.Dec.{eqb}
use contract.Lifetimes.{Lfts}
use borrow.Fn.Kinds.{Dens, ended_of}
use denote.Triple.Clauses.{AtExit}
use denote.Ref.{Bor, MutBor}
use Rattle.layouts.specs.declared.Refusal.{Refusal}
use Rattle.layouts.specs.declared.Record.{Record}
use Rattle.layouts.specs.declared.Mode.{Mode}
use Rattle.layouts.specs.Primitive.{pick, version, Result, ok, refused, onward}
use Rattle.layouts.specs.Pieces.{Pieces, run, end, skip_of}
use Rattle.layouts.specs.Record.{record_of}
use Rattle.layouts.specs.Judge.{Ended, judge_of, entries_of}
use Rattle.layouts.specs.Writers.{entry_start, entry_length, view_of}
use Rattle.layouts.specs.Calls as L
use Rattle.layouts.specs.Stderr.{Error, Stopped, stopped_record, stderr_loop, stderr_answer, read_stderr_loop, if_error, error_kind, error_block, error_pieces, read_stderr_with_error}
use Rattle.layouts.specs.Soft.{kept_of, unless_bad, SoftenedStderr, SoftenedError}
use Rattle.layouts.specs.Demands.{Untouched, Verdict}
use Rattle.layouts.proofs.Judge.{judge_read, record_room, entries_length}
use Rattle.layouts.proofs.Placed.{never_both}
use Rattle.layouts.proofs.Theorems.{view_kept, unless_bad_lem}
use Rattle.layouts.proofs.Stderr.{soft_stderr, soft_rest_stderr, soft_error_pieces, soft_read_error, soft_rest_error}
use Rattle.walk_judge.specs.declared.Answer.{Answer}
use Rattle.walk_judge.specs.Judged.{answer_as}
use Rattle.walk_judge.proofs.Answers.{answer_fine, refused_keeps, fine_reports, beyond}
use Rattle.stderr.specs.Loop.{error_read}
use Rattle.stderr.proofs.read_stderr_loop.Reads as read-stderr-loop
use Rattle.stderr.proofs.read_stderr_loop.Kinds as read-stderr-loop-kinds
use Rattle.stderr.proofs.read_stderr_with_error.Reads as read-stderr-with-error
use Rattle.stderr.proofs.read_stderr_with_error.Kinds as read-stderr-with-error-kinds
use Rattle.std.specs.Prelude.{Ok, Err}

-- ---- the arguments of a call, by name: the stream; mode and version, which say what block there is, the stream, and the room that is lent for entries; that room at exit
abbrev loop_stream : {A : Type 0} → Bor (List ℕ) × A → List ℕ
loop_stream a = a.0.now

abbrev pub Asked : Type 0 → Type 0
Asked A = Mode × (ℕ × (ℕ × (Bor (List ℕ) × A)))

module _ {A : Type 0} where
  abbrev pub kind_asked : Asked A → ℕ
  kind_asked a = error_kind a.0 (version a.1.0 a.1.1.0)

  abbrev stream_of : Asked A → List ℕ
  stream_of a = a.1.1.1.0.now

  abbrev entries_at : Asked (MutBor (List ℕ) × A) → List ℕ
  entries_at a = a.1.1.1.1.0.now

  -- the pieces of the error block that stands in the stream, if one does
  abbrev block_in : Asked A → Pieces
  block_in a = error_pieces (kind_asked a) (stream_of a) (stderr_loop (stream_of a))

module _ {A B C D E : Type 0} where
  abbrev entries_after : A × (B × (C × (D × (MutBor (List ℕ) × E)))) → List ℕ
  entries_after x = x.1.1.1.1.0.now

-- what was said where all was fine
abbrev said_by : Answer → L.Answer
said_by r = record { kind = r.kind; ends = r.ends; ends2 = r.ends2; found = r.found }

-- ---- an answer is what the loop and the pieces of the block mean, up to where they end
abbrev ends_in : Result L.Answer → ℕ
ends_in (ok x) = x.ends
ends_in (refused which place stream) = 0

abbrev entries_in : Result L.Answer → ℕ
entries_in (ok x) = x.found.entries
entries_in (refused which place stream) = 0

loop_meant : (o : Result Stopped) (y : L.Answer) → onward o (λ x. stderr_answer 0 x.ends (stopped_record x)) ≡ ok y → (x : Stopped) × (o ≡ ok x) × (x.ends ≡ y.ends)
loop_meant (ok x) y e = (x, refl, ap ends_in e)
loop_meant (refused which place stream) y e = absurd (never_both e)

abbrev Meant : (kind : ℕ) → L.Answer → Stopped → Pieces → Type 0
Meant k y x p = (skip_of p ≡ ok y.ends) × (stderr_answer k y.ends (record_of (stopped_record x) p) ≡ ok y)

module _ (k : ℕ) (s : List ℕ) (slots : ℕ) (y : L.Answer) where
  block_meant : (x : Stopped) (o : Result Ended) → judge_of s slots 0 (stopped_record x) (run (error_block k) s x.ends) ≡ o
      → onward o (λ e. stderr_answer k e.ends e.found) ≡ ok y → Meant k y x (run (error_block k) s x.ends)
  block_meant x (ok z) q e =
      let j = judge_read s slots 0 (stopped_record x) (run (error_block k) s x.ends) z q in
      let h : z.ends ≡ y.ends = ap ends_in e in
      (j.skips ∙ ap ok h, ap (λ (r : Record). stderr_answer k y.ends r) (sym j.holds) ∙ ap (λ (n : ℕ). stderr_answer k n z.found) (sym h) ∙ e)
  block_meant x (refused which place stream) q e = absurd (never_both e)

  by_error : (b : Bool) (x : Stopped) → if_error k b x (λ u. judge_of s slots 0 (stopped_record x) (run (error_block k) s x.ends)) ≡ ok y
      → Meant (pick b k 0) y x (pick b (run (error_block k) s x.ends) (end x.ends))
  unfolding skip_of record_of
  by_error true x e = block_meant x _ refl e
  by_error false x e = let h : x.ends ≡ y.ends = ap ends_in e in (ap ok h, ap (λ (n : ℕ). stderr_answer 0 n (stopped_record x)) (sym h) ∙ e)

  on_stop : (o : Result Stopped) → onward o (λ x. if_error k (eqb x.code Error) x (λ u. judge_of s slots 0 (stopped_record x) (run (error_block k) s x.ends))) ≡ ok y
      → (x : Stopped) × (o ≡ ok x) × Meant (pick (eqb x.code Error) k 0) y x (error_pieces k s o)
  unfolding error_pieces
  on_stop (ok x) e = (x, refl, by_error (eqb x.code Error) x e)
  on_stop (refused which place stream) e = absurd (never_both e)

  error_meant : read_stderr_with_error k s slots ≡ ok y → (x : Stopped) × (stderr_loop s ≡ ok x) × Meant (pick (eqb x.code Error) k 0) y x (error_pieces k s (stderr_loop s))
  unfolding read_stderr_with_error
  error_meant e = on_stop (stderr_loop s) e

  -- every entry of the error block is counted
  pub error_counted : read_stderr_with_error k s slots ≡ ok y → length (entries_of (error_pieces k s (stderr_loop s))) ≡ 2 * y.found.entries
  error_counted e =
      let p = error_pieces k s (stderr_loop s) in
      let m = error_meant e in
      let n : (record_of (stopped_record m.0) p).entries ≡ y.found.entries = ap entries_in m.2.1 in
      let h = (record_room (stopped_record m.0) p).0 in
      let l = entries_length p in
      omega arith

-- ---- demand 1
module _ (κs : Lfts 2) (a : Dens κs read-stderr-with-error-kinds.ps) (r : Answer) (x : AtExit (ended_of 2 read-stderr-with-error-kinds.ps read-stderr-with-error-kinds.r) κs)
    (p : read-stderr-with-error.Post κs a r x) where
  abbrev stderr_said : Result L.Answer
  stderr_said = read_stderr_with_error (kind_asked a) (stream_of a) (length (entries_at a) / 2)

  -- a refusal changes no lent memory
  pub stderr_refused : (y : Refusal) → r.outcome ≡ Err y → entries_after x ≡ entries_at a
  stderr_refused y f = refused_keeps r stderr_said p.0 y f _ _ _ p.1

  -- a success writes only what it reports
  pub stderr_written : r.outcome ≡ (Ok tt) → drop (2 * r.found.entries) (entries_after x) ≡ drop (2 * r.found.entries) (entries_at a)
  stderr_written f =
      beyond (2 * r.found.entries) (entries_of (block_in a)) _ _
      (error_counted (kind_asked a) (stream_of a) (length (entries_at a) / 2) _ (answer_fine r stderr_said p.0 f))
      (fine_reports r stderr_said p.0 f _ _ _ p.1)

-- ---- demand 3 for the loop on s, and on s' that differs from it in contents and padding of messages only
module _ (κs : Lfts 1) (a : Dens κs read-stderr-loop-kinds.ps) (r : Answer) (x : AtExit (ended_of 1 read-stderr-loop-kinds.ps read-stderr-loop-kinds.r) κs)
    (p : read-stderr-loop.Post κs a r x) (κs' : Lfts 1) (a' : Dens κs' read-stderr-loop-kinds.ps) (r' : Answer)
    (x' : AtExit (ended_of 1 read-stderr-loop-kinds.ps read-stderr-loop-kinds.r) κs') (q : read-stderr-loop.Post κs' a' r' x')
    (soft : SoftenedStderr (loop_stream a) (loop_stream a')) where
  -- it answers as before: it decodes no string
  pub soft_looped : r' ≡ r
  unfolding read_stderr_loop
  soft_looped =
      q ∙ ap (λ (o : Result Stopped). answer_as (onward o (λ y. stderr_answer 0 y.ends (stopped_record y)))) (soft_stderr (loop_stream a) (loop_stream a') soft) ∙ sym p

  -- what follows is as before
  pub soft_followed_loop : r.outcome ≡ (Ok tt) → drop r.ends (loop_stream a') ≡ drop r.ends (loop_stream a)
  unfolding read_stderr_loop
  soft_followed_loop f =
      let m = loop_meant (stderr_loop (loop_stream a)) (said_by r) (answer_fine r (read_stderr_loop (loop_stream a)) p f) in
      let w = soft_rest_stderr (loop_stream a) (loop_stream a') soft m.0 m.1 in
      rw m.2 at w

-- ---- demand 3 for the loop with the error block: s was read, and s' differs from it in contents and padding of messages and of the error block only, where the same
-- block is asked for
module _ (κs : Lfts 2) (a : Dens κs read-stderr-with-error-kinds.ps) (r : Answer) (x : AtExit (ended_of 2 read-stderr-with-error-kinds.ps read-stderr-with-error-kinds.r) κs)
    (p : read-stderr-with-error.Post κs a r x) (fine : r.outcome ≡ Ok tt) (κs' : Lfts 2) (a' : Dens κs' read-stderr-with-error-kinds.ps) (r' : Answer)
    (x' : AtExit (ended_of 2 read-stderr-with-error-kinds.ps read-stderr-with-error-kinds.r) κs') (q : read-stderr-with-error.Post κs' a' r' x')
    (same : kind_asked a' ≡ kind_asked a) (soft : SoftenedError (kind_asked a) (stream_of a) (stream_of a')) where
  meant : (y : Stopped) × (stderr_loop (stream_of a) ≡ ok y) × Meant (pick (eqb y.code Error) (kind_asked a) 0) (said_by r) y (block_in a)
  meant = error_meant (kind_asked a) (stream_of a) (length (entries_at a) / 2) (said_by r) (answer_fine r (stderr_said κs a r x p) p.0 fine)

  said_same : (r' ≡ (error_read (kind_asked a) (stream_of a') (entries_at a')).answer) × (entries_after x' ≡ (error_read (kind_asked a) (stream_of a') (entries_at a')).entries)
  said_same = rw (← same) q

  -- what follows is as before
  pub soft_followed_error : drop r.ends (stream_of a') ≡ drop r.ends (stream_of a)
  soft_followed_error = soft_rest_error (kind_asked a) (stream_of a) (stream_of a') soft meant.0 meant.1 r.ends meant.2.0

  -- with room for its entries: every decoded string of s' is text, and the answer is as before; or 3 in the first that is not
  pub soft_judged_error : kept_of (block_in a) ≤ length (entries_at a') / 2
      → (said : Result L.Answer) × (r' ≡ answer_as said) × Verdict (stream_of a') (block_in a) (ok (said_by r)) said
  soft_judged_error slots = (
    unless_bad (stream_of a') (block_in a) (ok (said_by r)),
    said_same.0 ∙ ap answer_as (soft_read_error (kind_asked a) (stream_of a) (stream_of a') soft meant.0 meant.1 r.ends meant.2.0 (length (entries_at a') / 2) slots ∙
        ap (unless_bad (stream_of a') (block_in a)) meant.2.1),
    unless_bad_lem (stream_of a') (block_in a) (ok (said_by r)),
  )

  -- its entries are those of s
  pub soft_kept_error : r'.outcome ≡ (Ok tt) → entries_after x' ≡ entries_of (block_in a) ++ drop (length (entries_of (block_in a))) (entries_at a')
  soft_kept_error f =
      fine_reports r' (read_stderr_with_error (kind_asked a) (stream_of a') (length (entries_at a') / 2)) said_same.0 f _ _ _ said_same.1 ∙
      ap (λ (y : Pieces). entries_of y ++ drop (length (entries_of y)) (entries_at a')) (soft_error_pieces (kind_asked a) (stream_of a) (stream_of a') soft meant.0 meant.1)

  -- string number i that it keeps is the one that s has there, where none of its bytes was changed
  pub soft_string_error : r'.outcome ≡ (Ok tt) → (i : ℕ) → i < kept_of (block_in a)
      → Untouched (stream_of a) (stream_of a') (entry_start (entries_of (block_in a)) i) (entry_length (entries_of (block_in a)) i)
      → view_of (stream_of a') (entries_after x') i ≡ view_of (stream_of a) (entries_of (block_in a)) i
  soft_string_error f i h u =
      let l = entries_length (block_in a) in
      ap (λ (es : List ℕ). view_of (stream_of a') es i) (soft_kept_error f)
      ∙ view_kept (stream_of a) (stream_of a') soft.size (entries_of (block_in a)) _ i (omega arith) u
