-- W-212 of the error block: behind messages that end in Error it is never taken for whole where it is cut, and nothing behind its end is looked at. Messages that end so
-- are the same on every stream that has their bytes.
use Prim.Native.Nat.{ℕ, zero, suc, ◌+◌, ◌≤◌, ◌<◌}
use mathlib.Core.Path.{◌≡◌, refl, sym, ◌∙◌, ap}
use mathlib.Core.List.{List}
use mathlib.Core.Bool.{Bool, true, false}
use lib.ListN.{length, get_or}
use lib.Seq.{length-take-le, get_or-take}
use lib.Dec.{leb}
use borrow.Author.Tests.{eq-eqb, le-leb, leb-true}
use native.Mathlib.Omega.{arith}
use Rattle.layouts.specs.Primitive.{number_at, version, Result, ok, onward}
use Rattle.layouts.specs.Refusal.{refused_by}
use Rattle.layouts.specs.Shape.{Group, Tree, layout}
use Rattle.layouts.specs.Pieces.{Pieces, run, skip_of}
use Rattle.layouts.specs.Judge.{Ended, judge_of}
use Rattle.layouts.specs.Calls.{Answer}
use Rattle.layouts.specs.Stderr.{Error, Message, no_code, terminal, goes, message_of, Stopped, after_peek, stderr_from, stderr_loop, stopped_record, stderr_answer, error_groups, error_block, error_pieces, read_stderr_with_error}
use Rattle.layouts.specs.Cut.{SameTo, CutBehind, RefusedAsCut}
use Rattle.layouts.proofs.Little.{number_same}
use Rattle.layouts.proofs.Placed.{run_placed, ends}
use Rattle.layouts.proofs.Judge.{judge_read}
use Rattle.layouts.proofs.Writers.{onward_ok}
use Rattle.layouts.proofs.Trees.{layout_fails_by_15}
use Rattle.layouts.proofs.Success.{Numbered, onward_numbered, judge_numbered, run_numbered}
use Rattle.layouts.proofs.Follow.{follow_run}
use Rattle.layouts.proofs.Stderr.{passed_on, stops_in}
use Rattle.layouts.proofs.Cut.{same_length, same_bytes, longer_read, cut_read, same_ok}

-- ---- the loop ends in a terminal code on s, and s' has its bytes
module _ (s s' : List ℕ) (y : Stopped) (coded : y.code ≡ 0 → ⊥) (there : y.ends ≤ length s') (agree : (x : ℕ) → x < y.ends → get_or s' x 0 ≡ get_or s x 0) where
  abbrev body : List Group → Tree
  body gs = layout (version 0 0) gs

  message_follows : (b : Bool) (x : Message) (c at m : ℕ) (again again' : ℕ → Result Stopped) → leb (at + 8) (length s) ≡ b
      → ((e : ℕ) → at + 8 ≤ e → again e ≡ ok y → (e ≤ y.ends) × (again' e ≡ ok y)) → after_peek b x c at m (λ gs. skip_of (run (body gs) s (at + 8))) again ≡ ok y
      → (at + 8 ≤ y.ends) × (after_peek true x c at m (λ gs. skip_of (run (body gs) s' (at + 8))) again' ≡ ok y)
  unfolding after_peek
  message_follows false x c at m again again' h f q = let z : 0 ≡ y.code = cc in absurd (coded (sym z))
  message_follows true no_code c at m again again' h f q = let z : 0 ≡ y.code = cc in absurd (coded (sym z))
  message_follows true terminal c at m again again' h f q = let z : at + 8 ≡ y.ends = cc in (omega arith, q)
  message_follows true (goes gs) c at m again again' h f q =
      let l = leb-true (at + 8) (length s) h in
      let z = passed_on (skip_of (run (body gs) s (at + 8))) again y q in
      let w = ends z.0 (run_placed (body gs) s (at + 8) l) z.1 in
      let i = f z.0 w.0 z.2 in
      let same = (follow_run s s' z.0 (λ x a b. agree x (omega arith)) (body gs) (at + 8) l (omega arith) z.1).whole (omega arith) in
      (omega arith, ap (λ (p : Pieces). onward (skip_of p) again') same ∙ ap (λ (o : Result ℕ). onward o again') z.1 ∙ i.1)

  -- f and g bound the messages; only the other stream's has to be large enough
  loop_follows : (f g at m : ℕ) → length s' < g + at → stderr_from f s at m ≡ ok y → stderr_from g s' at m ≡ ok y
  unfolding stderr_from
  loop_follows zero g at m l q = let z : 0 ≡ y.code = cc in absurd (coded (sym z))
  loop_follows (suc f) zero at m l q = let z = stops_in s y (suc f) at m q in absurd (omega arith)
  loop_follows (suc f) (suc g) at m l q =
      let z = message_follows (leb (at + 8) (length s)) (message_of (number_at s at)) (number_at s at) at m (λ e. stderr_from f s e (m + 1)) (λ e. stderr_from g s' e (m + 1)) refl
      (λ e h t. ((stops_in s y f e (m + 1) t).0, loop_follows f g e (m + 1) (omega arith) t)) q in
      rw (number_same s s' at (λ x a b. agree x (omega arith)), le-leb (at + 8) (length s') (omega arith)) z.1

  pub same_messages : stderr_loop s ≡ ok y → stderr_loop s' ≡ ok y
  unfolding stderr_loop
  same_messages q = loop_follows (suc (length s)) (suc (length s')) 0 0 (omega arith) q

-- ---- the block, behind messages that end in Error, with this room
module _ (k slots : ℕ) (s : List ℕ) (y : Stopped) (stops : stderr_loop s ≡ ok y) (error : y.code ≡ Error) where
  abbrev answer : Result Ended → Result Answer
  answer o = onward o (λ e. stderr_answer k e.ends e.found)

  error_is : (u : List ℕ) → stderr_loop u ≡ ok y → read_stderr_with_error k u slots ≡ answer (judge_of u slots 0 (stopped_record y) (run (error_block k) u y.ends))
  unfolding read_stderr_with_error
  error_is u q = rw (q, eq-eqb y.code Error error)

  pieces_is : (u : List ℕ) → stderr_loop u ≡ ok y → error_pieces k u (stderr_loop u) ≡ run (error_block k) u y.ends
  unfolding error_pieces
  pieces_is u q = rw (q, eq-eqb y.code Error error)

  pub error_numbered : Numbered (read_stderr_with_error k s slots)
  unfolding error_block
  error_numbered =
      rw (error_is s stops)
      (onward_numbered (judge_of s slots 0 (stopped_record y) (run (error_block k) s y.ends)) (λ e. stderr_answer k e.ends e.found)
      (judge_numbered s slots 0 (stopped_record y) _ (run_numbered s (error_block k) y.ends (layout_fails_by_15 (version 0 0) (error_groups k)))) (λ e. tt))

  -- it is read on s
  module _ (x : Answer) (read : read_stderr_with_error k s slots ≡ ok x) where
    judged : (z : Ended) × (judge_of s slots 0 (stopped_record y) (run (error_block k) s y.ends) ≡ ok z) × (stderr_answer k z.ends z.found ≡ ok x)
    judged = onward_ok (judge_of s slots 0 (stopped_record y) (run (error_block k) s y.ends)) (λ e. stderr_answer k e.ends e.found) x (sym (error_is s stops) ∙ read)

    ended_at : judged.0.ends ≡ x.ends
    ended_at = ap (λ (w : Answer). w.ends) (same_ok judged.2)

    messages_within : y.ends ≤ length s
    unfolding stderr_loop
    messages_within = (stops_in s y (suc (length s)) 0 0 stops).1 (omega arith)

    block_ends : (y.ends ≤ x.ends) × (x.ends ≤ length s)
    block_ends =
        let z = ends judged.0.ends (run_placed (error_block k) s y.ends messages_within)
        (judge_read s slots 0 (stopped_record y) (run (error_block k) s y.ends) judged.0 judged.1).skips in
        rw (← ended_at) z

    pub error_within : x.ends ≤ length s
    error_within = block_ends.1

    pub error_cut : (s' : List ℕ) → CutBehind y.ends x.ends s s' → RefusedAsCut refused_by 0 (read_stderr_with_error k s' slots)
    error_cut s' (n, b, l, c) =
        let w = block_ends in
        let m : length s' ≡ n = ap length c ∙ length-take-le n s (omega arith) in
        let q = same_messages s s' y (λ o. omega arith) (omega arith) (λ i h. ap (λ (u : List ℕ). get_or u i 0) c ∙ get_or-take n s i 0 (omega arith)) stops in
        let e = ended_at in
        let z = cut_read (error_block k) s s' y.ends messages_within slots 0 (stopped_record y) judged.0 judged.1 (omega arith) (n, omega arith, c) in
        (z.0, error_is s' q ∙ ap answer z.1)

    pub error_longer : (s' : List ℕ) → SameTo x.ends s s'
        → (read_stderr_with_error k s' slots ≡ ok x) × (error_pieces k s' (stderr_loop s') ≡ error_pieces k s (stderr_loop s))
    error_longer s' c =
        let w = block_ends in
        let m = same_length s s' x.ends c w.1 in
        let q = same_messages s s' y (λ o. omega arith) (omega arith) (λ i h. same_bytes s s' x.ends c i (omega arith)) stops in
        let z = longer_read (error_block k) s s' y.ends messages_within slots 0 (stopped_record y) judged.0 judged.1 (rw ended_at c) in
        (error_is s' q ∙ ap answer z.0 ∙ judged.2, pieces_is s' q ∙ ap (λ (p : Pieces × List ℕ). p.0) z.1 ∙ sym (pieces_is s stops))
