-- Skipping a layout is reading it with every string lower-case: no slot is needed, no text is looked at, and room for what remains of the stream is enough.
use Prim.Native.Nat.{◌-◌, ℕ, zero, suc, ◌+◌, ◌≤◌}
use mathlib.Core.List.{List}
use lib.ListN.{length}
use borrow.Author.Tests.{le-leb}
use native.Mathlib.Omega.{arith}
use Rattle.layouts.specs.declared.Record.{Record}
use Rattle.layouts.specs.Primitive.{number_at, pad_of, Result, ok, refused}
use Rattle.layouts.specs.Shape.{Target, Role, passed, Tree, ask, say, frames, fail, stop}
use Rattle.layouts.specs.Pieces.{Pieces, Num, Text, Chunk, after_num, after_text, after_chunk, chunks, run, skip_of}
use Rattle.layouts.specs.Record.{noted, entered, with_payload}
use Rattle.layouts.specs.Judge.{not_text, text_taken, half_taken, chunk_taken, Ended, judge_of}
use Rattle.layouts.specs.Refusals.{lower_case}
use Rattle.layouts.proofs.Views.{NumView, is_value, is_short, TextView, no_length, too_long_there, no_contents, no_padding, is_whole, ChunkView, no_size, is_last, too_large, no_bytes, is_part, num_view, text_view, chunk_view}
use Rattle.layouts.proofs.Judge.{noted_room}

-- the same end or the same refusal
pub data SameWay : Result ℕ → Result Ended → Type 0 where
  both_end : (r : Record) (e : ℕ) → SameWay (ok e) (ok (record { found = r; ends = e }))
  both_refuse : (which place : ℕ) → SameWay (refused which place 0) (refused which place 0)

module _ (s : List ℕ) (slots room : ℕ) where
  -- what is left of the room is enough for what remains from a place on
  abbrev Roomy : (at : ℕ) → Record → Type 0
  Roomy at r = r.payload + length s ≤ room + at

  lower_num : (i : Target) (at n : ℕ) (r : Record) (f f' : ℕ → Pieces) {m : Num} → NumView (length s) n at m
      → SameWay (skip_of (f n)) (judge_of s slots room (noted r i n) (f' n)) → SameWay (skip_of (after_num m i at f)) (judge_of s slots room r (after_num m i at f'))
  unfolding after_num skip_of judge_of
  lower_num i at n r f f' (is_value h) g = g
  lower_num i at n r f f' (is_short h) g = both_refuse 1 at

  lower_text : (m : Role) (at n : ℕ) (r : Record) (f f' : ℕ → Pieces) {x : Text} → TextView (length s) n at x
      → ((next : ℕ) → at ≤ next → SameWay (skip_of (f next)) (judge_of s slots room (entered r passed) (f' next)))
      → SameWay (skip_of (after_text x m f)) (judge_of s slots room r (after_text x passed f'))
  unfolding after_text skip_of judge_of text_taken half_taken not_text
  lower_text m at n r f f' (no_length h) g = both_refuse 1 at
  lower_text m at n r f f' (too_long_there h l) g = both_refuse 2 at
  lower_text m at n r f f' (no_contents h l c) g = both_refuse 1 (at + 8)
  lower_text m at n r f f' (no_padding h l c) g = both_refuse 1 (at + 8 + n)
  lower_text m at n r f f' (is_whole h l) g = g (at + 8 + n + pad_of n) (omega arith)

  lower_chunk : (at n : ℕ) (r : Record) (again again' f f' : ℕ → Pieces) {x : Chunk} → ChunkView (length s) n at x → Roomy at r
      → ((next : ℕ) (r : Record) → Roomy next r → SameWay (skip_of (again next)) (judge_of s slots room r (again' next)))
      → ((next : ℕ) (r : Record) → Roomy next r → SameWay (skip_of (f next)) (judge_of s slots room r (f' next)))
      → SameWay (skip_of (after_chunk x again f)) (judge_of s slots room r (after_chunk x again' f'))
  unfolding after_chunk skip_of judge_of chunk_taken
  lower_chunk at n r again again' f f' (no_size h) q g j = both_refuse 1 at
  lower_chunk at n r again again' f f' (is_last h z) q g j = j (at + 8) r (omega arith)
  lower_chunk at n r again again' f f' (too_large h l) q g j = both_refuse 2 at
  lower_chunk at n r again again' f f' (no_bytes h z l c) q g j = both_refuse 1 (at + 8)
  lower_chunk at n r again again' f f' (is_part h z l) q g j =
      rw (le-leb (r.payload + n) room (omega arith)) (g (at + 8 + n) (with_payload r (r.payload + n)) (omega arith))

  lower_chunks : (fuel at : ℕ) (r : Record) (f f' : ℕ → Pieces) → Roomy at r
      → ((next : ℕ) (r : Record) → Roomy next r → SameWay (skip_of (f next)) (judge_of s slots room r (f' next)))
      → SameWay (skip_of (chunks fuel s at f)) (judge_of s slots room r (chunks fuel s at f'))
  unfolding chunks skip_of judge_of
  lower_chunks zero at r f f' q g = both_refuse 1 at
  lower_chunks (suc fuel) at r f f' q g =
      lower_chunk at (number_at s at) r (λ a. chunks fuel s a f) (λ a. chunks fuel s a f') f f' (chunk_view (length s) (number_at s at) at) q
      (λ a r p. lower_chunks fuel a r f f' p g) g

  pub lower_alike : (t : Tree) (at : ℕ) (r : Record) → r.payload + length s ≤ room + at → SameWay (skip_of (run t s at)) (judge_of s slots room r (run (lower_case t) s at))
  unfolding run skip_of judge_of entered
  lower_alike (ask i k) at r q =
      let n = number_at s at in
      let z = noted_room r i n in
      lower_num i at n r (λ n. run (k n) s (at + 8)) (λ n. run (lower_case (k n)) s (at + 8)) (num_view (length s) n at)
      (lower_alike (k n) (at + 8) (noted r i n) (omega arith))
  lower_alike (say m k) at r q =
      lower_text m at (number_at s at) r (λ a. run (k tt) s a) (λ a. run (lower_case (k tt)) s a) (text_view (length s) (number_at s at) at)
      (λ a l. lower_alike (k tt) a (entered r passed) (omega arith))
  lower_alike (frames k) at r q =
      lower_chunks (suc (length s)) at r (λ a. run (k tt) s a) (λ a. run (lower_case (k tt)) s a) q (λ a r p. lower_alike (k tt) a r p)
  lower_alike (fail which back) at r q = both_refuse which (at - back)
  lower_alike stop at r q = both_end r at
