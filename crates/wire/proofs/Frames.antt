-- Framed data: its chunks judged and joined; and a stream is room enough for its own chunks.
use Prim.Native.Nat.{ℕ, zero, suc, ◌+◌, ◌≤◌}
use mathlib.Core.Path.{◌≡◌, refl, sym, ◌∙◌, ap}
use mathlib.Core.List.{List}
use lib.ListN.{length}
use lib.Seq.{sets}
use borrow.Author.Tests.{le-leb}
use native.Mathlib.Omega.{arith}
use native.Mathlib.Decide.{dec_le}
use Rattle.layouts.specs.declared.Record.{Record}
use Rattle.layouts.specs.declared.Refusal.{Refusal}
use Rattle.layouts.specs.Primitive.{number_at, version, Result, ok, refused, onward}
use Rattle.layouts.specs.Refusal.{refused_by}
use Rattle.layouts.specs.Shape.{frames, stop}
use Rattle.layouts.specs.Pieces.{Pieces, Chunk, after_chunk, chunks, end, run, skip_of, total_of}
use Rattle.layouts.specs.Record.{blank, with_number, with_payload}
use Rattle.layouts.specs.Judge.{chunk_taken, Ended, judge_of, payload_of, lent_after}
use Rattle.layouts.specs.Calls.{read_framed, skip_framed}
use Rattle.layouts.proofs.Views.{ChunkView, no_size, is_last, too_large, no_bytes, is_part, chunk_view}
use Rattle.layouts.proofs.Steps.{frames_short}
use Rattle.layouts.proofs.Placed.{Placed, on_number_lem, on_text, on_half, on_chunk, on_end, on_fault, run_placed}
use Rattle.layouts.proofs.Judge.{payload_length, judge_read}
use Rattle.pieces.proofs.Fields.{field_framed}
use Rattle.table.specs.Packed.{framed_data}
use Rattle.table.specs.Claims.{others}
use Rattle.walk_items.specs.Items.{version_of, first_of}
use Rattle.walk_items.proofs.Trees.{tree_of}
use Rattle.walk_take.specs.Taking.{TakesFrames, frames_to}
use Rattle.walk_rooms.specs.Rooms.{filled_after}
use Rattle.walk_rooms.proofs.Laws.{fitting}
use Rattle.walk_fill.specs.There.{pieces_there}
use Rattle.walk_fill.proofs.There.{layout_there}
use Rattle.wire.specs.declared.Cursor.{Cursor}
use Rattle.wire.specs.Answers.{number_read, total_read, framed_payload}
use Rattle.walk_take.specs.declared.Series.{Series}
use Rattle.wire.specs.declared.Read.{Read}
use Rattle.std.specs.Prelude as Std
use Rattle.std.specs.Prelude.{Ok, Err}

abbrev frames_from : List ℕ → (at : ℕ) → Pieces
frames_from s at = run (frames (λ u. stop)) s at

-- a total as number 0, and as payload
abbrev numbered : Ended → Result Ended
numbered x = ok (record { found = with_number blank 0 x.found.payload; ends = x.ends })

abbrev paid : (total ends : ℕ) → Result Ended
paid total ends = ok (record { found = with_payload blank total; ends = ends })

-- ---- judged
module _ (s : List ℕ) (at room : ℕ) (o : Std.Result Series Refusal) (t : TakesFrames s room at 0 o) where
  framed_as : (o' : Std.Result Series Refusal) → o ≡ o' → frames_to s 0 room blank (λ u. stop) o' ≡ read_framed s at room
  framed_as o' g = rw field_framed (sym (t.judges 0 (λ u. stop) blank refl ∙ ap (frames_to s 0 room blank (λ u. stop)) g))

  pub framed_refused : (x : Refusal) → o ≡ Err x → refused_by x ≡ read_framed s at room
  framed_refused x g = framed_as (Err x) g

  pub framed_judged : (next total : ℕ) → o ≡ Ok (record { at = next; entries = total }) → paid total next ≡ read_framed s at room
  unfolding judge_of run
  framed_judged next total g = framed_as (Ok (record { at = next; entries = total })) g

-- ---- skipping has no limit but the stream
module _ (s : List ℕ) where
  total_fits : {G : Type 0} {hi lo : ℕ} {p : Pieces} → lo ≤ hi → Placed G hi lo p → lo + total_of p ≤ hi
  unfolding total_of
  total_fits l (on_number_lem lo place a b h) = let z = total_fits b h in omega arith
  total_fits l (on_text lo start len a b h) = let z = total_fits b h in omega arith
  total_fits l (on_half lo start len a b) = omega arith
  total_fits l (on_chunk lo start len a b h) = let z = total_fits b h in omega arith
  total_fits l (on_end lo place a b) = omega arith
  total_fits l (on_fault lo place a) = omega arith

  -- the total is the payload's length, and no more than the stream
  pub frames_total : (at : ℕ) → Dec (at ≤ length s) → (total_of (frames_from s at) ≤ length s) × (length (payload_of s (frames_from s at)) ≡ total_of (frames_from s at))
  unfolding total_of payload_of
  frames_total at (yes h) = let p = run_placed (frames (λ u. stop)) s at h in let z = total_fits h p in (omega arith, payload_length s p)
  frames_total at (no h) = rw (frames_short s at (number_at s at) refl (λ u. stop) (omega arith)) (omega arith, refl)

  abbrev Alike : (room : ℕ) → Record → Pieces → Type 0
  Alike room x p = x.payload + total_of p ≤ room → judge_of s 0 room x p ≡ onward (skip_of p) (λ e. ok (record { found = with_payload x (x.payload + total_of p); ends = e }))

  chunk_alike : (room at : ℕ) {c : Chunk} (x : Record) (again : ℕ → Pieces) → ChunkView (length s) (number_at s at) at c
      → ((y : Record) (a : ℕ) → Alike room y (again a)) → Alike room x (after_chunk c again (λ a. end a))
  unfolding after_chunk judge_of skip_of total_of chunk_taken
  chunk_alike room at x again (no_size h) f q = refl
  chunk_alike room at x again (is_last h z) f q = ap (λ (t : ℕ). ok (record { found = with_payload x t; ends = at + 8 })) (omega arith)
  chunk_alike room at x again (too_large h l) f q = refl
  chunk_alike room at x again (no_bytes h z l c) f q = refl
  chunk_alike room at x again (is_part h z l) f q =
      let n = number_at s at in
      let p = again (at + 8 + n) in
      let g : x.payload + n ≤ room = omega arith in
      rw (le-leb (x.payload + n) room g)
      (f (with_payload x (x.payload + n)) (at + 8 + n) (omega arith)
      ∙ ap (λ (t : ℕ). onward (skip_of p) (λ e. ok (record { found = with_payload x t; ends = e }))) (omega arith))

  chunks_alike : (room k at : ℕ) (x : Record) → Alike room x (chunks k s at (λ a. end a))
  unfolding chunks judge_of skip_of
  chunks_alike room zero at x q = refl
  chunks_alike room (suc k) at x q =
      chunk_alike room at x (λ a. chunks k s a (λ b. end b)) (chunk_view (length s) (number_at s at) at) (λ y a. chunks_alike room k a y) q

  total_on : (o : Result ℕ) (t : ℕ)
      → onward (onward o (paid (0 + t))) numbered
      ≡ onward o (λ e. ok (record { found = with_number blank 0 t; ends = e }))
  total_on (ok e) t = ap (λ (x : ℕ). ok (record { found = with_number blank 0 x; ends = e })) (omega arith)
  total_on (refused which place stream) t = refl

  pub skip_frames : (at : ℕ) → onward (read_framed s at (length s)) numbered ≡ skip_framed s at
  unfolding run
  skip_frames at =
      let t = frames_total at (dec_le at (length s)) in
      rw field_framed
      (ap (λ (o : Result Ended). onward o numbered) (chunks_alike (length s) (suc (length s)) at blank (omega arith))
      ∙ total_on (skip_of (frames_from s at)) (total_of (frames_from s at)))

-- the total of frames as number 0
total_number : (r : Std.Result Read Refusal) → number_read r ≡ onward (total_read r) numbered
total_number (Ok k) = refl
total_number (Err r) = refl

pub framed_skip : (s : List ℕ) (at : ℕ) (r : Std.Result Read Refusal) → total_read r ≡ read_framed s at (length s) → number_read r ≡ skip_framed s at
framed_skip s at r e = total_number r ∙ ap (λ (o : Result Ended). onward o numbered) e ∙ skip_frames s at

-- ---- then joined
module _ (s : List ℕ) (at : ℕ) (lent : List ℕ) where
  abbrev answer : Result Ended
  answer = read_framed s at (length lent)

  framed_fits : (x : Ended) → answer ≡ ok x → length (framed_payload s at) ≤ length lent
  framed_fits x e =
      rw field_framed
      (let t = frames_total s at (dec_le at (length s)) in
      let j = (judge_read s 0 (length lent) blank (frames_from s at) x (rw field_framed at e)).fits (omega arith) (omega arith) in
      omega arith)

  module _ (o : Std.Result Read Refusal) (j : total_read o ≡ answer) where
    told : (o' : Std.Result Read Refusal) → o ≡ o' → total_read o' ≡ answer
    told o' q = ap total_read (sym q) ∙ j

    pub read_refused : (x : Refusal) → o ≡ Err x → (refused_by x ≡ answer) × (lent ≡ lent_after answer (framed_payload s at) lent)
    read_refused x q = let e = told (Err x) q in (e, ap (λ (o : Result Ended). lent_after o (framed_payload s at) lent) e)

    pub read_joined : (v : ℕ) (next : Cursor) → o ≡ Ok (record { value = v; next = next }) → (l : ℕ) → (version_of l ≡ version 0 0) × (first_of l ≡ framed_data)
        → (out : List ℕ) → out ≡ sets lent 0 (payload_of s (pieces_there l s at))
        → (total_read (Ok (record { value = v; next = next })) ≡ answer) × (out ≡ lent_after answer (framed_payload s at) lent)
    read_joined v next q l w out h =
        let e = told (Ok (record { value = v; next = next })) q in
        let g = layout_there l (tree_of l (version 0 0) framed_data w ∙ sym others.chunks) s at 0 (length lent) blank _ (sym e) in
        (e, h ∙ ap (λ (p : Pieces). sets lent 0 (payload_of s p)) g ∙ ap (λ (o : Result Ended). filled_after o (framed_payload s at) lent) e ∙ fitting answer (framed_payload s at) lent framed_fits)
