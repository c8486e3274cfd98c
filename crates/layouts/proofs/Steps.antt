-- What `run` does at each node, with the reason: all that a walk in code has to know of it. No bound on chunks is left.
use Prim.Native.Nat.{ℕ, zero, suc, ◌+◌, ◌≤◌, ◌<◌}
use mathlib.Core.Path.{◌≡◌, refl, ◌∙◌, ap}
use mathlib.Core.List.{List}
use lib.ListN.{length}
use native.Mathlib.Omega.{arith}
use Rattle.layouts.specs.Primitive.{number_at, pad_of}
use Rattle.layouts.specs.Shape.{Target, Role, Tree, ask, say, frames}
use Rattle.layouts.specs.Pieces.{Pieces, number, text, half, chunk, fault, Text, Chunk, text_of, chunk_of, after_text, after_chunk, chunks, run}
use Rattle.layouts.proofs.Views.{ChunkView, no_size, is_last, too_large, no_bytes, is_part, chunk_view, num_value, num_short, text_short, text_long, text_contents, text_cut, text_whole, chunk_short, chunk_long, chunk_cut, chunk_part, chunk_last}

-- any two bounds on the chunks will do, if they are large enough
same_chunk : (size n at : ℕ) {m : Chunk} (again again' k : ℕ → Pieces) → ChunkView size n at m
    → ((at' : ℕ) → at < at' → at' ≤ size → again' at' ≡ again at') → after_chunk m again' k ≡ after_chunk m again k
unfolding after_chunk
same_chunk size n at again again' k (no_size h) f = refl
same_chunk size n at again again' k (is_last h z) f = refl
same_chunk size n at again again' k (too_large h l) f = refl
same_chunk size n at again again' k (no_bytes h z l c) f = refl
same_chunk size n at again again' k (is_part h z l) f = ap (λ (p : Pieces). chunk (at + 8) n p) (f (at + 8 + n) (omega arith) h)

same_chunks : (f g : ℕ) (s : List ℕ) (at : ℕ) (k : ℕ → Pieces) → length s < f + at → length s < g + at → at ≤ length s → chunks f s at k ≡ chunks g s at k
unfolding chunks
same_chunks zero g s at k p q h = absurd (omega arith)
same_chunks (suc f) zero s at k p q h = absurd (omega arith)
same_chunks (suc f) (suc g) s at k p q h =
    same_chunk (length s) (number_at s at) at (λ a. chunks g s a k) (λ a. chunks f s a k) k (chunk_view (length s) (number_at s at) at)
    (λ a m l. same_chunks f g s a k (omega arith) (omega arith) l)

module _ (s : List ℕ) (at n : ℕ) (e : n ≡ number_at s at) where
  module _ (i : Target) (k : ℕ → Tree) where
    pub ask_short : length s < at + 8 → run (ask i k) s at ≡ fault 1 at
    unfolding run
    ask_short h = rw (num_short (length s) (number_at s at) at h)

    pub ask_value : at + 8 ≤ length s → run (ask i k) s at ≡ number i at n (run (k n) s (at + 8))
    unfolding run
    ask_value h = rw (← e, num_value (length s) n at h)

  module _ (r : Role) (k : Unit {0} → Tree) where
    say_as : (m : Text) → text_of (length s) n at ≡ m → run (say r k) s at ≡ after_text m r (λ a. run (k tt) s a)
    unfolding run
    say_as m q = rw (← e, q)

    pub say_short : length s < at + 8 → run (say r k) s at ≡ fault 1 at
    unfolding after_text
    say_short h = say_as _ (text_short (length s) n at h)

    pub say_long : at + 8 ≤ length s → 268435456 < n → run (say r k) s at ≡ fault 2 at
    unfolding after_text
    say_long h l = say_as _ (text_long (length s) n at h l)

    pub say_cut : at + 8 ≤ length s → n ≤ 268435456 → length s < at + 8 + n → run (say r k) s at ≡ fault 1 (at + 8)
    unfolding after_text
    say_cut h l c = say_as _ (text_contents (length s) n at l h c)

    pub say_half : at + 8 + n ≤ length s → n ≤ 268435456 → length s < at + 8 + n + pad_of n → run (say r k) s at ≡ half r (at + 8) n
    unfolding after_text
    say_half h l c = say_as _ (text_cut (length s) n at l h c)

    pub say_whole : at + 8 + n + pad_of n ≤ length s → n ≤ 268435456 → run (say r k) s at ≡ text r (at + 8) n (run (k tt) s (at + 8 + n + pad_of n))
    unfolding after_text
    say_whole h l = say_as _ (text_whole (length s) n at l h)

  module _ (k : Unit {0} → Tree) where
    frames_as : (m : Chunk) → chunk_of (length s) n at ≡ m → run (frames k) s at ≡ after_chunk m (λ a. chunks (length s) s a (λ b. run (k tt) s b)) (λ a. run (k tt) s a)
    unfolding run
    frames_as m q = rw (← e, q)

    pub frames_short : length s < at + 8 → run (frames k) s at ≡ fault 1 at
    unfolding after_chunk
    frames_short h = frames_as _ (chunk_short (length s) n at h)

    pub frames_last : at + 8 ≤ length s → n ≡ 0 → run (frames k) s at ≡ run (k tt) s (at + 8)
    unfolding after_chunk
    frames_last h z = frames_as _ (chunk_last (length s) n at h z)

    pub frames_long : at + 8 ≤ length s → 268435456 < n → run (frames k) s at ≡ fault 2 at
    unfolding after_chunk
    frames_long h l = frames_as _ (chunk_long (length s) n at h l)

    pub frames_cut : at + 8 ≤ length s → 0 < n → n ≤ 268435456 → length s < at + 8 + n → run (frames k) s at ≡ fault 1 (at + 8)
    unfolding after_chunk
    frames_cut h z l c = frames_as _ (chunk_cut (length s) n at l h z c)

    pub frames_part : at + 8 + n ≤ length s → 0 < n → n ≤ 268435456 → run (frames k) s at ≡ chunk (at + 8) n (run (frames k) s (at + 8 + n))
    unfolding after_chunk run
    frames_part h z l =
        frames_as _ (chunk_part (length s) n at l z h)
        ∙ ap (λ (p : Pieces). chunk (at + 8) n p) (same_chunks (length s) (suc (length s)) s (at + 8 + n) (λ b. run (k tt) s b) (omega arith) (omega arith) h)
