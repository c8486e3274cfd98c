-- A layout that is passed to an end e, over another stream that has the same bytes below e as far as it goes: the same pieces if it has e bytes, and else a beginning of
-- them and then refusal 1. Every tree, from any place.
use Prim.Native.Nat.{ℕ, zero, suc, ◌+◌, ◌≤◌, ◌<◌}
use mathlib.Core.Path.{◌≡◌, refl, ap}
use mathlib.Core.List.{List}
use lib.ListN.{length, get_or}
use native.Mathlib.Omega.{arith}
use native.Mathlib.Decide.{dec_le}
use Rattle.layouts.specs.Primitive.{number_at, pad_of, cut_short, ok}
use Rattle.layouts.specs.Shape.{Target, Role, Tree, ask, say, frames, fail, stop}
use Rattle.layouts.specs.Pieces.{Pieces, number, text, half, chunk, fault, Num, Text, Chunk, num_of, text_of, chunk_of, after_num, after_text, after_chunk, chunks, run, skip_of}
use Rattle.layouts.proofs.Little.{number_same}
use Rattle.layouts.proofs.Views.{NumView, is_value, is_short, TextView, no_length, too_long_there, no_contents, no_padding, is_whole, ChunkView, no_size, is_last, too_large, no_bytes, is_part, num_view, text_view, chunk_view, num_value, num_short, text_short, text_contents, text_cut, text_whole, chunk_short, chunk_cut, chunk_part, chunk_last}
use Rattle.layouts.proofs.Placed.{never_both, Placed, run_placed, chunks_placed, ends}

-- q begins as p does, and is then refused by 1: before a piece of p, or in the padding of a string
pub data Cut : (p q : Pieces) → Type 0 where
  cut_here : {p : Pieces} (place : ℕ) → Cut p (fault cut_short place)
  cut_half : {m : Role} {start len : ℕ} {p : Pieces} → Cut (text m start len p) (half m start len)
  cut_number : {i : Target} {place n : ℕ} {p q : Pieces} → Cut p q → Cut (number i place n p) (number i place n q)
  cut_text : {m : Role} {start len : ℕ} {p q : Pieces} → Cut p q → Cut (text m start len p) (text m start len q)
  cut_chunk : {start len : ℕ} {p q : Pieces} → Cut p q → Cut (chunk start len p) (chunk start len q)

-- p ends at e, and q is what another stream has, of this size
pub record Follows (size e : ℕ) (p q : Pieces) : Type 0 where
  pub whole : e ≤ size → q ≡ p
  pub short : size < e → Cut p q

cut_off : {size e place : ℕ} {p : Pieces} → size < e → Follows size e p (fault cut_short place)
cut_off {place} l = record { whole = λ g. absurd (omega arith); short = λ g. cut_here place }

-- size' and n': the other stream's; its number is the same where all its bytes stand below e
module _ {F : Type 0} (size n at size' n' e : ℕ) (same : at + 8 ≤ size' → at + 8 ≤ e → n' ≡ n) where
  follow_num : (i : Target) {m : Num} (k k' : ℕ → Pieces) → NumView size n at m → (at + 8 ≤ size → Placed F size (at + 8) (k n)) → skip_of (after_num m i at k) ≡ ok e
      → (at + 8 ≤ size → at + 8 ≤ size' → skip_of (k n) ≡ ok e → Follows size' e (k n) (k' n)) → Dec (at + 8 ≤ size')
      → Follows size' e (after_num m i at k) (after_num (num_of size' n' at) i at k')
  unfolding after_num skip_of
  follow_num i k k' (is_value h) p q f (yes d) =
      let z = ends e (p h) q in
      let c = f h d q in
      rw (same d z.0, num_value size' n at d)
      (record { whole = λ g. ap (number i at n) (c.whole g); short = λ g. cut_number (c.short g) })
  follow_num i k k' (is_value h) p q f (no d) = let z = ends e (p h) q in rw (num_short size' n' at (omega arith)) (cut_off (omega arith))
  follow_num i k k' (is_short h) p q f d = absurd (never_both q)

  follow_text : (r : Role) {m : Text} (k k' : ℕ → Pieces) → TextView size n at m → ((at' : ℕ) → at' ≤ size → Placed F size at' (k at')) → skip_of (after_text m r k) ≡ ok e
      → ((at' : ℕ) → at' ≤ size → at' ≤ size' → skip_of (k at') ≡ ok e → Follows size' e (k at') (k' at'))
      → Dec (at + 8 ≤ size') → Dec (at + 8 + n ≤ size') → Dec (at + 8 + n + pad_of n ≤ size')
      → Follows size' e (after_text m r k) (after_text (text_of size' n' at) r k')
  unfolding after_text skip_of
  follow_text r k k' (no_length h) p q f b c d = absurd (never_both q)
  follow_text r k k' (too_long_there h l) p q f b c d = absurd (never_both q)
  follow_text r k k' (no_contents h l o) p q f b c d = absurd (never_both q)
  follow_text r k k' (no_padding h l o) p q f b c d = absurd (never_both q)
  follow_text r k k' (is_whole h l) p q f (no b) c d =
      let z = ends e (p (at + 8 + n + pad_of n) h) q in rw (text_short size' n' at (omega arith)) (cut_off (omega arith))
  follow_text r k k' (is_whole h l) p q f (yes b) (no c) d =
      let z = ends e (p (at + 8 + n + pad_of n) h) q in
      rw (same b (omega arith), text_contents size' n at l b (omega arith)) (cut_off (omega arith))
  follow_text r k k' (is_whole h l) p q f (yes b) (yes c) (no d) =
      let z = ends e (p (at + 8 + n + pad_of n) h) q in
      rw (same b (omega arith), text_cut size' n at l c (omega arith)) (record { whole = λ g. absurd (omega arith); short = λ g. cut_half })
  follow_text r k k' (is_whole h l) p q f (yes b) (yes c) (yes d) =
      let next = at + 8 + n + pad_of n in
      let z = ends e (p next h) q in
      let y = f next h d q in
      rw (same b (omega arith), text_whole size' n at l d)
      (record { whole = λ g. ap (text r (at + 8) n) (y.whole g); short = λ g. cut_text (y.short g) })

  follow_chunk : {m : Chunk} (again again' k k' : ℕ → Pieces) → ChunkView size n at m → ((at' : ℕ) → at' ≤ size → Placed F size at' (again at'))
      → ((at' : ℕ) → at' ≤ size → Placed F size at' (k at')) → skip_of (after_chunk m again k) ≡ ok e
      → ((at' : ℕ) → at < at' → at' ≤ size → at' ≤ size' → skip_of (again at') ≡ ok e → Follows size' e (again at') (again' at'))
      → ((at' : ℕ) → at' ≤ size → at' ≤ size' → skip_of (k at') ≡ ok e → Follows size' e (k at') (k' at'))
      → Dec (at + 8 ≤ size') → Dec (at + 8 + n ≤ size')
      → Follows size' e (after_chunk m again k) (after_chunk (chunk_of size' n' at) again' k')
  unfolding after_chunk skip_of
  follow_chunk again again' k k' (no_size h) p t q f g b c = absurd (never_both q)
  follow_chunk again again' k k' (too_large h l) p t q f g b c = absurd (never_both q)
  follow_chunk again again' k k' (no_bytes h z l o) p t q f g b c = absurd (never_both q)
  follow_chunk again again' k k' (is_last h o) p t q f g (no b) c =
      let z = ends e (t (at + 8) h) q in rw (chunk_short size' n' at (omega arith)) (cut_off (omega arith))
  follow_chunk again again' k k' (is_last h o) p t q f g (yes b) c =
      let z = ends e (t (at + 8) h) q in rw (same b z.0, chunk_last size' n at b o) (g (at + 8) h b q)
  follow_chunk again again' k k' (is_part h o l) p t q f g (no b) c =
      let z = ends e (p (at + 8 + n) h) q in rw (chunk_short size' n' at (omega arith)) (cut_off (omega arith))
  follow_chunk again again' k k' (is_part h o l) p t q f g (yes b) (no c) =
      let z = ends e (p (at + 8 + n) h) q in
      rw (same b (omega arith), chunk_cut size' n at l b o (omega arith)) (cut_off (omega arith))
  follow_chunk again again' k k' (is_part h o l) p t q f g (yes b) (yes c) =
      let z = ends e (p (at + 8 + n) h) q in
      let y = f (at + 8 + n) (omega arith) h c q in
      rw (same b (omega arith), chunk_part size' n at l o c)
      (record { whole = λ g. ap (chunk (at + 8) n) (y.whole g); short = λ g. cut_chunk (y.short g) })

module _ (s s' : List ℕ) (e : ℕ) (agree : (x : ℕ) → x < length s' → x < e → get_or s' x 0 ≡ get_or s x 0) where
  number_to : (at : ℕ) → at + 8 ≤ length s' → at + 8 ≤ e → number_at s' at ≡ number_at s at
  number_to at h g = number_same s s' at (λ x a b. agree x (omega arith) (omega arith))

  -- f and g bound the chunks; only the other stream's has to be large enough
  follow_chunks : {F : Type 0} (f g at : ℕ) (k k' : ℕ → Pieces) → ((at' : ℕ) → at' ≤ length s → Placed F (length s) at' (k at')) → at ≤ length s' → length s' < g + at
      → skip_of (chunks f s at k) ≡ ok e → ((at' : ℕ) → at' ≤ length s → at' ≤ length s' → skip_of (k at') ≡ ok e → Follows (length s') e (k at') (k' at'))
      → Follows (length s') e (chunks f s at k) (chunks g s' at k')
  unfolding chunks skip_of
  follow_chunks zero g at k k' p i l q h = absurd (never_both q)
  follow_chunks (suc f) zero at k k' p i l q h = absurd (omega arith)
  follow_chunks (suc f) (suc g) at k k' p i l q h =
      let n = number_at s at in
      follow_chunk (length s) n at (length s') (number_at s' at) e (number_to at)
      (λ at'. chunks f s at' k) (λ at'. chunks g s' at' k') k k' (chunk_view (length s) n at) (λ at' o. chunks_placed s f at' k p) p q
      (λ at' j m o t. follow_chunks f g at' k k' p o (omega arith) t h) h (dec_le (at + 8) (length s')) (dec_le (at + 8 + n) (length s'))

  -- both halves of it: one induction over trees
  pub follow_run : (t : Tree) (at : ℕ) → at ≤ length s → at ≤ length s' → skip_of (run t s at) ≡ ok e → Follows (length s') e (run t s at) (run t s' at)
  unfolding run skip_of
  follow_run (ask i k) at h l q =
      let n = number_at s at in
      follow_num (length s) n at (length s') (number_at s' at) e (number_to at)
      i (λ n. run (k n) s (at + 8)) (λ n. run (k n) s' (at + 8)) (num_view (length s) n at) (λ g. run_placed (k n) s (at + 8) g) q
      (λ g m t. follow_run (k n) (at + 8) g m t) (dec_le (at + 8) (length s'))
  follow_run (say r k) at h l q =
      let n = number_at s at in
      follow_text (length s) n at (length s') (number_at s' at) e (number_to at)
      r (λ at'. run (k tt) s at') (λ at'. run (k tt) s' at') (text_view (length s) n at) (λ at' g. run_placed (k tt) s at' g) q
      (λ at' g m t. follow_run (k tt) at' g m t)
      (dec_le (at + 8) (length s')) (dec_le (at + 8 + n) (length s')) (dec_le (at + 8 + n + pad_of n) (length s'))
  follow_run (frames k) at h l q =
      follow_chunks (suc (length s)) (suc (length s')) at (λ at'. run (k tt) s at') (λ at'. run (k tt) s' at') (λ at' g. run_placed (k tt) s at' g) l (omega arith) q
      (λ at' g m t. follow_run (k tt) at' g m t)
  follow_run (fail which back) at h l q = absurd (never_both q)
  follow_run stop at h l q = let z : at ≡ e = cc in record { whole = λ g. refl; short = λ g. absurd (omega arith) }
