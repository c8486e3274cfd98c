-- Numbers alone decide the pieces: a stream of the same length that agrees with s wherever no byte is soft has the pieces of s, and after their end
-- it is s.
use Prim.Native.Nat.{ℕ, zero, suc, ◌+◌, ◌≤◌, ◌<◌}
use mathlib.Core.Path.{◌≡◌, refl, sym, ◌∙◌, ap}
use mathlib.Core.List.{List}
use mathlib.Core.Bool.{false}
use lib.ListN.{length, get_or, drop, length-drop, get_or-eq_default}
use lib.Seq.{get_or-drop, ext_get_or}
use native.Mathlib.Omega.{arith}
use native.Mathlib.Decide.{dec_lt}
use Rattle.layouts.specs.Primitive.{number_at, pad_of, ok}
use Rattle.layouts.specs.Shape.{Target, Role, Tree, ask, say, frames, fail, stop}
use Rattle.layouts.specs.Pieces.{Pieces, number, text, chunk, Num, Text, Chunk, after_num, after_text, after_chunk, chunks, run, skip_of}
use Rattle.layouts.specs.Soft.{soft, Softened}
use Rattle.layouts.proofs.Little.{number_same}
use Rattle.layouts.proofs.Views.{NumView, is_value, is_short, TextView, no_length, too_long_there, no_contents, no_padding, is_whole, ChunkView, no_size, is_last, too_large, no_bytes, is_part, num_view, text_view, chunk_view}
use Rattle.layouts.proofs.Placed.{Placed, run_placed, chunks_placed, ends, soft_low, soft_high, past_soft, never_both}

-- before the end, if the pieces have one
abbrev pub Before : Pieces → ℕ → Type 0
Before p x = (e : ℕ) → skip_of p ≡ ok e → x < e

-- G holds from a place on, up to the end, wherever no byte of the pieces is soft
abbrev pub Hard : (ℕ → Type 0) → ℕ → Pieces → Type 0
Hard G at p = (x : ℕ) → at ≤ x → Before p x → soft p x ≡ false → G x

-- a number is read before the end
module _ {F : Type 0} (size n at e : ℕ) where
  num_past : (i : Target) {m : Num} (k : ℕ → Pieces) → NumView size n at m → (at + 8 ≤ size → Placed F size (at + 8) (k n)) → skip_of (after_num m i at k) ≡ ok e → at + 8 ≤ e
  unfolding after_num skip_of
  num_past i k (is_value h) f q = (ends e (f h) q).0
  num_past i k (is_short h) f q = absurd (never_both q)

  text_past : (r : Role) {m : Text} (k : ℕ → Pieces) → TextView size n at m → ((at' : ℕ) → at' ≤ size → Placed F size at' (k at')) → skip_of (after_text m r k) ≡ ok e
      → at + 8 ≤ e
  unfolding after_text skip_of
  text_past r k (no_length h) f q = absurd (never_both q)
  text_past r k (too_long_there h l) f q = absurd (never_both q)
  text_past r k (no_contents h l c) f q = absurd (never_both q)
  text_past r k (no_padding h l c) f q = absurd (never_both q)
  text_past r k (is_whole h l) f q = let z = ends e (f (at + 8 + n + pad_of n) h) q in omega arith

  chunk_past : {m : Chunk} (again k : ℕ → Pieces) → ChunkView size n at m → ((at' : ℕ) → at' ≤ size → Placed F size at' (again at'))
      → ((at' : ℕ) → at' ≤ size → Placed F size at' (k at')) → skip_of (after_chunk m again k) ≡ ok e → at + 8 ≤ e
  unfolding after_chunk skip_of
  chunk_past again k (no_size h) f g q = absurd (never_both q)
  chunk_past again k (is_last h z) f g q = (ends e (g (at + 8) h) q).0
  chunk_past again k (too_large h l) f g q = absurd (never_both q)
  chunk_past again k (no_bytes h z l c) f g q = absurd (never_both q)
  chunk_past again k (is_part h z l) f g q = let y = ends e (f (at + 8 + n) h) q in omega arith

module _ (size n at : ℕ) {G : ℕ → Type 0} where
  same_num : (i : Target) {m : Num} (k k' : ℕ → Pieces) → NumView size n at m → Hard G at (after_num m i at k)
      → (at + 8 ≤ size → Hard G (at + 8) (k n) → k' n ≡ k n) → after_num m i at k' ≡ after_num m i at k
  unfolding after_num soft skip_of
  same_num i k k' (is_value h) a f = ap (number i at n) (f h (λ x g b q. a x (omega arith) b q))
  same_num i k k' (is_short h) a f = refl

  same_text : (r : Role) {m : Text} (k k' : ℕ → Pieces) → TextView size n at m → Hard G at (after_text m r k)
      → ((at' : ℕ) → at' ≤ size → Hard G at' (k at') → k' at' ≡ k at') → after_text m r k' ≡ after_text m r k
  unfolding after_text soft skip_of
  same_text r k k' (no_length h) a f = refl
  same_text r k k' (too_long_there h l) a f = refl
  same_text r k k' (no_contents h l c) a f = refl
  same_text r k k' (no_padding h l c) a f = refl
  same_text r k k' (is_whole h l) a f =
      let e = at + 8 + n + pad_of n in
      ap (text r (at + 8) n) (f e h (λ x g b q. a x (omega arith) b (past_soft (at + 8) e x g q)))

  same_chunk : {m : Chunk} (again again' k k' : ℕ → Pieces) → ChunkView size n at m → Hard G at (after_chunk m again k)
      → ((at' : ℕ) → at' ≤ size → Hard G at' (again at') → again' at' ≡ again at')
      → ((at' : ℕ) → at' ≤ size → Hard G at' (k at') → k' at' ≡ k at') → after_chunk m again' k' ≡ after_chunk m again k
  unfolding after_chunk soft skip_of
  same_chunk again again' k k' (no_size h) a f g = refl
  same_chunk again again' k k' (is_last h z) a f g = g (at + 8) h (λ x l b q. a x (omega arith) b q)
  same_chunk again again' k k' (too_large h l) a f g = refl
  same_chunk again again' k k' (no_bytes h z l c) a f g = refl
  same_chunk again again' k k' (is_part h z l) a f g =
      let e = at + 8 + n in
      ap (chunk (at + 8) n) (f e h (λ x l b q. a x (omega arith) b (past_soft (at + 8) e x l q)))

module _ (s s' : List ℕ) (same : length s' ≡ length s) where
  abbrev pub Agrees : ℕ → Type 0
  Agrees x = get_or s' x 0 ≡ get_or s x 0

  -- the number at the place where pieces begin
  number_hard : {F : Type 0} (at : ℕ) {p : Pieces} → Placed F (length s) at p → ((e : ℕ) → skip_of p ≡ ok e → at + 8 ≤ e) → Hard Agrees at p
      → number_at s' at ≡ number_at s at
  number_hard at h b a = number_same s s' at (λ x g l. a x g (λ e q. let z = b e q in omega arith) (soft_low x h l))

  same_chunks : {F : Type 0} (f at : ℕ) (k k' : ℕ → Pieces) → ((at' : ℕ) → at' ≤ length s → Placed F (length s) at' (k at'))
      → Hard Agrees at (chunks f s at k) → ((at' : ℕ) → at' ≤ length s → Hard Agrees at' (k at') → k' at' ≡ k at') → chunks f s' at k' ≡ chunks f s at k
  unfolding chunks
  same_chunks zero at k k' p a g = refl
  same_chunks (suc f) at k k' p a g =
      let v = chunk_view (length s) (number_at s at) at in
      let w =
      number_hard at (chunks_placed s (suc f) at k p)
      (λ e q. chunk_past (length s) (number_at s at) at e (λ at'. chunks f s at' k) k v (λ at' h. chunks_placed s f at' k p) p q) a in
      rw (same, w)
      (same_chunk (length s) (number_at s at) at (λ at'. chunks f s at' k) (λ at'. chunks f s' at' k') k k' (chunk_view (length s) (number_at s at) at) a
      (λ at' h b. same_chunks f at' k k' p b g) g)

  pub same_run : (t : Tree) (at : ℕ) → at ≤ length s → Hard Agrees at (run t s at) → run t s' at ≡ run t s at
  unfolding run
  same_run (ask i k) at h a =
      let v = num_view (length s) (number_at s at) at in
      let w =
      number_hard at (run_placed (ask i k) s at h)
      (λ e q. num_past (length s) (number_at s at) at e i (λ n. run (k n) s (at + 8)) v (λ g. run_placed (k (number_at s at)) s (at + 8) g) q) a in
      rw (same, w)
      (same_num (length s) (number_at s at) at i (λ n. run (k n) s (at + 8)) (λ n. run (k n) s' (at + 8)) (num_view (length s) (number_at s at) at) a
      (λ g b. same_run (k (number_at s at)) (at + 8) g b))
  same_run (say r k) at h a =
      let v = text_view (length s) (number_at s at) at in
      let w =
      number_hard at (run_placed (say r k) s at h)
      (λ e q. text_past (length s) (number_at s at) at e r (λ at'. run (k tt) s at') v (λ at' g. run_placed (k tt) s at' g) q) a in
      rw (same, w)
      (same_text (length s) (number_at s at) at r (λ at'. run (k tt) s at') (λ at'. run (k tt) s' at') (text_view (length s) (number_at s at) at) a
      (λ at' g b. same_run (k tt) at' g b))
  same_run (frames k) at h a =
      ap (λ f. chunks (suc f) s' at (λ at'. run (k tt) s' at')) same
      ∙ same_chunks (suc (length s)) at (λ at'. run (k tt) s at') (λ at'. run (k tt) s' at') (λ at' g. run_placed (k tt) s at' g) a
      (λ at' g b. same_run (k tt) at' g b)
  same_run (fail which back) at h a = refl
  same_run stop at h a = refl

  -- past the end every stream reads 0
  pub in_or_out : (x : ℕ) → Dec (x < length s) → (x < length s → Agrees x) → Agrees x
  in_or_out x (yes h) a = a h
  in_or_out x (no h) a = get_or-eq_default s' 0 {n = x} (omega arith) ∙ sym (get_or-eq_default s 0 {n = x} (omega arith))

pub soft_run_at : (t : Tree) (s s' : List ℕ) (at : ℕ) → at ≤ length s → length s' ≡ length s
    → ((x : ℕ) → at ≤ x → x < length s → Before (run t s at) x → soft (run t s at) x ≡ false → get_or s' x 0 ≡ get_or s x 0) → run t s' at ≡ run t s at
soft_run_at t s s' at h same a = same_run s s' same t at h (λ x g b q. in_or_out s s' same x (dec_lt x (length s)) (λ l. a x g l b q))

-- two streams that are as long and agree from a place on are the same from there on
pub same_drop : (s s' : List ℕ) (e : ℕ) → length s' ≡ length s → ((x : ℕ) → e ≤ x → x < length s → get_or s' x 0 ≡ get_or s x 0) → drop e s' ≡ drop e s
same_drop s s' e same a =
    let l : length (drop e s') ≡ length (drop e s) = simp (length-drop, same) in
    ext_get_or 0 (drop e s') (drop e s) l
    (λ i h. let m = length-drop e s in get_or-drop e s' i 0 ∙ a (e + i) (omega arith) (omega arith) ∙ sym (get_or-drop e s i 0))

-- s' is as s but for soft bytes of what the tree has from a place on
module _ (t : Tree) (s s' : List ℕ) (at : ℕ) (h : at ≤ length s) (a : Softened (run t s at) s s') where
  -- the pieces are decided by numbers alone
  pub soft_run_from : run t s' at ≡ run t s at
  soft_run_from = soft_run_at t s s' at h a.size (λ x g l b q. a.hard x l q)

  -- what follows is as before
  pub soft_rest_from : (e : ℕ) → skip_of (run t s at) ≡ ok e → drop e s' ≡ drop e s
  soft_rest_from e q = same_drop s s' e a.size (λ x g l. a.hard x l (soft_high e x (run_placed t s at h) q g))

-- the same from the start
pub soft_run : (t : Tree) (s s' : List ℕ) → Softened (run t s 0) s s' → run t s' 0 ≡ run t s 0
soft_run t s s' a = soft_run_from t s s' 0 (omega arith) a

pub soft_rest : (t : Tree) (s s' : List ℕ) (e : ℕ) → Softened (run t s 0) s s' → skip_of (run t s 0) ≡ ok e → drop e s' ≡ drop e s
soft_rest t s s' e a q = soft_rest_from t s s' 0 (omega arith) a e q
