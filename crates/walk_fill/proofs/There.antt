-- What `run_there` does at each node, with the reason; and that of a layout that was judged fine it has all pieces.
use Prim.Native.Nat.{ℕ, zero, suc, ◌+◌, ◌≤◌, ◌<◌}
use mathlib.Core.Path.{◌≡◌, refl, sym, ◌∙◌, ap}
use mathlib.Core.List.{List}
use lib.ListN.{length}
use lib.Dec.{eqb}
use borrow.Author.Tests.{le-leb, lt-leb, eq-eqb, ne_eqb}
use native.Mathlib.Omega.{arith}
use Rattle.layouts.specs.declared.Record.{Record}
use Rattle.layouts.specs.Primitive.{pick, number_at, pad_of, ok}
use Rattle.layouts.specs.Shape.{Target, Role, Tree, ask, say, frames, fail, stop}
use Rattle.layouts.specs.Pieces.{Pieces, number, text, chunk, Num, Text, Chunk, after_num, after_text, after_chunk, chunks, run, skip_of}
use Rattle.layouts.specs.Judge.{Ended, judge_of, entries_of, payload_of}
use Rattle.layouts.proofs.Views.{NumView, is_value, is_short, num_view, TextView, no_length, too_long_there, no_contents, no_padding, is_whole, text_view, ChunkView, no_size, is_last, too_large, no_bytes, is_part, chunk_view}
use Rattle.layouts.proofs.Placed.{never_both}
use Rattle.layouts.proofs.Judge.{judge_read}
use Rattle.walk_items.specs.Items.{layout_tree}
use Rattle.walk_fill.specs.There.{nothing, if_there, chunks_there, run_there, pieces_there}
use Rattle.walk_fill.specs.Fill.{Alike}

module _ (s : List ℕ) (place : ℕ) (p : Pieces) where
  there : place ≤ length s → if_there s place p ≡ p
  there h = rw (le-leb place (length s) h)

  not_there : length s < place → if_there s place p ≡ nothing
  not_there h = rw (lt-leb place (length s) h)

-- any two bounds on the chunks will do, if they are large enough
chunks_past : (f : ℕ) (s : List ℕ) (at : ℕ) (k : ℕ → Pieces) → length s < at + 8 → chunks_there f s at k ≡ nothing
unfolding chunks_there
chunks_past zero s at k h = refl
chunks_past (suc f) s at k h = not_there s _ _ (omega arith)

same_chunks : (f g : ℕ) (s : List ℕ) (at : ℕ) (k : ℕ → Pieces) → length s < f + at → length s < g + at → chunks_there f s at k ≡ chunks_there g s at k
unfolding chunks_there
same_chunks zero g s at k p q = sym (chunks_past g s at k (omega arith))
same_chunks (suc f) zero s at k p q = chunks_past (suc f) s at k (omega arith)
same_chunks (suc f) (suc g) s at k p q =
    ap (λ (x : Pieces). if_there s (at + 8 + number_at s at) (pick (eqb (number_at s at) 0) (k (at + 8)) (chunk (at + 8) (number_at s at) x)))
    (same_chunks f g s (at + 8 + number_at s at) k (omega arith) (omega arith))

-- ---- a node
module _ (s : List ℕ) (at n : ℕ) (e : n ≡ number_at s at) where
  pub ask_there : at + 8 ≤ length s → (i : Target) (k : ℕ → Tree) → run_there (ask i k) s at ≡ number i at n (run_there (k n) s (at + 8))
  unfolding run_there
  ask_there h i k = rw e (there s _ _ h)

  pub say_there : at + 8 + n + pad_of n ≤ length s → (r : Role) (k : Unit {0} → Tree) → run_there (say r k) s at ≡ text r (at + 8) n (run_there (k tt) s (at + 8 + n + pad_of n))
  unfolding run_there
  say_there h r k = rw e (there s _ _ (rw (← e) h))

  pub say_none : length s < at + 8 + n + pad_of n → (r : Role) (k : Unit {0} → Tree) → run_there (say r k) s at ≡ nothing
  unfolding run_there
  say_none h r k = not_there s _ _ (rw (← e) h)

  module _ (k : Unit {0} → Tree) where
    pub frames_last : at + 8 ≤ length s → n ≡ 0 → run_there (frames k) s at ≡ run_there (k tt) s (at + 8)
    unfolding run_there
    frames_last h z =
        let y : number_at s at ≡ 0 = sym e ∙ z in
        there s _ _ (omega arith) ∙ rw (eq-eqb (number_at s at) 0 y)

    pub frames_part : at + 8 + n ≤ length s → (n ≡ 0 → ⊥) → run_there (frames k) s at ≡ chunk (at + 8) n (run_there (frames k) s (at + 8 + n))
    unfolding run_there
    frames_part h z =
        rw e
        (there s _ _ (omega arith) ∙ rw (ne_eqb (number_at s at) 0 (λ y. z (e ∙ y)))
        (ap (λ (p : Pieces). chunk (at + 8) (number_at s at) p) (same_chunks (length s) (suc (length s)) s (at + 8 + number_at s at) (λ a. run_there (k tt) s a) (omega arith) (omega arith))))

    pub frames_none : length s < at + 8 + n → run_there (frames k) s at ≡ nothing
    unfolding run_there
    frames_none h = not_there s _ _ (omega arith)

-- where no number is left, nothing is
pub past_none : (s : List ℕ) (at : ℕ) → length s < at + 8 → (t : Tree) → Alike s nothing (run_there t s at)
unfolding run_there entries_of payload_of
past_none s at h (ask i k) = rw (not_there s (at + 8) (number i at (number_at s at) (run_there (k (number_at s at)) s (at + 8))) h) (refl, refl)
past_none s at h (say r k) =
    let n = number_at s at in
    let g : length s < at + 8 + n + pad_of n = omega arith in
    rw (not_there s (at + 8 + n + pad_of n) (text r (at + 8) n (run_there (k tt) s (at + 8 + n + pad_of n))) g) (refl, refl)
past_none s at h (frames k) = rw (chunks_past (suc (length s)) s at (λ a. run_there (k tt) s a) h) (refl, refl)
past_none s at h (fail which back) = (refl, refl)
past_none s at h stop = (refl, refl)

-- ---- a layout that was judged fine
module _ (s : List ℕ) where
  num_all : (i : Target) (at e : ℕ) (f g : ℕ → Pieces) {m : Num} → NumView (length s) (number_at s at) at m → skip_of (after_num m i at f) ≡ ok e
      → ((n : ℕ) → skip_of (f n) ≡ ok e → g n ≡ f n) → if_there s (at + 8) (number i at (number_at s at) (g (number_at s at))) ≡ after_num m i at f
  unfolding after_num skip_of
  num_all i at e f g (is_short h) q y = absurd (never_both q)
  num_all i at e f g (is_value h) q y = there s _ _ h ∙ ap (λ (p : Pieces). number i at (number_at s at) p) (y _ q)

  text_all : (r : Role) (at e : ℕ) (f g : ℕ → Pieces) {m : Text} → TextView (length s) (number_at s at) at m → skip_of (after_text m r f) ≡ ok e
      → ((a : ℕ) → skip_of (f a) ≡ ok e → g a ≡ f a)
      → if_there s (at + 8 + number_at s at + pad_of (number_at s at)) (text r (at + 8) (number_at s at) (g (at + 8 + number_at s at + pad_of (number_at s at)))) ≡ after_text m r f
  unfolding after_text skip_of
  text_all r at e f g (no_length h) q y = absurd (never_both q)
  text_all r at e f g (too_long_there h l) q y = absurd (never_both q)
  text_all r at e f g (no_contents h l c) q y = absurd (never_both q)
  text_all r at e f g (no_padding h l c) q y = absurd (never_both q)
  text_all r at e f g (is_whole h l) q y = there s _ _ h ∙ ap (λ (p : Pieces). text r (at + 8) (number_at s at) p) (y _ q)

  chunk_all : (at e : ℕ) (again again' f g : ℕ → Pieces) {m : Chunk} → ChunkView (length s) (number_at s at) at m → skip_of (after_chunk m again f) ≡ ok e
      → ((a : ℕ) → skip_of (again a) ≡ ok e → again' a ≡ again a) → ((a : ℕ) → skip_of (f a) ≡ ok e → g a ≡ f a)
      → if_there s (at + 8 + number_at s at) (pick (eqb (number_at s at) 0) (g (at + 8)) (chunk (at + 8) (number_at s at) (again' (at + 8 + number_at s at)))) ≡ after_chunk m again f
  unfolding after_chunk skip_of
  chunk_all at e again again' f g (no_size h) q y z = absurd (never_both q)
  chunk_all at e again again' f g (is_last h o) q y z = there s _ _ (omega arith) ∙ rw (eq-eqb (number_at s at) 0 o) (z _ q)
  chunk_all at e again again' f g (too_large h l) q y z = absurd (never_both q)
  chunk_all at e again again' f g (no_bytes h o l c) q y z = absurd (never_both q)
  chunk_all at e again again' f g (is_part h o l) q y z =
      let u : number_at s at ≡ 0 → ⊥ = λ v. omega arith in
      there s _ _ h ∙ rw (ne_eqb (number_at s at) 0 u) (ap (λ (p : Pieces). chunk (at + 8) (number_at s at) p) (y _ q))

  chunks_all : (b at e : ℕ) (f g : ℕ → Pieces) → skip_of (chunks b s at f) ≡ ok e → ((a : ℕ) → skip_of (f a) ≡ ok e → g a ≡ f a) → chunks_there b s at g ≡ chunks b s at f
  unfolding chunks chunks_there skip_of
  chunks_all zero at e f g q y = absurd (never_both q)
  chunks_all (suc b) at e f g q y =
      chunk_all at e (λ a. chunks b s a f) (λ a. chunks_there b s a g) f g (chunk_view (length s) (number_at s at) at) q (λ a p. chunks_all b a e f g p y) y

  pub all_there : (t : Tree) (at e : ℕ) → skip_of (run t s at) ≡ ok e → run_there t s at ≡ run t s at
  unfolding run run_there skip_of
  all_there (ask i k) at e q = num_all i at e (λ n. run (k n) s (at + 8)) (λ n. run_there (k n) s (at + 8)) (num_view (length s) (number_at s at) at) q (λ n p. all_there (k n) (at + 8) e p)
  all_there (say r k) at e q = text_all r at e (λ a. run (k tt) s a) (λ a. run_there (k tt) s a) (text_view (length s) (number_at s at) at) q (λ a p. all_there (k tt) a e p)
  all_there (frames k) at e q = chunks_all (suc (length s)) at e (λ a. run (k tt) s a) (λ a. run_there (k tt) s a) q (λ a p. all_there (k tt) a e p)
  all_there (fail which back) at e q = absurd (never_both q)
  all_there stop at e q = refl

-- what is filled in of it is what was judged
pub layout_there : (l : ℕ) {t : Tree} → layout_tree l ≡ t → (s : List ℕ) (at slots room : ℕ) (r : Record) (x : Ended) → judge_of s slots room r (run t s at) ≡ ok x → pieces_there l s at ≡ run t s at
layout_there l {t} q s at slots room r x e = ap (λ (u : Tree). run_there u s at) q ∙ all_there s t at x.ends (judge_read s slots room r (run t s at) x e).skips
