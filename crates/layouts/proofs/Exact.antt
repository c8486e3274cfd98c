-- A layout is read to an end exactly where the stream begins with bytes that the grammar has for it, and the pieces are the grammar's.
use Prim.Native.Nat.{ℕ, zero, suc, ◌+◌, ◌≤◌, ◌<◌}
use mathlib.Core.Path.{◌≡◌, refl, sym, ◌∙◌, ap, subst}
use mathlib.Core.List.{List, [], ◌++◌, append_assoc}
use lib.ListN.{length, take, drop, length-append, length-drop, take-append-drop}
use lib.Seq.{length-take-le, get_or-drop, drop-drop, drop_at}
use native.Mathlib.Omega.{arith}
use native.Mathlib.Nat.{add-zero, zero-add}
use Rattle.layouts.specs.Primitive.{number_at, number_bytes, pad_of, ok}
use Rattle.layouts.specs.Shape.{Target, Role, Tree, ask, say, frames, fail, stop}
use Rattle.layouts.specs.Pieces.{Pieces, number, text, chunk, Num, Text, Chunk, after_num, after_text, after_chunk, chunks, run, skip_of}
use Rattle.layouts.specs.Grammar.{Says, says_number, says_text, says_chunk, says_last, says_end}
use Rattle.layouts.specs.Demands.{Bytes}
use Rattle.layouts.proofs.Little.{number_drop, number_small, number_of_bytes, bytes_of_number, length_number}
use Rattle.layouts.proofs.Views.{NumView, is_value, is_short, TextView, no_length, too_long_there, no_contents, no_padding, is_whole, ChunkView, no_size, is_last, too_large, no_bytes, is_part, num_view, text_view, chunk_view}
use Rattle.layouts.proofs.Steps.{ask_value, say_whole, frames_last, frames_part}

-- past a part
pub past : (s : List ℕ) (at n : ℕ) (c l : List ℕ) → drop at s ≡ c ++ l → length c ≡ n → drop (at + n) s ≡ l
past s at n c l e h = sym (drop-drop n at s) ∙ ap (drop n) e ∙ drop_at c l n h

-- a number at the place
module _ (s : List ℕ) (at n : ℕ) (l : List ℕ) (e : drop at s ≡ number_bytes n ++ l) where
  pub head_number : n < 18446744073709551616 → n ≡ number_at s at
  head_number h = sym (sym (number_drop s at) ∙ ap (λ (z : List ℕ). number_at z 0) e ∙ number_of_bytes n l h)

  pub head_size : at + 8 + length l ≡ length s
  head_size = omega (arith, simp (length-drop, length-append, length_number) at (ap length e))

  pub head_past : drop (at + 8) s ≡ l
  head_past = past s at 8 (number_bytes n) l e (length_number n)

-- whatever the grammar has is read, with its pieces
pub complete : {t : Tree} {at : ℕ} {b : List ℕ} {p : Pieces} → Says t at b p → (s u : List ℕ) → drop at s ≡ b ++ u → run t s at ≡ p
unfolding run
complete (says_number i n at k b p h y) s u e =
    let e' = simp append_assoc at e in
    let z = head_size s at n (b ++ u) e' in
    ask_value s at n (head_number s at n (b ++ u) e' h) i k (omega arith) ∙ ap (λ (o : Pieces). number i at n o) (complete y s u (head_past s at n (b ++ u) e'))
complete (says_text r at k c pad b p h g y) s u e =
    let n = length c in
    let l = c ++ (pad ++ (b ++ u)) in
    let e' : drop at s ≡ number_bytes n ++ l = simp append_assoc at e in
    let z = simp length-append at (head_size s at n l e') in
    let d = past s (at + 8) n c (pad ++ (b ++ u)) (head_past s at n l e') refl in
    say_whole s at n (head_number s at n l e' (omega arith)) r k (omega arith) h
    ∙ ap (λ (o : Pieces). text r (at + 8) n o) (complete y s u (past s (at + 8 + n) (pad_of n) pad (b ++ u) d g))
complete (says_chunk at k c b p o h y) s u e =
    let n = length c in
    let l = c ++ (b ++ u) in
    let e' : drop at s ≡ number_bytes n ++ l = simp append_assoc at e in
    let z = simp length-append at (head_size s at n l e') in
    frames_part s at n (head_number s at n l e' (omega arith)) k (omega arith) o h
    ∙ ap (λ (o : Pieces). chunk (at + 8) n o) (complete y s u (past s (at + 8) n c (b ++ u) (head_past s at n l e') refl))
complete (says_last at k b p y) s u e =
    let e' = simp append_assoc at e in
    let z = head_size s at 0 (b ++ u) e' in
    frames_last s at 0 (head_number s at 0 (b ++ u) e' (omega arith)) k (omega arith) refl ∙ complete y s u (head_past s at 0 (b ++ u) e')
complete (says_end at) s u e = refl

pub says_ends : {t : Tree} {at : ℕ} {b : List ℕ} {p : Pieces} → Says t at b p → skip_of p ≡ ok (at + length b)
unfolding skip_of
says_ends (says_number i n at k b p h y) = says_ends y ∙ ap ok (simp (length-append, length_number) (omega arith))
says_ends (says_text r at k c pad b p h g y) = says_ends y ∙ ap ok (simp (length-append, length_number) (omega arith))
says_ends (says_chunk at k c b p o h y) = says_ends y ∙ ap ok (simp (length-append, length_number) (omega arith))
says_ends (says_last at k b p y) = says_ends y ∙ ap ok (simp (length-append, length_number) (omega arith))
says_ends (says_end at) = ap ok (sym (add-zero at))

-- and what is read to an end, the grammar has
pub record Begins (t : Tree) (s : List ℕ) (at e : ℕ) (p : Pieces) : Type 0 where
  pub these : List ℕ
  pub rest : List ℕ
  pub splits : drop at s ≡ these ++ rest
  pub says : Says t at these p
  pub ends : at + length these ≡ e

text_as : (r : Role) (at n : ℕ) (k : Unit {0} → Tree) (c pad b : List ℕ) (p : Pieces) → length c ≡ n → n ≤ 268435456 → length pad ≡ pad_of n
    → Says (k tt) (at + 8 + n + pad_of n) b p → Says (say r k) at (number_bytes n ++ (c ++ (pad ++ b))) (text r (at + 8) n p)
text_as r at n k c pad b p e =
    subst
    (λ (m : ℕ). m ≤ 268435456 → length pad ≡ pad_of m → Says (k tt) (at + 8 + m + pad_of m) b p → Says (say r k) at (number_bytes m ++ (c ++ (pad ++ b))) (text r (at + 8) m p))
    e (says_text r at k c pad b p)

chunk_as : (at n : ℕ) (k : Unit {0} → Tree) (c b : List ℕ) (p : Pieces) → length c ≡ n → 0 < n → n ≤ 268435456
    → Says (frames k) (at + 8 + n) b p → Says (frames k) at (number_bytes n ++ (c ++ b)) (chunk (at + 8) n p)
chunk_as at n k c b p e =
    subst (λ (m : ℕ). 0 < m → m ≤ 268435456 → Says (frames k) (at + 8 + m) b p → Says (frames k) at (number_bytes m ++ (c ++ b)) (chunk (at + 8) m p)) e (says_chunk at k c b p)

module _ (s : List ℕ) (bytes : Bytes s) where
  number_split : (at : ℕ) → at + 8 ≤ length s → drop at s ≡ number_bytes (number_at s at) ++ drop (at + 8) s
  number_split at h =
      bytes_of_number (drop at s) (λ x. rw get_or-drop (bytes (at + x))) (simp length-drop (omega arith))
      ∙ rw (number_drop, drop-drop)

  part_split : (at n : ℕ) → drop at s ≡ take n (drop at s) ++ drop (at + n) s
  part_split at n = sym (take-append-drop n (drop at s)) ∙ rw drop-drop

  part_length : (at n : ℕ) → at + n ≤ length s → length (take n (drop at s)) ≡ n
  part_length at n h = length-take-le n (drop at s) (simp length-drop (omega arith))

  -- a node's own bytes, before those of what follows
  before : {t t' : Tree} {at e : ℕ} {p p' : Pieces} (next : ℕ) (own : List ℕ) → drop at s ≡ own ++ drop next s → at + length own ≡ next
      → Begins t' s next e p' → ((b : List ℕ) → Says t' next b p' → Says t at (own ++ b) p) → Begins t s at e p
  before next own d l y g =
      let z = y.ends in
      record {
        these = own ++ y.these;
        rest = y.rest;
        splits = simp append_assoc (d ∙ ap (λ (o : List ℕ). own ++ o) y.splits);
        says = g y.these y.says;
        ends = simp length-append (omega arith);
      }

  sound_num : (i : Target) (at e : ℕ) (k : ℕ → Tree) (f : ℕ → Pieces) {m : Num} → NumView (length s) (number_at s at) at m → skip_of (after_num m i at f) ≡ ok e
      → (skip_of (f (number_at s at)) ≡ ok e → Begins (k (number_at s at)) s (at + 8) e (f (number_at s at)))
      → Begins (ask i k) s at e (after_num m i at f)
  unfolding after_num skip_of
  sound_num i at e k f (is_short h) q g = let z : ◌≡◌ {A = ℕ} 0 1 = cc in absurd (omega arith)
  sound_num i at e k f (is_value h) q g =
      let n = number_at s at in
      before (at + 8) (number_bytes n) (number_split at h) (rw length_number) (g q) (λ b y. says_number i n at k b (f n) (number_small s at bytes) y)

  sound_text : (r : Role) (at e : ℕ) (k : Unit {0} → Tree) (f : ℕ → Pieces) {m : Text} → TextView (length s) (number_at s at) at m → skip_of (after_text m r f) ≡ ok e
      → ((at' : ℕ) → skip_of (f at') ≡ ok e → Begins (k tt) s at' e (f at'))
      → Begins (say r k) s at e (after_text m r f)
  unfolding after_text skip_of
  sound_text r at e k f (no_length h) q g = let z : ◌≡◌ {A = ℕ} 0 1 = cc in absurd (omega arith)
  sound_text r at e k f (too_long_there h l) q g = let z : ◌≡◌ {A = ℕ} 0 1 = cc in absurd (omega arith)
  sound_text r at e k f (no_contents h l c) q g = let z : ◌≡◌ {A = ℕ} 0 1 = cc in absurd (omega arith)
  sound_text r at e k f (no_padding h l c) q g = let z : ◌≡◌ {A = ℕ} 0 1 = cc in absurd (omega arith)
  sound_text r at e k f (is_whole h l) q g =
      let n = number_at s at in
      let a = at + 8 + n + pad_of n in
      let c = take n (drop (at + 8) s) in
      let pad = take (pad_of n) (drop (at + 8 + n) s) in
      let lc : length c ≡ n = part_length (at + 8) n (omega arith) in
      let lp : length pad ≡ pad_of n = part_length (at + 8 + n) (pad_of n) h in
      before a (number_bytes n ++ (c ++ pad))
      (simp append_assoc
      (number_split at (omega arith) ∙ ap (λ (o : List ℕ). number_bytes n ++ o) (part_split (at + 8) n ∙ ap (λ (o : List ℕ). c ++ o) (part_split (at + 8 + n) (pad_of n)))))
      (simp (length-append, length_number, lc, lp) (omega arith)) (g a q) (λ b y. simp append_assoc (text_as r at n k c pad b (f a) lc l lp y))

  sound_chunk : (at e : ℕ) (k : Unit {0} → Tree) (again f : ℕ → Pieces) {m : Chunk} → ChunkView (length s) (number_at s at) at m → skip_of (after_chunk m again f) ≡ ok e
      → ((at' : ℕ) → skip_of (again at') ≡ ok e → Begins (frames k) s at' e (again at'))
      → ((at' : ℕ) → skip_of (f at') ≡ ok e → Begins (k tt) s at' e (f at'))
      → Begins (frames k) s at e (after_chunk m again f)
  unfolding after_chunk skip_of
  sound_chunk at e k again f (no_size h) q g i = let z : ◌≡◌ {A = ℕ} 0 1 = cc in absurd (omega arith)
  sound_chunk at e k again f (too_large h l) q g i = let z : ◌≡◌ {A = ℕ} 0 1 = cc in absurd (omega arith)
  sound_chunk at e k again f (no_bytes h z l c) q g i = let z : ◌≡◌ {A = ℕ} 0 1 = cc in absurd (omega arith)
  sound_chunk at e k again f (is_last h o) q g i =
      before (at + 8) (number_bytes 0) (number_split at h ∙ rw o) (rw length_number) (i (at + 8) q) (λ b y. says_last at k b (f (at + 8)) y)
  sound_chunk at e k again f (is_part h o l) q g i =
      let n = number_at s at in
      let a = at + 8 + n in
      let c = take n (drop (at + 8) s) in
      let lc : length c ≡ n = part_length (at + 8) n h in
      before a (number_bytes n ++ c) (simp append_assoc (number_split at (omega arith) ∙ ap (λ (o : List ℕ). number_bytes n ++ o) (part_split (at + 8) n)))
      (simp (length-append, length_number, lc) (omega arith)) (g a q) (λ b y. simp append_assoc (chunk_as at n k c b (again a) lc o l y))

  sound_chunks : (f at e : ℕ) (k : Unit {0} → Tree) (g : ℕ → Pieces) → skip_of (chunks f s at g) ≡ ok e
      → ((at' : ℕ) → skip_of (g at') ≡ ok e → Begins (k tt) s at' e (g at'))
      → Begins (frames k) s at e (chunks f s at g)
  unfolding chunks skip_of
  sound_chunks zero at e k g q i = let z : ◌≡◌ {A = ℕ} 0 1 = cc in absurd (omega arith)
  sound_chunks (suc f) at e k g q i =
      sound_chunk at e k (λ a. chunks f s a g) g (chunk_view (length s) (number_at s at) at) q (λ a p. sound_chunks f a e k g p i) i

  pub sound : (t : Tree) (at e : ℕ) → skip_of (run t s at) ≡ ok e → Begins t s at e (run t s at)
  unfolding run skip_of
  sound (ask i k) at e q =
      sound_num i at e k (λ n. run (k n) s (at + 8)) (num_view (length s) (number_at s at) at) q (λ p. sound (k (number_at s at)) (at + 8) e p)
  sound (say r k) at e q = sound_text r at e k (λ a. run (k tt) s a) (text_view (length s) (number_at s at) at) q (λ a p. sound (k tt) a e p)
  sound (frames k) at e q = sound_chunks (suc (length s)) at e k (λ a. run (k tt) s a) q (λ a p. sound (k tt) a e p)
  sound (fail which back) at e q = let z : ◌≡◌ {A = ℕ} 0 1 = cc in absurd (omega arith)
  sound stop at e q =
      let z : at ≡ e = cc in
      record { these = []; rest = drop at s; splits = refl; says = says_end at; ends = omega arith }

-- demand 2: what the grammar has is read to its end, whatever follows; and what is read to an end, the grammar has
pub grammar_read : (t : Tree) (b u : List ℕ) (p : Pieces) → Says t 0 b p → (run t (b ++ u) 0 ≡ p) × (skip_of p ≡ ok (length b))
grammar_read t b u p y = (complete y (b ++ u) u refl, says_ends y ∙ ap ok (zero-add (length b)))

pub read_grammar : (t : Tree) (s : List ℕ) (e : ℕ) → Bytes s → skip_of (run t s 0) ≡ ok e
    → (b : List ℕ) × (u : List ℕ) × (s ≡ b ++ u) × Says t 0 b (run t s 0) × (length b ≡ e)
read_grammar t s e h q =
    let y = sound s h t 0 e q in
    let z = y.ends in
    (y.these, y.rest, y.splits, y.says, omega arith)
