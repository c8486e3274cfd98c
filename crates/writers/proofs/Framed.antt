-- Framed data, chunk by chunk.
use Prim.Native.Nat.{ℕ, zero, suc, ◌+◌, ◌-◌, ◌≤◌, ◌<◌, min}
use mathlib.Core.Path.{◌≡◌, refl, sym, ap, ◌∙◌}
use mathlib.Core.List.{List, [], ◌∷◌, ◌++◌, append_assoc}
use lib.ListN.{length, take, drop, length-append, length-take, length-drop, drop_of_length-le}
use lib.Seq.{take_all, take-append_seam, drop-append_seam}
use native.Mathlib.Omega.{arith}
use native.Mathlib.Decide.{dec_le}
use Rattle.layouts.specs.Primitive.{number_bytes}
use Rattle.layouts.specs.Writers.{chunks_bytes, framed_bytes}
use Rattle.layouts.proofs.Little.{length_number}
use Rattle.writers.specs.Framed.{framed_length}
use Rattle.writers_output.specs.Placed.{placed}
use Rattle.writers_output.proofs.Laws.{Filling, filling_turn}

-- any bound that is large enough will do
chunks_same : (f g : ℕ) (c : List ℕ) → length c ≤ f → length c ≤ g → chunks_bytes f c ≡ chunks_bytes g c
unfolding chunks_bytes
chunks_same zero zero c h k = refl
chunks_same zero (suc g) [] h k = refl
chunks_same zero (suc g) (b ∷ c) h k = absurd (omega arith)
chunks_same (suc f) zero [] h k = refl
chunks_same (suc f) zero (b ∷ c) h k = absurd (omega arith)
chunks_same (suc f) (suc g) [] h k = refl
chunks_same (suc f) (suc g) (b ∷ c) h k =
    let d = length-drop 32768 (b ∷ c) in
    ap (λ (l : List ℕ). number_bytes (length (take 32768 (b ∷ c))) ++ (take 32768 (b ∷ c) ++ l)) (chunks_same f g (drop 32768 (b ∷ c)) (omega arith) (omega arith))

framed_none : (c : List ℕ) → length c ≡ 0 → framed_bytes c ≡ number_bytes 0
unfolding framed_bytes
framed_none [] h = refl
framed_none (b ∷ c) h = absurd (omega arith)

framed_more : (c : List ℕ) → 0 < length c → framed_bytes c ≡ (number_bytes (length (take 32768 c)) ++ take 32768 c) ++ framed_bytes (drop 32768 c)
unfolding framed_bytes
framed_more [] h = absurd (omega arith)
framed_more (b ∷ c) h =
    let d = length-drop 32768 (b ∷ c) in
    ap (λ (l : List ℕ). number_bytes (length (take 32768 (b ∷ c))) ++ (take 32768 (b ∷ c) ++ l))
    (chunks_same (length c) (length (drop 32768 (b ∷ c))) (drop 32768 (b ∷ c)) (omega arith) (omega arith))
    ∙ sym (append_assoc (number_bytes (length (take 32768 (b ∷ c)))) (take 32768 (b ∷ c)) (framed_bytes (drop 32768 (b ∷ c))))

-- ---- its length
length_one : (n m k : ℕ) → 0 < n → k ≡ min 32768 n → m ≡ framed_length (n - 32768) → 8 + (k + m) ≡ framed_length n
length_one n m k h e f = omega arith

length_chunks : (f : ℕ) (c : List ℕ) → length c ≤ f → length (chunks_bytes f c) ≡ framed_length (length c)
unfolding chunks_bytes
length_chunks zero [] h = length_number 0
length_chunks zero (b ∷ c) h = absurd (omega arith)
length_chunks (suc f) [] h = length_number 0
length_chunks (suc f) (b ∷ c) h =
    let d = length-drop 32768 (b ∷ c) in
    let ih = length_chunks f (drop 32768 (b ∷ c)) (omega arith) in
    length-append (number_bytes (length (take 32768 (b ∷ c)))) (take 32768 (b ∷ c) ++ chunks_bytes f (drop 32768 (b ∷ c)))
    ∙ ap (λ (k : ℕ). k + length (take 32768 (b ∷ c) ++ chunks_bytes f (drop 32768 (b ∷ c)))) (length_number (length (take 32768 (b ∷ c))))
    ∙ ap (λ (k : ℕ). 8 + k) (length-append (take 32768 (b ∷ c)) (chunks_bytes f (drop 32768 (b ∷ c))))
    ∙ length_one (length (b ∷ c)) _ _ (omega arith) (length-take 32768 (b ∷ c)) (ih ∙ ap framed_length d)

pub length_framed : (c : List ℕ) → length (framed_bytes c) ≡ framed_length (length c)
unfolding framed_bytes
length_framed c = length_chunks (length c) c (omega arith)

-- ---- the loop: a chunk is what is left, and 32768 at most
take_least : (k n : ℕ) (l : List ℕ) → n ≡ min k (length l) → take n l ≡ take k l
take_least k n l e = go (dec_le k (length l))
  where
    go : Dec (k ≤ length l) → take n l ≡ take k l
    go (yes h) = let q : n ≡ k = omega arith in ap (λ (j : ℕ). take j l) q
    go (no h) = take_all n l (omega arith) ∙ sym (take_all k l (omega arith))

drop_least : (k n : ℕ) (l : List ℕ) → n ≡ min k (length l) → drop n l ≡ drop k l
drop_least k n l e = go (dec_le k (length l))
  where
    go : Dec (k ≤ length l) → drop n l ≡ drop k l
    go (yes h) = let q : n ≡ k = omega arith in ap (λ (j : ℕ). drop j l) q
    go (no h) = drop_of_length-le l {i = n} (omega arith) ∙ sym (drop_of_length-le l {i = k} (omega arith))

module _ (c s : List ℕ) (o₀ o : List ℕ) (at : ℕ) (f : Filling o₀ 0 (framed_bytes c) o at (framed_bytes s)) where
  module _ (x rest : List ℕ) (e : s ≡ x ++ rest) (l : length x ≡ min 32768 (length s)) (h : 0 < length s) where
    is_first : take 32768 s ≡ x
    is_first = sym (take_least 32768 (length x) s l) ∙ rw e (take-append_seam x rest)

    are_left : drop 32768 s ≡ rest
    are_left = sym (drop_least 32768 (length x) s l) ∙ rw e (drop-append_seam x rest)

    framed_chunk : framed_bytes s ≡ (number_bytes (length x) ++ x) ++ framed_bytes rest
    framed_chunk = framed_more s h ∙ simp (is_first, are_left)

    pub framed_turn : (o' : List ℕ) → o' ≡ placed at (number_bytes (length x) ++ x) o → Filling o₀ 0 (framed_bytes c) o' (at + (8 + length x)) (framed_bytes rest)
    framed_turn o' g =
        let m = length_number (length x) in
        filling_turn o₀ 0 (framed_bytes c) o at (framed_bytes s) f (number_bytes (length x) ++ x) (framed_bytes rest) framed_chunk
        o' (at + (8 + length x)) (simp length-append (omega arith)) g

  pub framed_end : length s ≡ 0 → (o' : List ℕ) → o' ≡ placed at (number_bytes 0) o → o' ≡ placed 0 (framed_bytes c) o₀
  framed_end h o' g = g ∙ ap (λ (x : List ℕ). placed at x o) (sym (framed_none s h)) ∙ f.same
