-- Parts of an output put at their places, and what a writer then answers.
use Prim.Native.Nat.{ℕ, zero, suc, ◌+◌, ◌-◌, ◌≤◌, ◌<◌}
use mathlib.Core.Path.{◌≡◌, refl, sym, ap, subst, ◌∙◌}
use mathlib.Core.List.{List, [], ◌∷◌, ◌++◌, append-nil, append_assoc}
use mathlib.Core.Bool.{Bool, true, false}
use lib.ListN.{length, set, take, drop, replicate, length-append, length-drop, length-replicate, drop_of_length-le}
use lib.Seq.{sets, sets-eq, length-sets, take_all, drop-drop}
use lib.Dec.{leb}
use native.Mathlib.Omega.{arith}
use native.Mathlib.Decide.{dec_le}
use native.Mathlib.Nat.{add-zero, zero-add, suc-add, add-suc}
use borrow.Author.Tests.{le-leb, lt-leb, leb-true, leb-false}
use Rattle.layouts.specs.Primitive.{pick, Result, little_end, number_bytes, pad_of, ok}
use Rattle.layouts.specs.declared.Refusal.{Refusal}
use Rattle.layouts.specs.Refusal.{plain, refused_by}
use Rattle.layouts.specs.Writers.{writing, string_bytes}
use Rattle.layouts.proofs.Little.{length_little, length_number}
use Rattle.numbers.specs.Stored.{stored}
use Rattle.writers_output.specs.Answer.{after_writing}
use Rattle.writers_output.specs.Placed.{placed}

-- ---- does a part fit?
pub within : (size at n : ℕ) → at ≤ size → leb n (size - at) ≡ leb (at + n) size
within size at n h = go (dec_le n (size - at))
  where
    go : Dec (n ≤ size - at) → leb n (size - at) ≡ leb (at + n) size
    go (yes l) = le-leb n (size - at) l ∙ sym (le-leb (at + n) size (omega arith))
    go (no l) = lt-leb n (size - at) (omega arith) ∙ sym (lt-leb (at + n) size (omega arith))

pub beyond : (size at n : ℕ) → size < at → false ≡ leb (at + n) size
beyond size at n h = sym (lt-leb (at + n) size (omega arith))

module _ (b : Bool) (m n : ℕ) (e : b ≡ leb m n) where
  pub is_room : b ≡ true → m ≤ n
  is_room t = leb-true m n (sym e ∙ t)

  pub no_room : b ≡ false → n < m
  no_room t = leb-false m n (sym e ∙ t)

module _ (at : ℕ) (c out : List ℕ) where
  pub placed_fits : at + length c ≤ length out → placed at c out ≡ sets out at c
  unfolding placed
  placed_fits h = ap (λ (b : Bool). pick b (sets out at c) out) (le-leb (at + length c) (length out) h)

  pub placed_not : (n : ℕ) → n ≡ length c → length out < at + n → out ≡ placed at c out
  unfolding placed
  placed_not n e h = ap (λ (b : Bool). pick b (sets out at c) out) (sym (lt-leb (at + length c) (length out) (omega arith)))

  pub length_placed : length (placed at c out) ≡ length out
  unfolding placed
  length_placed = go (leb (at + length c) (length out))
    where
      go : (b : Bool) → length (pick b (sets out at c) out) ≡ length out
      go true = length-sets out at c
      go false = refl

-- ---- a part &mut out[at..] that is lent and comes back with vs at its start
pub part_tail : (out : List ℕ) (at : ℕ) → take (length out - at) (drop at out) ≡ drop at out
part_tail out at = take_all (length out - at) (drop at out) (simp length-drop (omega arith))

part_none : (out : List ℕ) (at : ℕ) → drop (length out - at) (drop at out) ≡ []
part_none out at = drop_of_length-le (drop at out) {i = length out - at} (simp length-drop (omega arith))

pub put_back : (out vs ys : List ℕ) (at : ℕ) → at + length vs ≤ length out → ys ≡ vs ++ drop (length vs) (drop at out)
    → take at out ++ (ys ++ drop (length out - at) (drop at out)) ≡ placed at vs out
put_back out vs ys at h e = simp (part_none out at, append-nil, e, drop-drop, placed_fits at vs out h, sets-eq vs out at h, append_assoc)

-- a part &mut out[at..at + length c] that comes back as c
pub copied : (out c ys : List ℕ) (at : ℕ) → at + length c ≤ length out → ys ≡ c
    → take at out ++ (ys ++ drop (at + length c - at) (drop at out)) ≡ placed at c out
copied out c ys at h e =
    let n : at + length c - at ≡ length c = omega arith in simp (n, e, drop-drop, placed_fits at c out h, sets-eq c out at h, append_assoc)

pub numbered : (out ys : List ℕ) (at x : ℕ) → at + 8 ≤ length out
    → ys ≡ stored 8 x (take (length out - at) (drop at out))
    → take at out ++ (ys ++ drop (length out - at) (drop at out)) ≡ placed at (number_bytes x) out
unfolding number_bytes
numbered out ys at x h e =
    let l = length_little 8 x in
    let d = length-drop at out in
    let t = le-leb 8 (length (drop at out)) (omega arith) in
    put_back out (little_end 8 x) ys at (omega arith) (e ∙ simp (part_tail, t, l))

-- ---- one part after the other
sets_join : (out : List ℕ) (at : ℕ) (xs ys : List ℕ) → sets out at (xs ++ ys) ≡ sets (sets out at xs) (at + length xs) ys
sets_join out at [] ys = ap (λ (k : ℕ). sets out k ys) (sym (add-zero at))
sets_join out at (x ∷ xs) ys =
    sets_join (set out at x) (suc at) xs ys ∙ ap (λ (k : ℕ). sets (sets (set out at x) (suc at) xs) k ys) (suc-add at (length xs) ∙ sym (add-suc at (length xs)))

module _ (out a b : List ℕ) (at n : ℕ) (xs ys : List ℕ) where
  pub then : at + (length xs + length ys) ≤ length out → n ≡ at + length xs → a ≡ placed at xs out → b ≡ placed n ys a → b ≡ placed at (xs ++ ys) out
  then h e f g =
      let l = length-append xs ys in
      let m : length a ≡ length out = ap length f ∙ length_placed at xs out in
      g ∙ placed_fits n ys a (omega arith) ∙
      rw (e, f, placed_fits at xs out (omega arith), placed_fits at (xs ++ ys) out (omega arith)) (sym (sets_join out at xs ys))

take_same : (k n x : ℕ) → k ≤ n → take k (replicate n x) ≡ replicate k x
take_same zero n x h = refl
take_same (suc k) zero x h = absurd (omega arith)
take_same (suc k) (suc n) x h = ap (λ (l : List ℕ). x ∷ l) (take_same k n x (omega arith))

abbrev pub eight_zeros : List ℕ
eight_zeros = replicate 8 0

zeros : (k : ℕ) → k < 8 → take k eight_zeros ≡ replicate k 0
zeros k h = take_same k 8 0 (omega arith)

pub eight_length : (x k : ℕ) → k < 8 → k ≡ length (take k (replicate 8 x))
eight_length x k h = sym (ap length (take_same k 8 x (omega arith)) ∙ length-replicate k x)

pub zeros_put : (out out' l : List ℕ) (at k n : ℕ) → k ≡ pad_of n → k < 8 → out' ≡ placed at (take k l) out → l ≡ eight_zeros → out' ≡ placed at (replicate (pad_of n) 0) out
zeros_put out out' l at k n e h f g =
    f ∙ ap (λ (c : List ℕ). placed at (take k c) out) g ∙ ap (λ (c : List ℕ). placed at c out) (zeros k h ∙ ap (λ (j : ℕ). replicate j 0) e)

pub length_counted : (c : List ℕ) → length (number_bytes (length c) ++ c) ≡ 8 + length c
length_counted c = simp (length-append, length_number)

pub length_string : (c : List ℕ) → length (string_bytes c) ≡ 8 + length c + pad_of (length c)
unfolding string_bytes
length_string c = simp (length-append, length_number, length-replicate) (omega arith)

pub counted_put : (out a b c : List ℕ) (at : ℕ) → at + (8 + length c) ≤ length out → a ≡ placed at (number_bytes (length c)) out → b ≡ placed (at + 8) c a
    → b ≡ placed at (number_bytes (length c) ++ c) out
counted_put out a b c at h f g = let l = length_number (length c) in then out a b at (at + 8) (number_bytes (length c)) c (omega arith) (omega arith) f g

pub string_put : (out a b c : List ℕ) (at : ℕ) → at + length (string_bytes c) ≤ length out → a ≡ placed at (number_bytes (length c) ++ c) out
    → b ≡ placed (at + 8 + length c) (replicate (pad_of (length c)) 0) a → b ≡ placed at (string_bytes c) out
unfolding string_bytes
string_put out a b c at h f g =
    let l = length_counted c in
    let z = length-replicate {A = ℕ} (pad_of (length c)) 0 in
    let k = length_string c in
    then out a b at (at + 8 + length c) (number_bytes (length c) ++ c) (replicate (pad_of (length c)) 0) (omega arith) (omega arith) f g
    ∙ ap (λ (x : List ℕ). placed at x out) (append_assoc (number_bytes (length c)) c (replicate (pad_of (length c)) 0))

-- ---- a loop that writes: the room o, filled up to n and es to come, on the way from o₀ at n₀ with es₀ to come
pub record Filling (o₀ : List ℕ) (n₀ : ℕ) (es₀ o : List ℕ) (n : ℕ) (es : List ℕ) : Type 0 where
  pub same : placed n es o ≡ placed n₀ es₀ o₀
  pub room : n + length es ≤ length o
  pub size : length o ≡ length o₀

pub filling_start : (o : List ℕ) (n : ℕ) (es : List ℕ) → n + length es ≤ length o → Filling o n es o n es
filling_start o n es h = record { same = refl; room = h; size = refl }

module _ (o₀ : List ℕ) (n₀ : ℕ) (es₀ o : List ℕ) (n : ℕ) (es : List ℕ) (f : Filling o₀ n₀ es₀ o n es) where
  module _ (vs rest : List ℕ) (e : es ≡ vs ++ rest) where
    pub filling_room : n + (length vs + length rest) ≤ length o
    filling_room = let r = f.room in let l : length es ≡ length vs + length rest = ap length e ∙ length-append vs rest in omega arith

    pub filling_turn : (o' : List ℕ) (n' : ℕ) → n' ≡ n + length vs → o' ≡ placed n vs o → Filling o₀ n₀ es₀ o' n' rest
    filling_turn o' n' i g =
        let z = f.size in
        let m : length o' ≡ length o = ap length g ∙ length_placed n vs o in
        record {
          same = then o o' (placed n' rest o') n n' vs rest filling_room i g refl ∙ ap (λ (x : List ℕ). placed n x o) (sym e) ∙ f.same;
          room = let r = filling_room in omega arith;
          size = omega arith;
        }

  pub filling_end : es ≡ [] → o ≡ placed n₀ es₀ o₀
  filling_end e = let r = f.room in sym (placed_fits n [] o (let l = ap length e in omega arith)) ∙ ap (λ (x : List ℕ). placed n x o) (sym e) ∙ f.same

-- ---- what the writer then answers
pub done : (o lent lent' : List ℕ) (n : ℕ) → n ≡ length o → n ≤ length lent → lent' ≡ placed 0 o lent
    → (ok n ≡ writing o lent) × (lent' ≡ after_writing o lent)
unfolding writing
done o lent lent' n e h f =
    let t = le-leb (length o) (length lent) (omega arith) in
    simp (t, e, f, placed_fits 0 o lent (omega arith), sets-eq o lent 0 (omega arith), zero-add) (refl, refl)

pub full : (o lent : List ℕ) (n : ℕ) → n ≡ length o → length lent < n → (r : Refusal) → r ≡ plain 10 0
    → (refused_by r ≡ writing o lent) × (lent ≡ after_writing o lent)
unfolding writing
full o lent n e h r p = let t = lt-leb (length o) (length lent) (omega arith) in simp (t, p) (refl, refl)

-- the same output, said in another way
pub same_output : (o o' lent lent' : List ℕ) (r : Result ℕ) → o ≡ o' → (r ≡ writing o lent) × (lent' ≡ after_writing o lent)
    → (r ≡ writing o' lent) × (lent' ≡ after_writing o' lent)
same_output o o' lent lent' r e p = subst (λ (x : List ℕ). (r ≡ writing x lent) × (lent' ≡ after_writing x lent)) e p
