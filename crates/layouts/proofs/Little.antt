-- Numbers and their bytes, at any width: what a number depends on, and both ways between it and its bytes.
use Prim.Native.Nat.pow
use Prim.Native.Nat.{ℕ, zero, suc, ◌+◌, ◌*◌, ◌/◌, ◌%◌, ◌^◌, ◌≤◌, ◌<◌}
use mathlib.Core.Path.{◌≡◌, refl, sym, ◌∙◌, ap}
use mathlib.Core.List.{List, [], ◌∷◌, ◌++◌}
use lib.ListN.{length, get_or, drop}
use lib.Seq.{get_or-drop}
use native.Mathlib.Omega.{arith}
use Rattle.layouts.specs.Primitive.{little_at, little_end, number_at, number_bytes}
use Rattle.layouts.specs.Demands.{Bytes}

-- a number depends on its own bytes only
pub little_same : (k : ℕ) (s s' : List ℕ) (at : ℕ) → ((x : ℕ) → at ≤ x → x < at + k → get_or s' x 0 ≡ get_or s x 0) → little_at k s' at ≡ little_at k s at
unfolding little_at
little_same zero s s' at h = refl
little_same (suc k) s s' at h =
    let a = h at (omega arith) (omega arith) in
    let b = little_same k s s' (at + 1) (λ x g l. h x (omega arith) (omega arith)) in
    omega arith

pub number_same : (s s' : List ℕ) (at : ℕ) → ((x : ℕ) → at ≤ x → x < at + 8 → get_or s' x 0 ≡ get_or s x 0) → number_at s' at ≡ number_at s at
unfolding number_at
number_same s s' at h = little_same 8 s s' at h

pub little_drop : (k : ℕ) (s : List ℕ) (n at : ℕ) → little_at k (drop n s) at ≡ little_at k s (n + at)
unfolding little_at
little_drop zero s n at = refl
little_drop (suc k) s n at =
    let a = get_or-drop n s at 0 in
    let b = little_drop k s n (at + 1) in
    let c : little_at k s (n + (at + 1)) ≡ little_at k s (n + at + 1) = ap (little_at k s) (omega arith) in
    omega arith

pub number_drop : (s : List ℕ) (at : ℕ) → number_at (drop at s) 0 ≡ number_at s at
unfolding number_at
number_drop s at = little_drop 8 s at 0 ∙ ap (little_at 8 s) (omega arith)

pub little_small : (k : ℕ) (s : List ℕ) (at : ℕ) → Bytes s → little_at k s at < 256 ^ k
unfolding little_at
little_small zero s at h = omega arith
little_small (suc k) s at h =
    let a = h at in
    let b = little_small k s (at + 1) h in
    rw pow.suc (omega arith)

pub number_small : (s : List ℕ) (at : ℕ) → Bytes s → number_at s at < 18446744073709551616
unfolding number_at
number_small s at h = little_small 8 s at h

pub length_little : (k n : ℕ) → length (little_end k n) ≡ k
unfolding little_end
length_little zero n = refl
length_little (suc k) n = ap suc (length_little k (n / 256))

pub length_number : (n : ℕ) → length (number_bytes n) ≡ 8
unfolding number_bytes
length_number n = length_little 8 n

-- bytes, to their number and back
pub bytes_of_little : (k : ℕ) (l : List ℕ) → Bytes l → k ≤ length l → little_end k (little_at k l 0) ++ drop k l ≡ l
unfolding little_at little_end
bytes_of_little zero l h g = refl
bytes_of_little (suc k) [] h g = absurd (omega arith)
bytes_of_little (suc k) (b ∷ l) h g =
    let r = h 0 in
    let q : little_at k l 0 ≡ little_at k (b ∷ l) 1 = little_drop k (b ∷ l) 1 0 in
    let x : (b + 256 * little_at k (b ∷ l) 1) % 256 ≡ b = omega arith in
    let y : (b + 256 * little_at k (b ∷ l) 1) / 256 ≡ little_at k l 0 = omega arith in
    rw (x, y) (ap (λ (z : List ℕ). b ∷ z) (bytes_of_little k l (λ i. h (suc i)) (omega arith)))

pub bytes_of_number : (l : List ℕ) → Bytes l → 8 ≤ length l → l ≡ number_bytes (number_at l 0) ++ drop 8 l
unfolding number_at number_bytes
bytes_of_number l h g = sym (bytes_of_little 8 l h g)

-- a number, to its bytes and back
pub little_of_bytes : (k n : ℕ) (l : List ℕ) → n < 256 ^ k → little_at k (little_end k n ++ l) 0 ≡ n
unfolding little_at little_end
little_of_bytes zero n l h = omega arith
little_of_bytes (suc k) n l h =
    let a = rw pow.suc at h in
    let b = little_of_bytes k (n / 256) l (omega arith) in
    let c = little_drop k (n % 256 ∷ little_end k (n / 256) ++ l) 1 0 in
    omega arith

pub number_of_bytes : (n : ℕ) (l : List ℕ) → n < 18446744073709551616 → number_at (number_bytes n ++ l) 0 ≡ n
unfolding number_at number_bytes
number_of_bytes n l h = little_of_bytes 8 n l h
