-- The fifteen numbers of a call, from lent bytes.
use Prim.Native.Nat.{ℕ, zero, suc, ◌+◌, ◌-◌, ◌*◌, ◌^◌, ◌≤◌, ◌<◌}
use Prim.Native.Nat.pow
use mathlib.Core.Path.{◌≡◌, ◌∙◌}
use mathlib.Core.List.{List, [], ◌∷◌}
use lib.ListN.{get_or}
use native.Mathlib.Omega.{arith}
use Rattle.layouts.specs.Primitive.{little_at, number_at}
use Rattle.layouts.specs.Demands.{Bytes}
use Rattle.layouts.proofs.Little.{little_small}
use Rattle.entries.specs.Entries.{numbers_from}

-- ---- eight bytes, the last one first
pow_more : (d k : ℕ) → 256 ^ d ≤ 256 ^ (k + d)
pow_more d zero = let e : 0 + d ≡ d = omega arith in rw e (omega arith)
pow_more d (suc k) = let h = pow_more d k in let e : suc k + d ≡ suc (k + d) = omega arith in rw (e, pow.suc) (omega arith)

module _ (s : List ℕ) (at : ℕ) where
  pub low_start : 0 ≡ little_at (at + 8 - (at + 8)) s (at + 8)
  unfolding little_at
  low_start = let z : at + 8 - (at + 8) ≡ 0 = omega arith in rw z

  module _ (i n : ℕ) (e : n ≡ little_at (at + 8 - i) s i) where
    pub low_turn : at < i → i ≤ at + 8 → (b : ℕ) → b ≡ get_or s (i - 1) 0 → 256 * n + b ≡ little_at (at + 8 - (i - 1)) s (i - 1)
    unfolding little_at
    low_turn h g b f =
        let z : at + 8 - (i - 1) ≡ suc (at + 8 - i) = omega arith in
        let y : i - 1 + 1 ≡ i = omega arith in
        rw (z, y) (omega arith)

    -- with one byte more it is a u64
    pub low_small : Bytes s → at < i → n < 72057594037927936
    low_small h g =
        let d : 7 - (at + 8 - i) + (at + 8 - i) ≡ 7 = omega arith in
        let p = rw d at (pow_more (at + 8 - i) (7 - (at + 8 - i))) in
        let l = little_small (at + 8 - i) s i h in
        omega arith

    pub low_end : i ≡ at → n ≡ little_at 8 s at
    low_end f = let z : at + 8 - i ≡ 8 = omega arith in e ∙ rw (z, f)

pub all_fifteen : (s : List ℕ) (a0 a1 a2 a3 a4 a5 a6 a7 a8 a9 a10 a11 a12 a13 a14 : ℕ)
    → a0 ≡ number_at s 0 → a1 ≡ number_at s 8 → a2 ≡ number_at s 16 → a3 ≡ number_at s 24 → a4 ≡ number_at s 32 → a5 ≡ number_at s 40 → a6 ≡ number_at s 48 → a7 ≡ number_at s 56
    → a8 ≡ number_at s 64 → a9 ≡ number_at s 72 → a10 ≡ number_at s 80 → a11 ≡ number_at s 88 → a12 ≡ number_at s 96 → a13 ≡ number_at s 104 → a14 ≡ number_at s 112
    → a0 ∷ a1 ∷ a2 ∷ a3 ∷ a4 ∷ a5 ∷ a6 ∷ a7 ∷ a8 ∷ a9 ∷ a10 ∷ a11 ∷ a12 ∷ a13 ∷ a14 ∷ [] ≡ numbers_from 15 0 s
unfolding numbers_from
all_fifteen s a0 a1 a2 a3 a4 a5 a6 a7 a8 a9 a10 a11 a12 a13 a14 e0 e1 e2 e3 e4 e5 e6 e7 e8 e9 e10 e11 e12 e13 e14 =
    rw (e0, e1, e2, e3, e4, e5, e6, e7, e8, e9, e10, e11, e12, e13, e14)
