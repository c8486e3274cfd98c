-- What a number, a string, a chunk at a place is, with the reason; and back.
use Prim.Native.Nat.{ℕ, ◌+◌, ◌≤◌, ◌<◌}
use mathlib.Core.Path.{◌≡◌, refl}
use mathlib.Core.Bool.{Bool, true, false}
use lib.Dec.{ltb, leb, eqb}
use borrow.Author.Tests.{leb-true, leb-false, ltb-true, ltb-false, eqb-true, eqb-false, le-leb, lt-leb, lt-ltb, le-ltb, eq-eqb, ne_eqb}
use native.Mathlib.Omega.{arith}
use Rattle.layouts.specs.Primitive.{pick, pad_of}
use Rattle.layouts.specs.Pieces.{Num, value, short, Text, whole, cut, bad, Chunk, part, last, wrong, num_of, text_of, chunk_of}

pub data NumView (size n at : ℕ) : Num → Type 0 where
  is_value : at + 8 ≤ size → NumView size n at (value n)
  is_short : size < at + 8 → NumView size n at short

pub data TextView (size n at : ℕ) : Text → Type 0 where
  no_length : size < at + 8 → TextView size n at (bad 1 at)
  too_long_there : at + 8 ≤ size → 268435456 < n → TextView size n at (bad 2 at)
  no_contents : at + 8 ≤ size → n ≤ 268435456 → size < at + 8 + n → TextView size n at (bad 1 (at + 8))
  no_padding : at + 8 + n ≤ size → n ≤ 268435456 → size < at + 8 + n + pad_of n → TextView size n at (cut (at + 8) n)
  is_whole : at + 8 + n + pad_of n ≤ size → n ≤ 268435456 → TextView size n at (whole (at + 8) n (at + 8 + n + pad_of n))

pub data ChunkView (size n at : ℕ) : Chunk → Type 0 where
  no_size : size < at + 8 → ChunkView size n at (wrong 1 at)
  is_last : at + 8 ≤ size → n ≡ 0 → ChunkView size n at (last (at + 8))
  too_large : at + 8 ≤ size → 268435456 < n → ChunkView size n at (wrong 2 at)
  no_bytes : at + 8 ≤ size → 0 < n → n ≤ 268435456 → size < at + 8 + n → ChunkView size n at (wrong 1 (at + 8))
  is_part : at + 8 + n ≤ size → 0 < n → n ≤ 268435456 → ChunkView size n at (part (at + 8) n (at + 8 + n))

module _ (size n at : ℕ) where
  num_by : (a : Bool) → leb (at + 8) size ≡ a → NumView size n at (pick a (value n) short)
  num_by true e = is_value (leb-true (at + 8) size e)
  num_by false e = is_short (leb-false (at + 8) size e)

  pub num_view : NumView size n at (num_of size n at)
  unfolding num_of
  num_view = num_by (leb (at + 8) size) refl

  text_by : (a b c d : Bool) → leb (at + 8) size ≡ a → ltb 268435456 n ≡ b → leb (at + 8 + n) size ≡ c → leb (at + 8 + n + pad_of n) size ≡ d
      → TextView size n at (pick a (pick b (bad 2 at) (pick c (pick d (whole (at + 8) n (at + 8 + n + pad_of n)) (cut (at + 8) n)) (bad 1 (at + 8)))) (bad 1 at))
  text_by false b c d p q r t = no_length (leb-false (at + 8) size p)
  text_by true true c d p q r t = too_long_there (leb-true (at + 8) size p) (ltb-true 268435456 n q)
  text_by true false false d p q r t = no_contents (leb-true (at + 8) size p) (ltb-false 268435456 n q) (leb-false (at + 8 + n) size r)
  text_by true false true false p q r t = no_padding (leb-true (at + 8 + n) size r) (ltb-false 268435456 n q) (leb-false (at + 8 + n + pad_of n) size t)
  text_by true false true true p q r t = is_whole (leb-true (at + 8 + n + pad_of n) size t) (ltb-false 268435456 n q)

  pub text_view : TextView size n at (text_of size n at)
  unfolding text_of
  text_view = text_by (leb (at + 8) size) (ltb 268435456 n) (leb (at + 8 + n) size) (leb (at + 8 + n + pad_of n) size) refl refl refl refl

  chunk_by : (a z b c : Bool) → leb (at + 8) size ≡ a → eqb n 0 ≡ z → ltb 268435456 n ≡ b → leb (at + 8 + n) size ≡ c
      → ChunkView size n at (pick a (pick z (last (at + 8)) (pick b (wrong 2 at) (pick c (part (at + 8) n (at + 8 + n)) (wrong 1 (at + 8))))) (wrong 1 at))
  chunk_by false z b c p o q r = no_size (leb-false (at + 8) size p)
  chunk_by true true b c p o q r = is_last (leb-true (at + 8) size p) (eqb-true n 0 o)
  chunk_by true false true c p o q r = too_large (leb-true (at + 8) size p) (ltb-true 268435456 n q)
  chunk_by true false false false p o q r =
      let z = eqb-false n 0 o in no_bytes (leb-true (at + 8) size p) (omega arith) (ltb-false 268435456 n q) (leb-false (at + 8 + n) size r)
  chunk_by true false false true p o q r =
      let z = eqb-false n 0 o in is_part (leb-true (at + 8 + n) size r) (omega arith) (ltb-false 268435456 n q)

  pub chunk_view : ChunkView size n at (chunk_of size n at)
  unfolding chunk_of
  chunk_view = chunk_by (leb (at + 8) size) (eqb n 0) (ltb 268435456 n) (leb (at + 8 + n) size) refl refl refl refl

  -- back
  pub num_value : at + 8 ≤ size → num_of size n at ≡ value n
  unfolding num_of
  num_value h = simp (le-leb (at + 8) size h)

  pub num_short : size < at + 8 → num_of size n at ≡ short
  unfolding num_of
  num_short h = simp (lt-leb (at + 8) size h)

  pub text_short : size < at + 8 → text_of size n at ≡ bad 1 at
  unfolding text_of
  text_short h = simp (lt-leb (at + 8) size h)

  pub text_long : at + 8 ≤ size → 268435456 < n → text_of size n at ≡ bad 2 at
  unfolding text_of
  text_long g h = simp (le-leb (at + 8) size g, lt-ltb 268435456 n h)

  pub chunk_long : at + 8 ≤ size → 268435456 < n → chunk_of size n at ≡ wrong 2 at
  unfolding chunk_of
  chunk_long g h =
      let y : n ≡ 0 → ⊥ = omega arith in
      simp (le-leb (at + 8) size g, ne_eqb n 0 y, lt-ltb 268435456 n h)

  module _ (l : n ≤ 268435456) where
    pub text_contents : at + 8 ≤ size → size < at + 8 + n → text_of size n at ≡ bad 1 (at + 8)
    unfolding text_of
    text_contents g h = simp (le-leb (at + 8) size g, le-ltb 268435456 n l, lt-leb (at + 8 + n) size h)

    pub text_cut : at + 8 + n ≤ size → size < at + 8 + n + pad_of n → text_of size n at ≡ cut (at + 8) n
    unfolding text_of
    text_cut g h =
        let f : at + 8 ≤ size = omega arith in
        simp (le-leb (at + 8) size f, le-ltb 268435456 n l, le-leb (at + 8 + n) size g, lt-leb (at + 8 + n + pad_of n) size h)

    pub text_whole : at + 8 + n + pad_of n ≤ size → text_of size n at ≡ whole (at + 8) n (at + 8 + n + pad_of n)
    unfolding text_of
    text_whole h =
        let f : at + 8 ≤ size = omega arith in
        let g : at + 8 + n ≤ size = omega arith in
        simp (le-leb (at + 8) size f, le-ltb 268435456 n l, le-leb (at + 8 + n) size g, le-leb (at + 8 + n + pad_of n) size h)

    pub chunk_cut : at + 8 ≤ size → 0 < n → size < at + 8 + n → chunk_of size n at ≡ wrong 1 (at + 8)
    unfolding chunk_of
    chunk_cut g z h =
        let y : n ≡ 0 → ⊥ = omega arith in
        simp (le-leb (at + 8) size g, ne_eqb n 0 y, le-ltb 268435456 n l, lt-leb (at + 8 + n) size h)

    pub chunk_part : 0 < n → at + 8 + n ≤ size → chunk_of size n at ≡ part (at + 8) n (at + 8 + n)
    unfolding chunk_of
    chunk_part z h =
        let y : n ≡ 0 → ⊥ = omega arith in
        let g : at + 8 ≤ size = omega arith in
        simp (le-leb (at + 8) size g, ne_eqb n 0 y, le-ltb 268435456 n l, le-leb (at + 8 + n) size h)

  pub chunk_short : size < at + 8 → chunk_of size n at ≡ wrong 1 at
  unfolding chunk_of
  chunk_short h = simp (lt-leb (at + 8) size h)

  pub chunk_last : at + 8 ≤ size → n ≡ 0 → chunk_of size n at ≡ last (at + 8)
  unfolding chunk_of
  chunk_last g z = simp (le-leb (at + 8) size g, eq-eqb n 0 z)
