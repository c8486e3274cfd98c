-- The numbers of entries in lent bytes, one by one; and of what is lent in both forms: with one of the two empty they are those of the other.
use Prim.Native.Nat.{ℕ, zero, suc, ◌+◌, ◌-◌, ◌*◌, ◌/◌, ◌≤◌, ◌<◌}
use mathlib.Core.Path.{◌≡◌, refl, sym, ◌∙◌, ap}
use mathlib.Core.List.{List, [], ◌∷◌, append-nil}
use native.Mathlib.Omega.{arith}
use borrow.Author.Tests.{le-leb}
use lib.ListN.{length, get_or, length-append, get_or-append}
use lib.Seq.{get_or-append-add}
use Rattle.layouts.specs.Primitive.{number_at}
use Rattle.layouts.specs.Pieces.{value, short, num_of}
use Rattle.layouts.specs.Calls.{peek_number}
use Rattle.pieces.specs.Pieces.{num_read}
use Rattle.layouts.specs.Writers.{slots_of}
use Rattle.entries.specs.Entries.{slots_in_both, numbers_from, entries_in, numbers_in}
use Rattle.entries.specs.Forms.{how_many}
use Rattle.std.specs.Prelude.{Option, Some, None, unwrap_or}

number_in : (n at : ℕ) (b : List ℕ) (k : ℕ) → k < n → get_or (numbers_from n at b) k 0 ≡ number_at b (at + 8 * k)
unfolding numbers_from
number_in zero at b k h = absurd (omega arith)
number_in (suc n) at b zero h = ap (number_at b) (omega arith)
number_in (suc n) at b (suc k) h = number_in n (at + 8) b k (omega arith) ∙ ap (number_at b) (omega arith)

module _ (bytes : List ℕ) where
  module _ (k : ℕ) (g : k < length (entries_in bytes)) where
    pub place_fits : 8 * k + 8 ≤ length bytes
    place_fits = omega (arith, how_many bytes)

    in_bytes : get_or (entries_in bytes) k 0 ≡ number_at bytes (8 * k)
    in_bytes = let m = how_many bytes in number_in (2 * (length bytes / 16)) 0 bytes k (omega arith) ∙ ap (number_at bytes) (omega arith)

    module _ (r : Option ℕ) (e : num_read r ≡ peek_number bytes (8 * k)) where
      there : num_read r ≡ value (get_or (entries_in bytes) k 0)
      unfolding num_of
      there =
          let l = le-leb (8 * k + 8) (length bytes) place_fits in
          let n = in_bytes in
          e ∙ simp (l, n)

      pub number_or : (y : Option ℕ) → r ≡ y → unwrap_or y 0 ≡ get_or (entries_in bytes) k 0
      number_or (Some n) q = let z : value n ≡ value (get_or (entries_in bytes) k 0) = sym (ap num_read q) ∙ there in cc
      number_or None q = let z : short ≡ value (get_or (entries_in bytes) k 0) = sym (ap num_read q) ∙ there in cc

-- there is none past the last
pub number_past : (es : List ℕ) (k : ℕ) → length es ≤ k → 0 ≡ get_or es k 0
number_past [] k h = refl
number_past (n ∷ es) zero h = absurd (omega arith)
number_past (n ∷ es) (suc k) h = number_past es k (omega arith)

-- ---- both forms
pub both_slots : (x y m n : ℕ) → x ≡ m → y ≡ n → x + y ≡ m + n
both_slots x y m n p q = rw (p, q)

pub with_words : (words : List ℕ) → numbers_in words [] ≡ words
unfolding numbers_in numbers_from
with_words words = append-nil words

pub with_bytes : (bytes : List ℕ) → numbers_in [] bytes ≡ entries_in bytes
unfolding numbers_in
with_bytes bytes = refl

module _ (words bytes : List ℕ) where
  pub both_counted : slots_in_both words bytes ≡ slots_of (numbers_in words bytes)
  unfolding numbers_in
  both_counted = let m = how_many bytes in omega (arith, length-append words (entries_in bytes))

  module _ (k : ℕ) where
    pub in_words : k < length words → get_or words k 0 ≡ get_or (numbers_in words bytes) k 0
    unfolding numbers_in
    in_words h = sym (get_or-append words (entries_in bytes) 0 k h)

    pub in_bytes_behind : length words ≤ k → get_or (entries_in bytes) (k - length words) 0 ≡ get_or (numbers_in words bytes) k 0
    unfolding numbers_in
    in_bytes_behind h =
        let e : length words + (k - length words) ≡ k = omega arith in
        sym (get_or-append-add words (entries_in bytes) (k - length words) 0) ∙ ap (λ (j : ℕ). get_or (numbers_in words bytes) j 0) e
