-- A number at the start of a part is one of the whole, at any width, and what the code knows of a number that it found.
use Prim.Native.Nat.{ℕ, ◌+◌, ◌-◌, ◌≤◌, ◌<◌}
use mathlib.Core.Path.{◌≡◌, refl, sym, ◌∙◌, ap, subst}
use mathlib.Core.List.{List}
use lib.ListN.{length, take, drop, length-drop}
use lib.Seq.{take_all}
use lib.Dec.{leb, ltb}
use borrow.Author.Tests.{le-leb, lt-leb, lt-ltb, le-ltb}
use native.Mathlib.Omega.{arith}
use native.Mathlib.Decide.{dec_le}
use Rattle.layouts.specs.Primitive.{pick, little_at, number_at}
use Rattle.layouts.specs.Pieces.{Num, value, short, num_of}
use Rattle.layouts.specs.Calls.{peek_number}
use Rattle.layouts.proofs.Little.{little_drop}
use Rattle.numbers.specs.Number.{number_of, four_of}
use Rattle.pieces.specs.Pieces.{num_read, word_at}
use Rattle.std.specs.Prelude.{Option, Some, None}
use Rattle.std.specs.Prelude.{IfOk, IfErr, ok_or}
use Rattle.layouts.specs.declared.Refusal.{Refusal}
use Rattle.layouts.specs.Refusal.{plain}

-- what is said of an answer, of the case that it is
pub as_told : {A B : Type 0} (f : A → B) {x y : A} {b : B} → x ≡ y → f x ≡ b → f y ≡ b
as_told f q e = ap f (sym q) ∙ e

-- the part &s[at..]
pub part_tail : (s : List ℕ) (at : ℕ) → take (length s - at) (drop at s) ≡ drop at s
part_tail s at = take_all (length s - at) (drop at s) (simp length-drop (omega arith))

word_by : (k v w : ℕ) (s : List ℕ) (at : ℕ) → at ≤ length s → v ≡ w → Dec (at + k ≤ length s)
    → num_read (pick (ltb (length (drop at s)) k) None (Some v)) ≡ pick (leb (at + k) (length s)) (value w) short
word_by k v w s at h e (yes g) =
    let f : k ≤ length (drop at s) = simp length-drop (omega arith) in
    simp (le-ltb (length (drop at s)) k f, le-leb (at + k) (length s) g, e)
word_by k v w s at h e (no g) =
    let f : length (drop at s) < k = simp length-drop (omega arith) in
    let l : length s < at + k = omega arith in
    simp (lt-ltb (length (drop at s)) k f, lt-leb (at + k) (length s) l)

module _ (s : List ℕ) (at : ℕ) where
  word_part : (k : ℕ) → at ≤ length s → num_read (pick (ltb (length (drop at s)) k) None (Some (little_at k (drop at s) 0))) ≡ word_at k s at
  word_part k h = word_by k (little_at k (drop at s) 0) (little_at k s at) s at h (little_drop k s at 0 ∙ ap (little_at k s) (omega arith)) (dec_le (at + k) (length s))

  pub number_part : at ≤ length s → num_read (number_of (take (length s - at) (drop at s))) ≡ peek_number s at
  unfolding num_of number_at
  number_part h = rw part_tail (word_part 8 h)

  pub four_part : at ≤ length s → num_read (four_of (take (length s - at) (drop at s))) ≡ word_at 4 s at
  four_part h = rw part_tail (word_part 4 h)

  pub four_past : length s < at → short ≡ word_at 4 s at
  four_past h = let l : length s < at + 4 = omega arith in simp (lt-leb (at + 4) (length s) l)

-- ---- what is known of a number that was found, or was not
module _ (k : ℕ) (s : List ℕ) (at : ℕ) where
  abbrev Says : Num → Type 0
  Says (value n) = (at + k ≤ length s) × (n ≡ little_at k s at)
  Says short = length s < at + k

  says_by : Dec (at + k ≤ length s) → Says (word_at k s at)
  says_by (yes h) = rw (le-leb (at + k) (length s) h) (h, refl)
  says_by (no h) = let l : length s < at + k = omega arith in rw (lt-leb (at + k) (length s) l) l

  module _ (r : Option ℕ) (e : num_read r ≡ word_at k s at) where
    pub word_known : (n : ℕ) → r ≡ Some n → Says (value n)
    word_known n q = subst Says (sym (as_told num_read q e)) (says_by (dec_le (at + k) (length s)))

    pub word_short : r ≡ None → Says short
    word_short q = subst Says (sym (as_told num_read q e)) (says_by (dec_le (at + k) (length s)))

module _ (s : List ℕ) (at : ℕ) (r : Option ℕ) (e : num_read r ≡ peek_number s at) where
  pub number_known : (n : ℕ) → r ≡ Some n → (at + 8 ≤ length s) × (n ≡ number_at s at)
  unfolding num_of number_at
  number_known n q = word_known 8 s at r e n q

  pub number_short : r ≡ None → length s < at + 8
  unfolding num_of number_at
  number_short q = word_short 8 s at r e q

-- the same where one that is cut short is refused
module _ (s : List ℕ) (at : ℕ) (x : Refusal) (p : x ≡ plain 1 at) where
  pub whole_number : (r : Option ℕ) → num_read r ≡ peek_number s at → IfOk (ok_or r x) (λ n. (at + 8 ≤ length s) × (n ≡ number_at s at))
  whole_number (Some n) e = number_known s at (Some n) e n refl
  whole_number None e = tt

  pub cut_number : (r : Option ℕ) → num_read r ≡ peek_number s at → IfErr (ok_or r x) (λ y. (length s < at + 8) × (y ≡ plain 1 at))
  cut_number (Some n) e = tt
  cut_number None e = (number_short s at None e refl, p)
