-- Decimal digits, the last one first.
use Prim.Native.Nat.{ℕ, zero, suc, ◌+◌, ◌-◌, ◌/◌, ◌%◌, ◌≤◌, ◌<◌}
use mathlib.Core.Path.{◌≡◌, sym, ap, ◌∙◌}
use mathlib.Core.List.{List, [], ◌∷◌, ◌++◌, append-nil, append_assoc}
use lib.ListN.{length, set, take, drop, length-set, length-drop, drop_of_length-le}
use lib.Seq.{drop-cons, get_or-set_same, drop-set-lt, take_all}
use native.Mathlib.Omega.{arith}
use borrow.Author.Tests.{lt-ltb, le-ltb, ne_eqb}
use Rattle.layouts.specs.Writers.{digits, decimal, mode_text}

-- a digit put before those that are there
drop_set : (text : List ℕ) (i v : ℕ) → i < length text → drop i (set text i v) ≡ v ∷ drop (suc i) text
drop_set text i v h =
    let l = length-set text i v in
    drop-cons (set text i v) i 0 (omega arith) ∙ simp (get_or-set_same text i v 0 h, drop-set-lt (suc i) text i v (omega arith))

pub digits_start : (text : List ℕ) (n : ℕ) → length text ≡ 20 → (digits 20 n ++ drop 20 text ≡ digits 20 n) × (length text ≡ 20)
digits_start text n h = (ap (λ (l : List ℕ). digits 20 n ++ l) (drop_of_length-le text {i = 20} (omega arith)) ∙ append-nil (digits 20 n), h)

module _ (text : List ℕ) (x : ℕ) (d : List ℕ) where
  pub digits_last : (i : ℕ) → 0 < i → i ≤ length text → x < 10 → digits i x ++ drop i text ≡ d → drop (i - 1) (set text (i - 1) (48 + x % 10)) ≡ d
  unfolding digits
  digits_last zero h g l e = absurd (omega arith)
  digits_last (suc i) h g l e =
      let m : x % 10 ≡ x = omega arith in
      let t = lt-ltb x 10 l in
      let e' = simp t at e in
      let p : suc i - 1 ≡ i = omega arith in
      rw p (drop_set text i (48 + x % 10) (omega arith) ∙ rw m e')

  pub digits_turn : (i : ℕ) → 0 < i → i ≤ length text → 10 ≤ x → digits i x ++ drop i text ≡ d
      → digits (i - 1) (x / 10) ++ drop (i - 1) (set text (i - 1) (48 + x % 10)) ≡ d
  unfolding digits
  digits_turn zero h g l e = absurd (omega arith)
  digits_turn (suc i) h g l e =
      let t = le-ltb x 10 l in
      let e' = simp (t, append_assoc) at e in
      let p : suc i - 1 ≡ i = omega arith in
      rw p (ap (λ (l : List ℕ). digits i (x / 10) ++ l) (drop_set text i (48 + x % 10) (omega arith)) ∙ e')

  pub digits_over : (i : ℕ) → i ≡ 0 → digits i x ++ drop i text ≡ d → text ≡ d
  unfolding digits
  digits_over zero h e = e
  digits_over (suc i) h e = absurd (omega arith)

-- the part of `text` from i on
pub decimal_part : (text : List ℕ) (i n : ℕ) → length text ≡ 20 → drop i text ≡ decimal n → (b : List ℕ) → take (20 - i) (drop i text) ++ b ≡ decimal n ++ b
decimal_part text i n h e b =
    let d = length-drop i text in
    ap (λ (l : List ℕ). l ++ b) (take_all (20 - i) (drop i text) (omega arith) ∙ e)

-- ---- modes
pub mode_named : (n k : ℕ) → n ≡ k → mode_text k ++ [] ≡ mode_text n
mode_named n k e = append-nil (mode_text k) ∙ ap mode_text (sym e)

pub mode_other : (n : ℕ) → (n ≡ 0 → ⊥) → (n ≡ 1 → ⊥) → (n ≡ 2 → ⊥) → decimal n ++ [] ≡ mode_text n
unfolding mode_text
mode_other n a b c = append-nil (decimal n) ∙ simp (ne_eqb n 0 a, ne_eqb n 1 b, ne_eqb n 2 c)
