-- A series, string by string.
use Prim.Native.Nat.{ℕ, zero, suc, ◌+◌, ◌-◌, ◌≤◌, ◌<◌}
use mathlib.Core.Path.{◌≡◌, refl, sym, ◌∙◌, ap, subst}
use mathlib.Core.List.{List}
use mathlib.Core.Bool.{Bool, true, false}
use native.Mathlib.Omega.{arith}
use lib.ListN.{length}
use lib.Dec.{ltb, eqb}
use borrow.Author.Tests.{eqb-true, ltb-true, ltb-false}
use Rattle.layouts.specs.Primitive.{pick, number_at, pad_of}
use Rattle.layouts.specs.declared.Refusal.{Refusal}
use Rattle.layouts.specs.Refusal.{plain}
use Rattle.layouts.specs.Shape.{Role, Tree, say, strings, units}
use Rattle.layouts.specs.Pieces.{Pieces, Text, whole, cut, bad, text_of, after_text, run, skip_of}
use Rattle.layouts.specs.Calls.{peek_number}
use Rattle.layouts.proofs.Views.{TextView, no_length, too_long_there, no_contents, no_padding, is_whole, text_view}
use Rattle.pieces.specs.Pieces.{num_read, text_found}
use Rattle.pieces.proofs.Numbers.{number_known}
use Rattle.pieces.proofs.Found.{text_told_lem, whole_string}
use Rattle.pieces.proofs.Nodes.{whole_found}
use Rattle.walk_strings.specs.Strings.{series, series_after, after_next, passed_to, Passes, PastFrom, Strides, Expected}
use Rattle.pieces.specs.declared.Text as T
use Rattle.walk_strings.specs.declared.More.{More}
use Rattle.pieces.specs.declared.Text.TheVariants.{Half}
use Rattle.pieces.specs.declared.Text.TheVariants.{Whole}
use Rattle.std.specs.Prelude.{Option, Some, None, Ok, Err, Result}

module _ (m : Role) (e : ℕ) (k : Unit {0} → Tree) where
  series_pend : (p l : ℕ) → 0 < p → series m p e l k ≡ say m (λ u. series m (p - 1) e l k)
  unfolding series strings
  series_pend zero l h = absurd (omega arith)
  series_pend (suc p) l h = let z : suc p - 1 ≡ p = omega arith in rw z

  series_left : (p l : ℕ) → p ≤ 0 → 0 < l → series m p e l k ≡ say m (λ u. series m e e (l - 1) k)
  unfolding series strings units
  series_left zero zero h g = absurd (omega arith)
  series_left zero (suc l) h g = let z : suc l - 1 ≡ l = omega arith in rw z
  series_left (suc p) l h g = absurd (omega arith)

  series_none : (p l : ℕ) → p ≤ 0 → l ≤ 0 → series m p e l k ≡ k tt
  unfolding series strings units
  series_none zero zero h g = refl
  series_none zero (suc l) h g = absurd (omega arith)
  series_none (suc p) l h g = absurd (omega arith)

  next_by : (p l : ℕ) (a b : Bool) → ltb 0 p ≡ a → ltb 0 l ≡ b → series m p e l k ≡ series_after m e k (pick a (Some (record { pend = (p - 1); left = l })) (pick b (Some (record { pend = e; left = (l - 1) })) None))
  next_by p l true b x y = series_pend p l (ltb-true 0 p x)
  next_by p l false true x y = series_left p l (ltb-false 0 p x) (ltb-true 0 l y)
  next_by p l false false x y = series_none p l (ltb-false 0 p x) (ltb-false 0 l y)

  pub series_next : (p l : ℕ) (x : Option More) → x ≡ after_next p e l → series m p e l k ≡ series_after m e k x
  series_next p l x h = next_by p l _ _ refl refl ∙ ap (series_after m e k) (sym h)

-- ---- a string that is as long as expected
module _ (s : List ℕ) (at n : ℕ) (r : Option ℕ) (e : num_read r ≡ peek_number s at) (q : r ≡ Some n) where
  module _ (x step : ℕ) (g : Strides x step) (long : 256 ≤ step) (fits : step ≤ length s - at) where
    expected_by : (b : Bool) → eqb n x ≡ b → Expected s at x step b
    expected_by true z =
        let h = eqb-true n x z in
        let d = g long in
        let k = number_known s at r e n q in
        let next : at + step ≡ at + 8 + n + pad_of n = ap (λ (i : ℕ). at + i) d.1 ∙ ap (λ (i : ℕ). at + (8 + i + pad_of i)) (sym h) ∙ omega arith in
        rw (next, ← h) (whole_string s at n k (pad_of n) refl (omega arith) (omega arith) (omega arith))
    expected_by false z = tt

    pub expected : Expected s at x step (eqb n x)
    expected = expected_by _ refl

module _ (s : List ℕ) (at n step : ℕ) (b : Bool) (e : Expected s at n step b) (h : b ≡ true) where
  pub expected_told : (Ok (Whole (at + 8) n (at + step))) ≡ text_found (text_of (length s) (number_at s at) at)
  expected_told = subst (Expected s at n step) h e

  pub expected_fits : (at + 8 ≤ at + step) × (at + step ≤ length s)
  expected_fits = let z = whole_found s at _ expected_told _ _ _ refl in (z.0, z.1)

-- the step past a string that was found
abbrev StrideOf : (at : ℕ) → Text → Type 0
StrideOf at (whole start len next) = Strides len (next - at)
StrideOf at (cut start len) = Unit {0}
StrideOf at (bad which place) = Unit {0}

stride_says : {size n at : ℕ} {m : Text} → TextView size n at m → StrideOf at m
stride_says (no_length h) = tt
stride_says (too_long_there h l) = tt
stride_says (no_contents h l c) = tt
stride_says (no_padding h l c) = tt
stride_says {size} {n} {at} (is_whole h l) = λ long. (l, omega arith)

pub stride_found : (s : List ℕ) (at : ℕ) (r : Result T.Text Refusal) → r ≡ text_found (text_of (length s) (number_at s at) at) → (start len next : ℕ) → r ≡ Ok (Whole start len next) → Strides len (next - at)
stride_found s at r t start len next q = subst (StrideOf at) (sym (text_told_lem s at r t _ q)) (stride_says (text_view (length s) (number_at s at) at))

-- ---- a string that is passed over
abbrev pub text_passed : Result T.Text Refusal → Result ℕ Refusal
text_passed (Ok (Whole start len next)) = Ok next
text_passed (Ok (Half start len)) = Err (plain 1 (start + len))
text_passed (Err r) = Err r

pub half_passed : (r : Result T.Text Refusal) (start len : ℕ) → r ≡ Ok (Half start len) → (x : Refusal) → x ≡ plain 1 (start + len) → text_passed r ≡ Err x
half_passed r start len q x e = ap text_passed q ∙ ap Err (sym e)

text_skips : (x : Text) (m : Role) (k : ℕ → Pieces) → skip_of (after_text x m k) ≡ passed_to (text_passed (text_found x)) (λ a. skip_of (k a))
unfolding after_text skip_of
text_skips (whole start len next) m k = refl
text_skips (cut start len) m k = refl
text_skips (bad which place) m k = refl

pub text_passes : (s : List ℕ) (at : ℕ) (r : Result T.Text Refusal) → r ≡ text_found (text_of (length s) (number_at s at) at) → (x : Result ℕ Refusal) → text_passed r ≡ x → (m : Role) → Passes s at (say m) x
unfolding run
text_passes s at r t x q m k =
    text_skips (text_of (length s) (number_at s at) at) m (λ a. run (k tt) s a) ∙ ap (λ (y : Result ℕ Refusal). passed_to y (λ a. skip_of (run (k tt) s a))) (ap text_passed (sym t) ∙ q)

-- ---- the series from a place on is skipped as the whole
pub record Passing (s : List ℕ) (e from p₀ l₀ at p l : ℕ) : Type 0 where
  pub on : from ≤ at
  pub same : (m : Role) (k : Unit {0} → Tree) → skip_of (run (series m p₀ e l₀ k) s from) ≡ skip_of (run (series m p e l k) s at)

pub passing_start : (s : List ℕ) (e from p l : ℕ) → Passing s e from p l from p l
passing_start s e from p l = record { on = omega arith; same = λ m k. refl }

module _ (s : List ℕ) (e from p₀ l₀ at p l : ℕ) (g : Passing s e from p₀ l₀ at p l) (x : Option More) (h : x ≡ after_next p e l) where
  abbrev Meets : Result ℕ Refusal → Type 0
  Meets r = ((m : Role) → Passes s from (series m p₀ e l₀) r) × PastFrom from r

  at_next : (y : Option More) → x ≡ y → (m : Role) (k : Unit {0} → Tree) → skip_of (run (series m p₀ e l₀ k) s from) ≡ skip_of (run (series_after m e k y) s at)
  at_next y q m k = g.same m k ∙ ap (λ (t : Tree). skip_of (run t s at)) (series_next m e k p l x h ∙ ap (series_after m e k) q)

  pub passing_end : x ≡ None → Meets (Ok at)
  passing_end q = (at_next None q, g.on)

  module _ (p' l' : ℕ) (q : x ≡ Some (record { pend = p'; left = l' })) (r : Result T.Text Refusal) (t : r ≡ text_found (text_of (length s) (number_at s at) at)) where
    there : (y : Result ℕ Refusal) → text_passed r ≡ y → (m : Role) (k : Unit {0} → Tree) → skip_of (run (series m p₀ e l₀ k) s from) ≡ passed_to y (λ a. skip_of (run (series m p' e l' k) s a))
    there y f m k = at_next (Some (record { pend = p'; left = l' })) q m k ∙ text_passes s at r t y f m (λ u. series m p' e l' k)

    pub passing_refused : (y : Refusal) → text_passed r ≡ Err y → Meets (Err y)
    passing_refused y f = (there (Err y) f, tt)

    pub passing_on : (start len next : ℕ) → r ≡ Ok (Whole start len next) → Passing s e from p₀ l₀ next p' l'
    passing_on start len next f =
        let z = whole_found s at r t start len next f in
        let o = g.on in
        record { on = omega (arith, z); same = there (Ok next) (ap text_passed f) }

  pub passing_expected : (p' l' : ℕ) → x ≡ Some (record { pend = p'; left = l' }) → (n step : ℕ) (b : Bool) → Expected s at n step b → b ≡ true → Passing s e from p₀ l₀ (at + step) p' l'
  passing_expected p' l' q n step b f i = passing_on p' l' q (Ok (Whole (at + 8) n (at + step))) (expected_told s at n step b f i) (at + 8) n (at + step) refl
