-- A string as it is judged.
use Prim.Native.Nat.{ℕ, ◌+◌, ◌-◌, ◌≤◌, ◌<◌}
use mathlib.Core.Path.{◌≡◌, refl, ap}
use mathlib.Core.List.{List}
use mathlib.Core.Bool.{Bool, true, false, not, ◌&&◌}
use lib.ListN.{length, take, drop, length-take, length-drop}
use native.Mathlib.Omega.{arith}
use Rattle.text.specs.Prefix.{good_prefix, is_text}
use Rattle.text.proofs.Meaning.{good_within, text_whole, is_text_lem}
use Rattle.layouts.specs.Primitive.{pick, number_at, ok}
use Rattle.layouts.specs.declared.Refusal.{Refusal}
use Rattle.layouts.specs.Refusal.{refused_by, plain}
use Rattle.layouts.specs.Pieces.{text_of}
use Rattle.layouts.specs.Shape.{Role}
use Rattle.layouts.specs.Judge.{is_decoded, not_text, text_end, half_taken}
use Rattle.layouts.proofs.Judge.{bad_inside}
use Rattle.pieces.specs.Pieces.{span, text_found, role_of, text_to, span_of, string_at}
use Rattle.pieces.proofs.Found.{text_read, text_told_lem, bad_plain}
use Rattle.pieces.specs.declared.Text as T
use Rattle.pieces.specs.declared.Text.TheVariants.{Half}
use Rattle.pieces.specs.declared.Text.TheVariants.{Whole}
use Rattle.std.specs.Prelude.{Ok, Err, Result}

-- where the text of a string ends
pub text_inside : (s : List ℕ) (start len n : ℕ) → n ≡ good_prefix (take (start + len - start) (drop start s)) → n ≤ len
text_inside s start len n e =
    let c = take (start + len - start) (drop start s) in
    omega (arith, good_within c, length-take (start + len - start) (drop start s))

module _ (s : List ℕ) (m : Role) (start len : ℕ) where
  pub text_passed_lem : is_decoded m ≡ false → start + len ≡ text_to s m start len
  unfolding text_to not_text
  text_passed_lem d = rw d

  pub text_decoded : (n : ℕ) → is_decoded m ≡ true → start + len ≤ length s → n ≡ good_prefix (take (start + len - start) (drop start s)) → start + n ≡ text_to s m start len
  unfolding text_to not_text text_end
  text_decoded n d h e = rw d (by (is_text c) refl)
    where
      c : List ℕ
      c = take len (drop start s)

      k : start + len - start ≡ len
      k = omega arith

      by : (b : Bool) → is_text c ≡ b → start + n ≡ pick (true && not b) (start + good_prefix c) (start + len)
      by true q = let g = text_whole c (is_text_lem c q) in let l = length-take len (drop start s) in let w = length-drop start s in let f = rw k at e in omega arith
      by false q = ap (λ (i : ℕ). start + i) (rw k at e)

  -- it ends before the contents exactly where the string is not text
  module _ (to : ℕ) (e : to ≡ text_to s m start len) where
    pub ends_early : to < start + len → (not_text s m start len ≡ true) × (to ≡ text_end s start len)
    unfolding text_to
    ends_early l = by (not_text s m start len) refl e
      where
        by : (b : Bool) → not_text s m start len ≡ b → to ≡ pick b (text_end s start len) (start + len) → (b ≡ true) × (to ≡ text_end s start len)
        by true q f = (refl, f)
        by false q f = absurd (omega arith)

    pub ends_with : start + len ≤ to → not_text s m start len ≡ false
    unfolding text_to
    ends_with l = by (not_text s m start len) refl e
      where
        by : (b : Bool) → not_text s m start len ≡ b → to ≡ pick b (text_end s start len) (start + len) → b ≡ false
        by true q f = let i = bad_inside s m start len q in absurd (omega arith)
        by false q f = refl

-- each way through the code that judges a string
module _ (s : List ℕ) (d : Bool) (at : ℕ) (r : Result T.Text Refusal) (e : r ≡ text_found (text_of (length s) (number_at s at) at)) where
  found_as : (t : Result T.Text Refusal) → r ≡ t → span_of s (role_of d) (text_read t) ≡ string_at s d at
  unfolding string_at
  found_as t q = ap (span_of s (role_of d)) (text_told_lem s at r e _ q)

module _ (s : List ℕ) (d : Bool) (at : ℕ) (v : T.Text) (e : Ok v ≡ text_found (text_of (length s) (number_at s at) at)) where
  string_as : (t : T.Text) → v ≡ t → span_of s (role_of d) (text_read (Ok t)) ≡ string_at s d at
  string_as t q = found_as s d at (Ok v) e (Ok t) (ap Ok q)

  module _ (start len to : ℕ) (f : to ≡ text_to s (role_of d) start len) where
    module _ (next : ℕ) (q : v ≡ Whole start len next) where
      pub whole_fine : start + len ≤ to → ok (span start len next) ≡ string_at s d at
      unfolding span_of
      whole_fine l = rw (ends_with s (role_of d) start len to f l) at (string_as (Whole start len next) q)

      pub whole_bad : to < start + len → (x : Refusal) → x ≡ plain 3 to → refused_by x ≡ string_at s d at
      unfolding span_of
      whole_bad l x p = let z = ends_early s (role_of d) start len to f l in rw (p, z.1) (rw z.0 at (string_as (Whole start len next) q))

    module _ (q : v ≡ Half start len) where
      pub half_fine : start + len ≤ to → (x : Refusal) → x ≡ plain 1 (start + len) → refused_by x ≡ string_at s d at
      unfolding span_of half_taken
      half_fine l x p = rw p (rw (ends_with s (role_of d) start len to f l) at (string_as (Half start len) q))

      pub half_bad : to < start + len → (x : Refusal) → x ≡ plain 3 to → refused_by x ≡ string_at s d at
      unfolding span_of half_taken
      half_bad l x p = let z = ends_early s (role_of d) start len to f l in rw (p, z.1) (rw z.0 at (string_as (Half start len) q))

pub not_there : (s : List ℕ) (d : Bool) (at : ℕ) (x : Refusal) → Err x ≡ text_found (text_of (length s) (number_at s at) at) → refused_by x ≡ string_at s d at
unfolding span_of
not_there s d at x e = rw (bad_plain s at (Err x) e x refl) (found_as s d at (Err x) e (Err x) refl)
