-- What `good_prefix` means: the beginning of that length is text (`good_text`), no longer one is (`text_good`), and it is the whole list exactly where
-- the list is text (`whole_text`, `text_whole`), also as a test (`is_text_lem`, `text_is`); else it is where the first ill-formed sequence begins (`ill_formed`,
-- `ill_formed_at`). And the step by which code computes it (`step`, `stuck`).
use Prim.Native.Nat.{ℕ, zero, suc, ◌+◌, ◌≤◌}
use mathlib.Core.List.{List, [], ◌∷◌, ◌++◌, append_assoc}
use mathlib.Core.Path.{◌≡◌, refl, sym, ap, ◌∙◌}
use native.Mathlib.Omega.{arith}
use native.Mathlib.Nat.{zero-add}
use native.Mathlib.Decide.{ℕ_discrete, dec_le}
use mathlib.Core.Bool.{Bool, true, false}
use borrow.Author.Tests.{eqb-true, eqb-false, eq-eqb, ne_eqb}
use lib.ListN.{length, take, drop, length-append, length-drop, take-append-drop}
use lib.Seq.{length-take-le, take-add, take-length, drop-append_seam}
use Rattle.text.specs.Rfc3629.{Text, Judged, IllFormedAt}
use Rattle.text.specs.Rfc3629.Text.{none, more}
use Rattle.text.specs.Prefix.{char_length, first, good_prefix, is_text}
use Rattle.text.proofs.Chars.{Begins, begins, char_length_lem}
use Rattle.text.proofs.Chars.Begins.{nothing, char}

first_suc : (k : ℕ) (s : List ℕ) → first (suc k) s ≡ char_length s + first k (drop (char_length s) s)
unfolding first
first_suc k s = refl

-- ---- as many characters as octets are enough: more make no difference
one_more : (k : ℕ) (s : List ℕ) → length s ≤ k → first (suc k) s ≡ first k s
unfolding first char_length
one_more zero [] h = refl
one_more zero (a ∷ r) h = absurd (omega arith)
one_more (suc k) s h = go (char_length s) refl (one_more k (drop (char_length s) s))
  where
    go : (n : ℕ) → char_length s ≡ n → (length (drop (char_length s) s) ≤ k → first (suc k) (drop (char_length s) s) ≡ first k (drop (char_length s) s))
        → first (suc (suc k)) s ≡ first (suc k) s
    go zero e ih = simp (e, zero-add)
    go (suc n) e ih = ap (λ (m : ℕ). char_length s + m) (ih (omega (arith, length-drop (char_length s) s)))

enough : (k : ℕ) (s : List ℕ) → length s ≤ k → first k s ≡ good_prefix s
unfolding good_prefix
enough zero s h = ap (λ (n : ℕ). first n s) (omega arith)
enough (suc k) s h = go (ℕ_discrete (suc k) (length s)) (enough k s)
  where
    go : Dec (suc k ≡ length s) → (length s ≤ k → first k s ≡ good_prefix s) → first (suc k) s ≡ good_prefix s
    go (yes e) ih = ap (λ (n : ℕ). first n s) e
    go (no p) ih = one_more k s (omega arith) ∙ ih (omega arith)

-- ---- the step by which code computes it
pub step : (s : List ℕ) → good_prefix s ≡ char_length s + good_prefix (drop (char_length s) s)
step s =
    sym (enough (suc (length s)) s (omega arith)) ∙ first_suc (length s) s
    ∙ ap (λ (m : ℕ). char_length s + m) (enough (length s) (drop (char_length s) s) (omega (arith, length-drop (char_length s) s)))

first_stuck : (k : ℕ) (s : List ℕ) → char_length s ≡ 0 → first k s ≡ 0
unfolding first
first_stuck zero s e = refl
first_stuck (suc k) s e = simp (e, zero-add) (first_stuck k s e)

pub stuck : (s : List ℕ) → char_length s ≡ 0 → good_prefix s ≡ 0
unfolding good_prefix
stuck s e = first_stuck (length s) s e

-- ---- (a) the beginning of that length is there, and is text
pub begun : {s : List ℕ} {n : ℕ} → Begins s n → n ≤ length s
begun (nothing e) = omega arith
begun (char h c) = h

first_within : (k : ℕ) (s : List ℕ) → first k s ≤ length s
unfolding first
first_within zero s = omega arith
first_within (suc k) s =
    omega (arith, begun (begins s), first_within k (drop (char_length s) s), length-drop (char_length s) s)

first_text : (k : ℕ) (s : List ℕ) → Text (take (first k s) s)
unfolding first
first_text zero s = none
first_text (suc k) s = go (begins s) (first_text k (drop (char_length s) s))
  where
    go : Begins s (char_length s) → Text (take (first k (drop (char_length s) s)) (drop (char_length s) s)) → Text (take (first (suc k) s) s)
    go (nothing e) t = simp (e, zero-add) (simp e at t)
    go (char h c) t = rw take-add (more c t)

pub good_within : (s : List ℕ) → good_prefix s ≤ length s
unfolding good_prefix
good_within s = first_within (length s) s

pub good_text : (s : List ℕ) → Text (take (good_prefix s) s)
unfolding good_prefix
good_text s = first_text (length s) s

-- ---- (b) no longer beginning is text
text_prefix : {t : List ℕ} → Text t → (u : List ℕ) → length t ≤ good_prefix (t ++ u)
text_prefix none u = omega arith
text_prefix (more {s} {t} c x) u =
    rw (append_assoc, step, char_length_lem c (t ++ u), drop-append_seam, length-append) (omega (arith, text_prefix x u))

pub text_good : (s : List ℕ) (m : ℕ) → m ≤ length s → Text (take m s) → m ≤ good_prefix s
text_good s m h x = rw (take-append-drop m s, length-take-le) at (text_prefix x (drop m s))

-- ---- (c) it is the whole list exactly where the list is text
pub whole_text : (s : List ℕ) → good_prefix s ≡ length s → Text s
whole_text s e = rw (e, take-length) at (good_text s)

pub text_whole : (s : List ℕ) → Text s → good_prefix s ≡ length s
text_whole s x = omega (arith, good_within s, text_good s (length s) (omega arith) (rw take-length x))

-- ---- the same as a test
pub is_text_lem : (s : List ℕ) → is_text s ≡ true → Text s
unfolding is_text
is_text_lem s e = whole_text s (eqb-true (good_prefix s) (length s) e)

pub text_is : (s : List ℕ) → Text s → is_text s ≡ true
unfolding is_text
text_is s x = eq-eqb (good_prefix s) (length s) (text_whole s x)

-- what `is_text` answers
pub judged_is : (b : Bool) (s : List ℕ) → Judged b s → b ≡ is_text s
unfolding is_text
judged_is true s x = sym (text_is s x)
judged_is false s x = sym (ne_eqb (good_prefix s) (length s) (λ e. x (whole_text s e)))

-- ---- what is not text is good up to its first ill-formed sequence
pub ill_formed : (s : List ℕ) → is_text s ≡ false → IllFormedAt (good_prefix s) s
unfolding is_text
ill_formed s e =
    let n = eqb-false (good_prefix s) (length s) e in
    record { inside = omega (arith, good_within s); good = good_text s; longest = λ m h l t. omega (arith, text_good s m l t) }

module _ {n : ℕ} {s : List ℕ} (x : IllFormedAt n s) where
  pub ill_formed_at : good_prefix s ≡ n
  ill_formed_at = by (dec_le (good_prefix s) n)
    where
      by : Dec (good_prefix s ≤ n) → good_prefix s ≡ n
      by (yes h) = omega (arith, text_good s n (omega arith) x.good)
      by (no h) = absurd (x.longest (good_prefix s) (omega arith) (good_within s) (good_text s))

  pub not_text_lem : is_text s ≡ false
  unfolding is_text
  not_text_lem = ne_eqb (good_prefix s) (length s) (omega (arith, ill_formed_at))
