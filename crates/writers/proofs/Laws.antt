-- What a writer of a number or a string answers.
use Prim.Native.Nat.{ℕ}
use mathlib.Core.Path.{◌≡◌, refl, sym, ◌∙◌}
use mathlib.Core.List.{List}
use mathlib.Core.Bool.{Bool, true, false}
use Rattle.text.specs.Rfc3629.{Judged}
use Rattle.text.specs.Prefix.{is_text}
use Rattle.text.proofs.Meaning.{judged_is}
use Rattle.layouts.specs.Primitive.{Result, little_end, ok}
use Rattle.layouts.specs.declared.Refusal.{Refusal}
use Rattle.layouts.specs.Refusal.{plain, refused_by}
use Rattle.layouts.specs.Judge.{lent_after}
use Rattle.layouts.specs.Writers.{writing, string_bytes, write_string}
use Rattle.layouts.proofs.Little.{length_little}
use Rattle.numbers.specs.Stored.{wrote, stored}
use Rattle.writers_output.specs.Answer.{after_writing}

-- a number of k bytes, by what `numbers` says
module _ (k x : ℕ) (lent lent' : List ℕ) (b : Bool) (e : b ≡ wrote k lent) (f : lent' ≡ stored k x lent) where
  pub little_done : b ≡ true → (ok k ≡ writing (little_end k x) lent) × (lent' ≡ after_writing (little_end k x) lent)
  unfolding writing
  little_done t = simp (f, length_little k x, sym e ∙ t) (refl, refl)

  pub little_full : b ≡ false → (r : Refusal) → r ≡ plain 10 0 → (refused_by r ≡ writing (little_end k x) lent) × (lent' ≡ after_writing (little_end k x) lent)
  unfolding writing
  little_full t r p = simp (p, f, length_little k x, sym e ∙ t) (refl, refl)

-- a string: its text first
module _ (b : Bool) (c : List ℕ) (j : Judged b c) (lent : List ℕ) where
  pub string_text : (lent' : List ℕ) (r : Result ℕ) → b ≡ true
      → (r ≡ writing (string_bytes c) lent) × (lent' ≡ after_writing (string_bytes c) lent)
      → (r ≡ write_string c lent) × (lent' ≡ lent_after (write_string c lent) (string_bytes c) lent)
  unfolding write_string
  string_text lent' r e p = let t : is_text c ≡ true = sym (judged_is b c j) ∙ e in simp t p

  pub string_bad : b ≡ false → (r : Refusal) → r ≡ plain 3 0 → (refused_by r ≡ write_string c lent) × (lent ≡ lent_after (write_string c lent) (string_bytes c) lent)
  unfolding write_string
  string_bad e r p = let t : is_text c ≡ false = sym (judged_is b c j) ∙ e in simp (t, p) (refl, refl)
