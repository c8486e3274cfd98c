-- What is read of the field of one string.
use Prim.Native.Nat.{ℕ, ◌+◌}
use mathlib.Core.Path.{◌≡◌, refl, ◌∙◌, ap}
use mathlib.Core.List.{List}
use mathlib.Core.Bool.{Bool, true, false}
use lib.ListN.{length}
use Rattle.layouts.specs.Primitive.{number_at, Result, ok, refused, onward}
use Rattle.layouts.specs.declared.Refusal.{Refusal}
use Rattle.layouts.specs.Refusal.{refused_by}
use Rattle.layouts.specs.Shape.{passed, kept}
use Rattle.layouts.specs.Pieces.{Text, after_text, run, end, skip_of}
use Rattle.layouts.specs.Record.{blank}
use Rattle.layouts.specs.Judge.{not_text, text_taken, half_taken, judge_of}
use Rattle.layouts.specs.Calls.{skip_string}
use Rattle.layouts.proofs.Views.{TextView, no_length, too_long_there, no_contents, no_padding, is_whole, text_view}
use Rattle.pieces.specs.Pieces.{Span, span, span_of, string_at}
use Rattle.pieces.proofs.Fields.{field_string}
use Rattle.pieces.proofs.Numbers.{as_told}
use Rattle.wire.specs.Answers.{spanned, read_bytes, read_text}
use Rattle.wire.specs.declared.Cursor.{Cursor}
use Rattle.wire.specs.declared.Spanned.{Spanned}
use Rattle.std.specs.Prelude as Std
use Rattle.std.specs.Prelude.{Ok, Err}

module _ (s : List ℕ) (at : ℕ) where
  bytes_by_lem : {t : Text} → TextView (length s) (number_at s at) at t
      → span_of s passed t ≡ onward (skip_of (after_text t passed (λ a. end a))) (λ e. ok (span (at + 8) (number_at s at) e))
  unfolding span_of half_taken not_text after_text skip_of
  bytes_by_lem (no_length h) = refl
  bytes_by_lem (too_long_there h l) = refl
  bytes_by_lem (no_contents h l c) = refl
  bytes_by_lem (no_padding h l c) = refl
  bytes_by_lem (is_whole h l) = refl

  pub bytes_is : string_at s false at ≡ read_bytes s at
  unfolding run string_at
  bytes_is = rw (field_string passed) (bytes_by_lem (text_view (length s) (number_at s at) at))

  text_by : (b : Bool) {t : Text} → TextView (length s) (number_at s at) at t → not_text s kept (at + 8) (number_at s at) ≡ b
      → span_of s kept t ≡ onward (judge_of s 1 0 blank (after_text t kept (λ a. end a))) (λ e. ok (span (at + 8) (number_at s at) e.ends))
  unfolding span_of half_taken after_text judge_of text_taken
  text_by b (no_length h) q = refl
  text_by b (too_long_there h l) q = refl
  text_by b (no_contents h l c) q = refl
  text_by true (no_padding h l c) q = rw q
  text_by false (no_padding h l c) q = rw q
  text_by true (is_whole h l) q = rw q
  text_by false (is_whole h l) q = rw q

  pub text_is : string_at s true at ≡ read_text s at
  unfolding run string_at
  text_is = rw (field_string kept) (text_by (not_text s kept (at + 8) (number_at s at)) (text_view (length s) (number_at s at) at) refl)

  -- without its contents
  ends_by : (o : Result ℕ) → onward (onward o (λ e. ok (span (at + 8) (number_at s at) e))) (λ p. ok p.ends) ≡ o
  ends_by (ok e) = refl
  ends_by (refused which place stream) = refl

  module _ (r : Std.Result Spanned Refusal) (e : spanned r ≡ string_at s false at) where
    ends_is : (r' : Std.Result Spanned Refusal) → r ≡ r' → onward (spanned r') (λ p. ok p.ends) ≡ skip_string s at
    ends_is r' q = ap (λ (o : Result Span). onward o (λ p. ok p.ends)) (as_told spanned q e ∙ bytes_is) ∙ ends_by (skip_string s at)

    pub skip_past : (start len : ℕ) (next : Cursor) → r ≡ Ok (record { start = start; len = len; next = next }) → ok next.at ≡ skip_string s at
    skip_past start len next q = ends_is (Ok (record { start = start; len = len; next = next })) q

    pub skip_refused : (x : Refusal) → r ≡ Err x → refused_by x ≡ skip_string s at
    skip_refused x q = ends_is (Err x) q
