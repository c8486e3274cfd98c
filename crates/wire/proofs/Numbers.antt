-- What is read of a number that was found, or was not.
use Prim.Native.Nat.{ℕ, ◌+◌, ◌≤◌, ◌<◌}
use mathlib.Core.Path.{◌≡◌, refl}
use mathlib.Core.List.{List}
use lib.ListN.{length}
use borrow.Author.Tests.{le-leb, lt-leb}
use Rattle.layouts.specs.Primitive.{number_at, ok}
use Rattle.layouts.specs.declared.Refusal.{Refusal}
use Rattle.layouts.specs.Refusal.{plain, refused_by}
use Rattle.layouts.specs.Shape.{as_number, stop}
use Rattle.layouts.specs.Pieces.{run}
use Rattle.layouts.specs.Record.{blank, with_number, noted}
use Rattle.layouts.specs.Judge.{judge_of}
use Rattle.layouts.specs.Calls.{read_number, read_u32}
use Rattle.layouts.proofs.Steps.{ask_short, ask_value}
use Rattle.pieces.specs.Pieces.{num_read, word_at}
use Rattle.pieces.proofs.Fields.{field_number}
use Rattle.pieces.proofs.Numbers.{word_known, word_short}
use Rattle.std.specs.Prelude.{Option, Some, None}

module _ (s : List ℕ) (at : ℕ) where
  pub number_read : (n next : ℕ) (known : (at + 8 ≤ length s) × (n ≡ number_at s at)) → next ≡ at + 8 → ok (record { found = with_number blank 0 n; ends = next }) ≡ read_number s at
  unfolding judge_of noted run
  number_read n next known h = rw (h, field_number (as_number 0), ask_value s at n known.1 (as_number 0) (λ v. stop) known.0)

  pub number_cut : (x : Refusal) (known : (length s < at + 8) × (x ≡ plain 1 at)) → refused_by x ≡ read_number s at
  unfolding judge_of
  number_cut x known = rw (known.1, field_number (as_number 0), ask_short s at (number_at s at) refl (as_number 0) (λ v. stop) known.0)

module _ (s : List ℕ) (at : ℕ) (r : Option ℕ) (e : num_read r ≡ word_at 4 s at) where
  pub u32_read : (n next : ℕ) → r ≡ Some n → next ≡ at + 4 → ok (record { found = with_number blank 0 n; ends = next }) ≡ read_u32 s at
  u32_read n next q h = let k = word_known 4 s at r e n q in simp (h, le-leb (at + 4) (length s) k.0, k.1)

  pub u32_cut : r ≡ None → (x : Refusal) → x ≡ plain 1 at → refused_by x ≡ read_u32 s at
  u32_cut q x p = simp (p, lt-leb (at + 4) (length s) (word_short 4 s at r e q))
