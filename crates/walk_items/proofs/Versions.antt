-- Versions as numbers compare as versions do: by major, then minor.
use Prim.Native.Nat.{ℕ, ◌+◌, ◌/◌, ◌%◌, ◌≤◌, ◌<◌}
use mathlib.Core.Path.{◌≡◌, refl, sym, ◌∙◌}
use mathlib.Core.Bool.{Bool, true, false}
use native.Mathlib.Omega.{arith}
use native.Mathlib.Decide.{dec_le}
use lib.Dec.{leb, ltb, eqb}
use borrow.Author.Tests.{eqb-true, eqb-false, le-leb, lt-leb, lt-ltb, le-ltb}
use Rattle.layouts.specs.Primitive.{version, at_least}
use Rattle.table.specs.Table.{version_in}

module _ (v m : ℕ) (h : m < 256) where
  minor_by : v / 256 ≡ 1 → Dec (256 + m ≤ v) → leb (256 + m) v ≡ leb m (v % 256)
  minor_by e (yes g) = le-leb (256 + m) v g ∙ sym (le-leb m (v % 256) (omega arith))
  minor_by e (no g) = lt-leb (256 + m) v (omega arith) ∙ sym (lt-leb m (v % 256) (omega arith))

  major_by : (v / 256 ≡ 1 → ⊥) → Dec (256 + m ≤ v) → leb (256 + m) v ≡ ltb 1 (v / 256)
  major_by n (yes g) = le-leb (256 + m) v g ∙ sym (lt-ltb 1 (v / 256) (omega arith))
  major_by n (no g) = lt-leb (256 + m) v (omega arith) ∙ sym (le-ltb 1 (v / 256) (omega arith))

  by : (b : Bool) → eqb (v / 256) 1 ≡ b → leb (256 + m) v ≡ at_least (version_in v) (version 1 m)
  unfolding at_least
  by true e = rw e (minor_by (eqb-true (v / 256) 1 e) (dec_le (256 + m) v))
  by false e = rw e (major_by (eqb-false (v / 256) 1 e) (dec_le (256 + m) v))

  pub in_order : leb (256 + m) v ≡ at_least (version_in v) (version 1 m)
  in_order = by (eqb (v / 256) 1) refl
