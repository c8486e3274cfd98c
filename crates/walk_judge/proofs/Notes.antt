-- What a number does to the record, by the target that the table gives it.
use Prim.Native.Nat.{ℕ, zero, suc, ◌-◌, ◌≤◌, ◌<◌}
use mathlib.Core.Path.{◌≡◌, refl}
use mathlib.Core.Bool.{Bool, not}
use lib.Dec.{eqb}
use borrow.Author.Tests.{lt-ltb, le-ltb, eq-eqb, ne_eqb}
use native.Mathlib.Omega.{arith}
use Rattle.layouts.specs.declared.Record.{Record}
use Rattle.layouts.specs.Primitive.{is_true}
use Rattle.layouts.specs.Shape.{truth}
use Rattle.layouts.specs.Record.{noted, with_number, with_count, with_presence}
use Rattle.table.specs.Table.{target_of}

pub truth_some : (x : ℕ) → (x ≡ 0 → ⊥) → 1 ≡ truth x
truth_some zero h = absurd (h refl)
truth_some (suc x) h = refl

pub is_true_lem : (x : ℕ) → not (eqb x 0) ≡ is_true x
is_true_lem zero = refl
is_true_lem (suc x) = rw (ne_eqb (suc x) 0 (λ e. omega arith))

module _ (r : Record) (target x : ℕ) where
  pub noted_none : target ≡ 0 → r ≡ noted r (target_of target) x
  unfolding noted target_of
  noted_none e = simp (eq-eqb target 0 e)

  pub noted_number : (target ≡ 0 → ⊥) → target < 13 → with_number r (target - 1) x ≡ noted r (target_of target) x
  unfolding noted target_of
  noted_number z h = simp (ne_eqb target 0 z, lt-ltb target 13 h)

  pub noted_flag : (target ≡ 0 → ⊥) → 13 ≤ target → target < 25 → with_number r (target - 13) (truth x) ≡ noted r (target_of target) x
  unfolding noted target_of
  noted_flag z g h = simp (ne_eqb target 0 z, le-ltb target 13 g, lt-ltb target 25 h)

  pub noted_count : (target ≡ 0 → ⊥) → 25 ≤ target → target < 28 → with_count r (target - 25) x ≡ noted r (target_of target) x
  unfolding noted target_of
  noted_count z g h = let f : 13 ≤ target = omega arith in simp (ne_eqb target 0 z, le-ltb target 13 f, le-ltb target 25 g, lt-ltb target 28 h)

  pub noted_presence : (b : Bool) → (target ≡ 0 → ⊥) → 28 ≤ target → b ≡ is_true x → with_presence r b ≡ noted r (target_of target) x
  unfolding noted target_of
  noted_presence b z g e =
      let f : 13 ≤ target = omega arith in
      let k : 25 ≤ target = omega arith in
      simp (ne_eqb target 0 z, le-ltb target 13 f, le-ltb target 25 k, le-ltb target 28 g, e)
