-- The measure of a fold falls: with an item that reads nothing, with a field, and with a number that says how often a body comes.
use Prim.Native.Nat.{ℕ, ◌+◌, ◌≤◌, ◌<◌}
use mathlib.Core.Path.{◌≡◌}
use mathlib.Core.List.{List}
use lib.ListN.{length}
use native.Mathlib.Omega.{arith}
use Rattle.walk_items.specs.declared.Item.{Item}
use Rattle.walk_items.specs.Items.{fuel_of, Falls}

module _ (s : List ℕ) (at pc reps i : ℕ) where
  pub field_less : (f : Item) → Falls pc reps i f → (f.kind ≡ 0 → ⊥) → f.kind ≤ 16 → (a : ℕ) → at ≤ a → fuel_of s a f.pc f.reps f.group < fuel_of s at pc reps i
  field_less f h z l a k = let g = h z l in omega (arith, g)

  pub quiet_less : (f : Item) → Falls pc reps i f → f.kind ≡ 16 → fuel_of s at f.pc f.reps f.group < fuel_of s at pc reps i
  quiet_less f h k = field_less f h (λ z. omega arith) (omega arith) at (omega arith)

  pub read_less : (a reps' pc' i' : ℕ) → (at + 8 ≤ a) × (at + 8 ≤ length s) → reps' < 18446744073709551616 → fuel_of s a pc' reps' i' < fuel_of s at pc reps i
  read_less a reps' pc' i' h b = omega (arith, h)
