-- A number read at the start of a part, at any width.
use Prim.Native.Nat.{ℕ, ◌≤◌, ◌<◌}
use mathlib.Core.Path.{◌≡◌}
use mathlib.Core.List.{List}
use lib.ListN.{length}
use borrow.Author.Tests.{le-ltb, lt-ltb}
use lib.Dec.{ltb}
use Rattle.layouts.specs.Primitive.{pick, little_at}
use Rattle.std.specs.Prelude.{Option, Some, None}

module _ (k : ℕ) (s : List ℕ) where
  abbrev read_of : Option ℕ
  read_of = pick (ltb (length s) k) None (Some (little_at k s 0))

  pub read_there : (v : ℕ) → k ≤ length s → v ≡ little_at k s 0 → Some v ≡ read_of
  read_there v h e = rw (le-ltb (length s) k h, e)

  pub read_none : length s < k → None ≡ read_of
  read_none h = rw (lt-ltb (length s) k h)
