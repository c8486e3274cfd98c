-- A number written at the start of a part, at any width.
use Prim.Native.Nat.{ℕ, ◌≤◌, ◌<◌}
use mathlib.Core.Path.{◌≡◌, sym}
use mathlib.Core.List.{List}
use mathlib.Core.Bool.{true, false}
use lib.ListN.{length}
use lib.Seq.{sets, sets-eq}
use native.Mathlib.Omega.{arith}
use native.Mathlib.Nat.{zero-add}
use borrow.Author.Tests.{le-leb, lt-leb}
use Rattle.layouts.specs.Primitive.{little_end}
use Rattle.layouts.proofs.Little.{length_little}
use Rattle.numbers.specs.Stored.{wrote, stored}

pub write_fits : (k x : ℕ) (lent : List ℕ) → k ≤ length lent → (true ≡ wrote k lent) × (sets lent 0 (little_end k x) ≡ stored k x lent)
write_fits k x lent h =
    let l = length_little k x in
    (sym (le-leb k (length lent) h), rw (le-leb k (length lent) h, sets-eq (little_end k x) lent 0 (omega arith), l, zero-add))

pub write_none : (k x : ℕ) (lent : List ℕ) → length lent < k → (false ≡ wrote k lent) × (lent ≡ stored k x lent)
write_none k x lent h = (sym (lt-leb k (length lent) h), rw (lt-leb k (length lent) h))
