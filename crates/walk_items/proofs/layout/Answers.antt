-- `walk_items::layout` meets its contract: the parts of a number.
use Prim.Native.Nat.{ℕ, ◌+◌, ◌*◌, ◌/◌, ◌%◌}
use mathlib.Core.Path.{◌≡◌}
use native.Mathlib.Omega.{arith}
use Rattle.layouts.specs.Primitive.{version}
use Rattle.walk_items.specs.Items.{version_of}
use Rattle.walk_items.proofs.layout.Goals as goal

pub returns : goal.returns
returns c =
    let l : ℕ = c.args.first * 16777216 + c.args.major * 256 + c.args.minor in
    let a : l % 16777216 / 256 ≡ c.args.major = omega arith in
    let b : l % 16777216 % 256 ≡ c.args.minor = omega arith in
    let v : version_of l ≡ version c.args.major c.args.minor = rw (a, b) in
    record { version = v; first = omega arith }
