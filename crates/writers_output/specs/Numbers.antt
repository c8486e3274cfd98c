-- Numbers one after the other, eight bytes each.
use Rattle.std.specs.Prelude.{ℕ, List, [], ◌∷◌, ◌++◌}
use Rattle.layouts.specs.Primitive.{number_bytes}

unfoldable pub bytes_of : List ℕ → List ℕ
bytes_of [] = []
bytes_of (n ∷ ns) = number_bytes n ++ bytes_of ns
