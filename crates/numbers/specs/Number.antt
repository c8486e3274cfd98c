-- What reading a number at the start of a part gives, by the definitions of `layouts`.
use Rattle.std.specs.Prelude.{ℕ, List, length, ltb}
use Rattle.layouts.specs.Primitive.{pick, little_at, number_at}
use Rattle.std.specs.Prelude.{Option, Some, None}

abbrev pub number_of : List ℕ → Option ℕ
number_of s = pick (ltb (length s) 8) None (Some (number_at s 0))

abbrev pub four_of : List ℕ → Option ℕ
four_of s = pick (ltb (length s) 4) None (Some (little_at 4 s 0))
