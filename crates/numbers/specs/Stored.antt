-- What writing a number at the start of a part does, by the definitions of `layouts`.
use Rattle.std.specs.Prelude.{ℕ, List, ◌++◌, Bool, length, drop, leb}
use Rattle.layouts.specs.Primitive.{pick, little_end}

-- k bytes fit; the low k bytes of x, then what was lent
abbrev pub wrote : (k : ℕ) → (lent : List ℕ) → Bool
wrote k lent = leb k (length lent)

abbrev pub stored : (k x : ℕ) → (lent : List ℕ) → List ℕ
stored k x lent = pick (leb k (length lent)) (little_end k x ++ drop k lent) lent
