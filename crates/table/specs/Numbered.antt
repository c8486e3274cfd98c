-- Kinds of answers by their numbers, as a version or a flag decides them.
use Rattle.std.specs.Prelude.{ℕ, Bool}
use Rattle.layouts.specs.Primitive.{pick, Version, version, at_least}

pub data Numbered : Type 0 where
  just : ℕ → Numbered
  by_version : ℕ → Numbered → Numbered → Numbered
  by_flag : Numbered → Numbered → Numbered

abbrev pub numbered_value : Version → (present : Bool) → Numbered → ℕ
numbered_value v b (just n) = n
numbered_value v b (by_version x k l) = pick (at_least v (version 1 x)) (numbered_value v b k) (numbered_value v b l)
numbered_value v b (by_flag k l) = pick b (numbered_value v b k) (numbered_value v b l)
