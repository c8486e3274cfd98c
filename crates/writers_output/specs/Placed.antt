-- A part of an output at its place.
use Rattle.std.specs.Prelude.{ℕ, ◌+◌, List, length, leb}
use Rattle.std.proofs.lemmas.List.Edits.{sets}
use Rattle.layouts.specs.Primitive.{pick}

-- a part that does not fit there changes nothing
unfoldable pub placed : (at : ℕ) → (part out : List ℕ) → List ℕ
placed at part out = pick (leb (at + length part) (length out)) (sets out at part) out
