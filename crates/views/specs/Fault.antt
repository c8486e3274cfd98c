-- What a fault says, what a view says of itself without its part, and where a view begins.
use Rattle.std.specs.Prelude.{ℕ, ◌+◌, ◌≡◌}
use Rattle.layouts.specs.Primitive.{Result, ok, refused}
use Rattle.layouts.specs.Refusal.{refused_by}
use Rattle.std.specs.Prelude as Std
use Rattle.layouts.specs.declared.Refusal.{Refusal}
use Rattle.std.specs.Prelude.{Ok, Err}

abbrev pub meaning : Std.Result (Unit {0}) Refusal → Result (Unit {0})
meaning (Ok tt) = ok tt
meaning (Err r) = refused_by r

abbrev pub fault_of : {A : Type 0} → Result A → Result (Unit {0})
fault_of (ok a) = ok tt
fault_of (refused which place stream) = refused which place stream

-- how far behind the start of the bytes a view begins, by its place; a refused one begins where they do
abbrev pub start_of : Result (ℕ × ℕ) → ℕ
start_of (ok place) = place.0
start_of (refused which place stream) = 0

-- in the memory of the bytes, so far behind their start; a pointer is a block of memory and an offset
abbrev pub Begins : (view bytes : ℕ × ℕ) → (start : ℕ) → Type 0
Begins view bytes start = (view.0 ≡ bytes.0) × (view.1 ≡ start + bytes.1)
