-- What a refusal of the code means; `plain` is one of a stream that is not a handshake's.
use Rattle.std.specs.Prelude.{ℕ}
use Rattle.layouts.specs.declared.Refusal.{Refusal}
use Rattle.layouts.specs.Primitive.{Result, refused}

abbrev pub refusal : (which place stream : ℕ) → Refusal
refusal which place stream = record { which = which; place = place; stream = stream }

abbrev pub plain : (which place : ℕ) → Refusal
plain which place = refusal which place 0

abbrev pub refused_by : {A : Type 0} → Refusal → Result A
refused_by r = refused r.which r.place r.stream
