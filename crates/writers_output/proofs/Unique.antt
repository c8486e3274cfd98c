-- Two answers of a writer that mean the same are the same; so a contract leaves one answer and one content of the lent bytes. The same of the parts.
use Prim.Native.Nat.{ℕ}
use mathlib.Core.Path.{◌≡◌, refl, sym, ap, ◌∙◌}
use mathlib.Core.List.{List}
use mathlib.Core.Bool.{Bool}
use contract.Lifetimes.{Lfts}
use borrow.Fn.Kinds.{Dens, ended_of}
use denote.Triple.Clauses.{AtExit}
use Rattle.layouts.specs.Primitive.{Result, ok, refused}
use Rattle.layouts.specs.Refusal.{refusal}
use Rattle.writers_output.specs.Answer.{meaning}
use Rattle.writers_output.proofs.put.Reads as put
use Rattle.writers_output.proofs.put.Kinds as put-kinds
use Rattle.writers_output.proofs.put_number.Reads as put-number
use Rattle.writers_output.proofs.put_number.Kinds as put-number-kinds
use Rattle.writers_output.proofs.put_counted.Reads as put-counted
use Rattle.writers_output.proofs.put_counted.Kinds as put-counted-kinds
use Rattle.writers_output.proofs.put_string.Reads as put-string
use Rattle.writers_output.proofs.put_string.Kinds as put-string-kinds
use Rattle.writers_output.proofs.string_length.Reads as string-length
use Rattle.writers_output.proofs.string_length.Kinds as string-length-kinds
use Rattle.writers_output.proofs.has_room.Reads as has_room
use Rattle.writers_output.proofs.has_room.Kinds as has-room-kinds
use Rattle.std.specs.Prelude as Std
use Rattle.layouts.specs.declared.Refusal.{Refusal}
use Rattle.std.specs.Prelude.{Ok, Err}

abbrev answer_of : Result ℕ → Std.Result ℕ Refusal
answer_of (ok n) = Ok n
answer_of (refused which place stream) = Err (refusal which place stream)

answer_of_lem : (v : Std.Result ℕ Refusal) → answer_of (meaning v) ≡ v
answer_of_lem (Ok n) = refl
answer_of_lem (Err r) = refl

pub meaning_once : (v w : Std.Result ℕ Refusal) → meaning v ≡ meaning w → v ≡ w
meaning_once v w e = sym (answer_of_lem v) ∙ ap answer_of e ∙ answer_of_lem w

pub once : (v w : Std.Result ℕ Refusal) (r : Result ℕ) (o o' l : List ℕ) → (meaning v ≡ r) × (o ≡ l) → (meaning w ≡ r) × (o' ≡ l) → (v ≡ w) × (o ≡ o')
once v w r o o' l p q = (meaning_once v w (p.0 ∙ sym q.0), p.1 ∙ sym q.1)

-- ---- the parts, as Rattle reads their contracts off the source (`Post`)
pub put_once : (κs : Lfts 2) (a : Dens κs put-kinds.ps) (r r' : Unit {0}) (x y : AtExit (ended_of 2 put-kinds.ps put-kinds.r) κs)
    → put.Post κs a r x → put.Post κs a r' y → x.0.now ≡ y.0.now
put_once κs a r r' x y p q = p ∙ sym q

pub put_number_once : (κs : Lfts 1) (a : Dens κs put-number-kinds.ps) (r r' : Unit {0}) (x y : AtExit (ended_of 1 put-number-kinds.ps put-number-kinds.r) κs)
    → put-number.Post κs a r x → put-number.Post κs a r' y → x.0.now ≡ y.0.now
put_number_once κs a r r' x y p q = p ∙ sym q

pub put_counted_once : (κs : Lfts 2) (a : Dens κs put-counted-kinds.ps) (r r' : Unit {0}) (x y : AtExit (ended_of 2 put-counted-kinds.ps put-counted-kinds.r) κs)
    → put-counted.Post κs a r x → put-counted.Post κs a r' y → x.0.now ≡ y.0.now
put_counted_once κs a r r' x y p q = p ∙ sym q

pub put_string_once : (κs : Lfts 2) (a : Dens κs put-string-kinds.ps) (r r' : Unit {0}) (x y : AtExit (ended_of 2 put-string-kinds.ps put-string-kinds.r) κs)
    → put-string.Post κs a r x → put-string.Post κs a r' y → x.0.now ≡ y.0.now
put_string_once κs a r r' x y p q = p ∙ sym q

pub string_length_once : (κs : Lfts 1) (a : Dens κs string-length-kinds.ps) (r r' : ℕ) (x y : AtExit (ended_of 1 string-length-kinds.ps string-length-kinds.r) κs)
    → string-length.Post κs a r x → string-length.Post κs a r' y → r ≡ r'
string_length_once κs a r r' x y p q = p ∙ sym q

pub has_room_once : (κs : Lfts 0) (a : Dens κs has-room-kinds.ps) (r r' : Bool) (x y : AtExit (ended_of 0 has-room-kinds.ps has-room-kinds.r) κs)
    → has_room.Post κs a r x → has_room.Post κs a r' y → r ≡ r'
has_room_once κs a r r' x y p q = p ∙ sym q
