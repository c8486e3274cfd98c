-- Each public contract, as Rattle reads it off the source, has one answer.
use Prim.Native.Nat.{ℕ}
use mathlib.Core.Path.{◌≡◌, sym, ◌∙◌, ap}
use mathlib.Core.Bool.{Bool}
use contract.Lifetimes.{Lfts}
use borrow.Fn.Kinds.{Dens, ended_of}
use denote.Triple.Clauses.{AtExit}
use Rattle.writers_output.proofs.Unique.{meaning_once}
use Rattle.writers_fields.specs.declared.Needs.{Needs}
use Rattle.writers_fields.proofs.has_number.Reads as has_number_lem
use Rattle.writers_fields.proofs.has_number.Kinds as has-number-kinds
use Rattle.writers_fields.proofs.value.Reads as value
use Rattle.writers_fields.proofs.value.Kinds as value-kinds
use Rattle.writers_fields.proofs.strings_after.Reads as strings-after
use Rattle.writers_fields.proofs.strings_after.Kinds as strings-after-kinds
use Rattle.writers_fields.proofs.judge.Reads as judge
use Rattle.writers_fields.proofs.judge.Kinds as judge-kinds
use Rattle.layouts.specs.declared.Refusal.{Refusal}
use Rattle.std.specs.Prelude.{Result}

pub has_number_once : (κs : Lfts 0) (a : Dens κs has-number-kinds.ps) (r r' : Bool) (x y : AtExit (ended_of 0 has-number-kinds.ps has-number-kinds.r) κs)
    → has_number_lem.Post κs a r x → has_number_lem.Post κs a r' y → r ≡ r'
has_number_once κs a r r' x y p q = p ∙ sym q

pub value_once : (κs : Lfts 1) (a : Dens κs value-kinds.ps) (r r' : ℕ) (x y : AtExit (ended_of 1 value-kinds.ps value-kinds.r) κs)
    → value.Post κs a r x → value.Post κs a r' y → r ≡ r'
value_once κs a r r' x y p q = p ∙ sym q

pub strings_after_once : (κs : Lfts 0) (a : Dens κs strings-after-kinds.ps) (v w : Result ℕ Refusal) (x y : AtExit (ended_of 0 strings-after-kinds.ps strings-after-kinds.r) κs)
    → strings-after.Post κs a v x → strings-after.Post κs a w y → v ≡ w
strings_after_once κs a v w x y p q = meaning_once v w (p ∙ sym q)

abbrev needs : Result ℕ Refusal → ℕ → Bool → Needs
needs entries bytes framed = record { entries = entries; bytes = bytes; framed = framed }

needs_told : (r r' : Needs) → r.entries ≡ r'.entries → r.bytes ≡ r'.bytes → r.framed ≡ r'.framed → r ≡ r'
needs_told r r' e b f =
    ap (λ (y : Result ℕ Refusal). needs y r.bytes r.framed) e ∙ ap (λ (n : ℕ). needs r'.entries n r.framed) b ∙ ap (λ (y : Bool). needs r'.entries r'.bytes y) f

pub judge_once : (κs : Lfts 2) (a : Dens κs judge-kinds.ps) (r r' : Needs) (x y : AtExit (ended_of 2 judge-kinds.ps judge-kinds.r) κs)
    → judge.Post κs a r x → judge.Post κs a r' y → r ≡ r'
judge_once κs a r r' x y p q = needs_told r r' (meaning_once r.entries r'.entries (p.0 ∙ sym q.0)) (p.1.0 ∙ sym q.1.0) (p.1.1 ∙ sym q.1.1)
