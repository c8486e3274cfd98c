-- The contracts have one answer. That of `pass`: where nothing follows the series, it says where the series ends.
use Prim.Native.Nat.{ℕ}
use mathlib.Core.Path.{◌≡◌, refl, sym, ◌∙◌, ap}
use contract.Lifetimes.{Lfts}
use borrow.Fn.Kinds.{Dens, ended_of}
use denote.Triple.Clauses.{AtExit}
use Rattle.layouts.specs.Primitive.{Result, ok, refused}
use Rattle.layouts.specs.Refusal.{refusal}
use Rattle.layouts.specs.Shape.{passed, stop}
use Rattle.layouts.specs.Pieces.{run, skip_of}
use Rattle.walk_strings.specs.Strings.{passed_to}
use Rattle.walk_strings.proofs.after_next.Reads as after_next
use Rattle.walk_strings.proofs.after_next.Kinds as after-next-kinds
use Rattle.walk_strings.proofs.pass.Reads as pass
use Rattle.walk_strings.proofs.pass.Kinds as pass-kinds
use Rattle.walk_strings.specs.declared.More.{More}
use Rattle.std.specs.Prelude as Std
use Rattle.layouts.specs.declared.Refusal.{Refusal}
use Rattle.std.specs.Prelude.{Option, Ok, Err}

pub after_next_unique : (κs : Lfts 0) (a : Dens κs after-next-kinds.ps) (r r' : Option More) (x x' : AtExit (ended_of 0 after-next-kinds.ps after-next-kinds.r) κs)
    → after_next.Post κs a r x → after_next.Post κs a r' x' → r ≡ r'
after_next_unique κs a r r' x x' p q = p ∙ sym q

-- an end or a refusal is told by its meaning
abbrev passed_by : Result ℕ → Std.Result ℕ Refusal
passed_by (ok at) = Ok at
passed_by (refused which place stream) = Err (refusal which place stream)

passed_back : (r : Std.Result ℕ Refusal) → passed_by (passed_to r (λ a. ok a)) ≡ r
passed_back (Ok at) = refl
passed_back (Err r) = refl

pub passed_told : (r r' : Std.Result ℕ Refusal) → passed_to r (λ a. ok a) ≡ passed_to r' (λ a. ok a) → r ≡ r'
passed_told r r' e = sym (passed_back r) ∙ ap passed_by e ∙ passed_back r'

pub pass_unique : (κs : Lfts 1) (a : Dens κs pass-kinds.ps) (r r' : Std.Result ℕ Refusal) (x x' : AtExit (ended_of 1 pass-kinds.ps pass-kinds.r) κs)
    → pass.Post κs a r x → pass.Post κs a r' x' → r ≡ r'
unfolding run skip_of
pass_unique κs a r r' x x' p q = passed_told r r' (sym (p.0 passed (λ u. stop)) ∙ q.0 passed (λ u. stop))
