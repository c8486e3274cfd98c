-- The contract has one answer: two answers that meet it are equal. `Post` is what Rattle reads off the source.
use Prim.Native.Nat.{ℕ}
use mathlib.Core.Path.{◌≡◌, refl, sym, ◌∙◌}
use contract.Lifetimes.{Lfts}
use borrow.Fn.Kinds.{Dens, ended_of}
use denote.Triple.Clauses.{AtExit}
use Rattle.layouts.specs.Primitive.{ok}
use Rattle.walk_strings.specs.Strings.{passed_to}
use Rattle.walk_strings.proofs.Unique.{passed_told}
use Rattle.walk_pass.specs.Skip.{skipped}
use Rattle.walk_pass.proofs.skip.Reads as skip
use Rattle.walk_pass.proofs.skip.Kinds as skip-kinds
use Rattle.layouts.specs.declared.Refusal.{Refusal}
use Rattle.std.specs.Prelude.{Ok, Err, Result}

-- an end or a refusal is told by its meaning
skipped_as : (r : Result ℕ Refusal) → passed_to r (λ a. ok a) ≡ skipped r
skipped_as (Ok at) = refl
skipped_as (Err r) = refl

pub skipped_told : (r r' : Result ℕ Refusal) → skipped r ≡ skipped r' → r ≡ r'
skipped_told r r' e = passed_told r r' (skipped_as r ∙ e ∙ sym (skipped_as r'))

pub skip_unique : (κs : Lfts 1) (a : Dens κs skip-kinds.ps) (r r' : Result ℕ Refusal) (x x' : AtExit (ended_of 1 skip-kinds.ps skip-kinds.r) κs)
    → skip.Post κs a r x → skip.Post κs a r' x' → r ≡ r'
skip_unique κs a r r' x x' p q = skipped_told r r' (p ∙ sym q)
