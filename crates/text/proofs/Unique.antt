-- Each public contract, as Rattle reads it off the source (`Post`), determines its answer.
use Prim.Native.Nat.{ℕ}
use mathlib.Core.Path.{◌≡◌, refl, sym, ◌∙◌}
use mathlib.Core.Bool.{Bool, true, false}
use mathlib.Core.List.{List}
use contract.Lifetimes.{Lfts}
use borrow.Fn.Kinds.{Dens, ended_of}
use denote.Triple.Clauses.{AtExit}
use Rattle.text.specs.Rfc3629.{Judged}
use Rattle.text.proofs.text_end.Reads as text-end
use Rattle.text.proofs.text_end.Kinds as text-end-kinds
use Rattle.text.proofs.is_text.Reads as is_text_lem
use Rattle.text.proofs.is_text.Kinds as is-text-kinds

pub text_end_unique : (κs : Lfts 1) (a : Dens κs text-end-kinds.ps) (r r' : ℕ) (x x' : AtExit (ended_of 1 text-end-kinds.ps text-end-kinds.r) κs)
    → text-end.Post κs a r x → text-end.Post κs a r' x' → r ≡ r'
text_end_unique κs a r r' x x' p q = p ∙ sym q

-- text, or not
judged_once : (s : List ℕ) (r r' : Bool) → Judged r s → Judged r' s → r ≡ r'
judged_once s true true p q = refl
judged_once s true false p q = absurd (q p)
judged_once s false true p q = absurd (p q)
judged_once s false false p q = refl

pub is_text_unique : (κs : Lfts 1) (a : Dens κs is-text-kinds.ps) (r r' : Bool) (x x' : AtExit (ended_of 1 is-text-kinds.ps is-text-kinds.r) κs)
    → is_text_lem.Post κs a r x → is_text_lem.Post κs a r' x' → r ≡ r'
is_text_unique κs a r r' x x' p q = judged_once a.0.now r r' p q
