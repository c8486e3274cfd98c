-- The public contract, as Rattle reads it off the source (`Post`), determines its answer.
use mathlib.Core.Path.{◌≡◌, sym, ◌∙◌}
use contract.Lifetimes.{Lfts}
use borrow.Fn.Kinds.{Dens, ended_of}
use denote.Triple.Clauses.{AtExit}
use Rattle.layouts.specs.declared.Refusal.{Refusal}
use Rattle.layouts.proofs.refuse.Reads as refuse
use Rattle.layouts.proofs.refuse.Kinds as refuse-kinds

pub refuse_unique : (κs : Lfts 0) (a : Dens κs refuse-kinds.ps) (r r' : Refusal) (x x' : AtExit (ended_of 0 refuse-kinds.ps refuse-kinds.r) κs)
    → refuse.Post κs a r x → refuse.Post κs a r' x' → r ≡ r'
refuse_unique κs a r r' x x' p q = p ∙ sym q
