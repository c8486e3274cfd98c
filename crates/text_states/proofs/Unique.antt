-- Each public contract has one answer: two answers that meet it are equal. `Post` is what Rattle reads off the source.
use Prim.Native.Nat.{ℕ}
use mathlib.Core.Path.{◌≡◌, sym, ◌∙◌}
use contract.Lifetimes.{Lfts}
use borrow.Fn.Kinds.{Dens, ended_of}
use denote.Triple.Clauses.{AtExit}
use Rattle.text_states.proofs.run_states.Reads as run-states
use Rattle.text_states.proofs.run_states.Kinds as run-states-kinds

pub run_states_unique : (κs : Lfts 1) (a : Dens κs run-states-kinds.ps) (r r' : ℕ) (x x' : AtExit (ended_of 1 run-states-kinds.ps run-states-kinds.r) κs)
    → run-states.Post κs a r x → run-states.Post κs a r' x' → r ≡ r'
run_states_unique κs a r r' x x' p q = p ∙ sym q
