-- Each public contract has one answer: two answers that meet it are equal. `Post` is what Rattle reads off the source.
use mathlib.Core.Path.{◌≡◌, sym, ◌∙◌}
use contract.Lifetimes.{Lfts}
use borrow.Fn.Kinds.{Dens, ended_of}
use denote.Triple.Clauses.{AtExit}
use Prim.Native.Nat.{ℕ}
use Rattle.table_code.proofs.row_at.Reads as row_at
use Rattle.table_code.proofs.row_at.Kinds as row-at-kinds
use Rattle.table_code.proofs.at.Reads as at
use Rattle.table_code.proofs.at.Kinds as at-kinds
use Rattle.std.specs.Prelude.{Option}
use Rattle.table.specs.declared.Row.{Row}

pub row_at_unique : (κs : Lfts 0) (a : Dens κs row-at-kinds.ps) (r r' : Option Row) (x x' : AtExit (ended_of 0 row-at-kinds.ps row-at-kinds.r) κs)
    → row_at.Post κs a r x → row_at.Post κs a r' x' → r ≡ r'
row_at_unique κs a r r' x x' p q = p ∙ sym q

pub at_unique : (κs : Lfts 0) (a : Dens κs at-kinds.ps) (r r' : ℕ) (x x' : AtExit (ended_of 0 at-kinds.ps at-kinds.r) κs)
    → at.Post κs a r x → at.Post κs a r' x' → r ≡ r'
at_unique κs a r r' x x' p q = p ∙ sym q
