-- Each public contract, as Rattle reads it off the source, determines its answer and the lent part at exit.
use Prim.Native.Nat.{ℕ}
use mathlib.Core.Path.{◌≡◌, sym, ◌∙◌}
use contract.Lifetimes.{Lfts}
use borrow.Fn.Kinds.{Dens, ended_of}
use denote.Triple.Clauses.{AtExit}
use mathlib.Core.Bool.{Bool}
use Rattle.numbers.proofs.read.Reads as read
use Rattle.numbers.proofs.read.Kinds as read-kinds
use Rattle.numbers.proofs.read_four.Reads as read-four
use Rattle.numbers.proofs.read_four.Kinds as read-four-kinds
use Rattle.numbers.proofs.write.Reads as write
use Rattle.numbers.proofs.write.Kinds as write-kinds
use Rattle.numbers.proofs.write_four.Reads as write-four
use Rattle.numbers.proofs.write_four.Kinds as write-four-kinds
use Rattle.numbers.proofs.wide.Reads as wide
use Rattle.numbers.proofs.wide.Kinds as wide-kinds
use Rattle.std.specs.Prelude.{Option}

pub read_determined : (κs : Lfts 1) (a : Dens κs read-kinds.ps) (r r' : Option ℕ) (x x' : AtExit (ended_of 1 read-kinds.ps read-kinds.r) κs)
    → read.Post κs a r x → read.Post κs a r' x' → r ≡ r'
read_determined κs a r r' x x' p q = p ∙ sym q

pub read_four_determined : (κs : Lfts 1) (a : Dens κs read-four-kinds.ps) (r r' : Option ℕ) (x x' : AtExit (ended_of 1 read-four-kinds.ps read-four-kinds.r) κs)
    → read-four.Post κs a r x → read-four.Post κs a r' x' → r ≡ r'
read_four_determined κs a r r' x x' p q = p ∙ sym q

pub write_determined : (κs : Lfts 1) (a : Dens κs write-kinds.ps) (r r' : Bool) (x x' : AtExit (ended_of 1 write-kinds.ps write-kinds.r) κs)
    → write.Post κs a r x → write.Post κs a r' x' → (r ≡ r') × (x.0.now ≡ x'.0.now)
write_determined κs a r r' x x' p q = (p.0 ∙ sym q.0, p.1 ∙ sym q.1)

pub write_four_determined : (κs : Lfts 1) (a : Dens κs write-four-kinds.ps) (r r' : Bool) (x x' : AtExit (ended_of 1 write-four-kinds.ps write-four-kinds.r) κs)
    → write-four.Post κs a r x → write-four.Post κs a r' x' → (r ≡ r') × (x.0.now ≡ x'.0.now)
write_four_determined κs a r r' x x' p q = (p.0 ∙ sym q.0, p.1 ∙ sym q.1)

pub wide_determined : (κs : Lfts 0) (a : Dens κs wide-kinds.ps) (r r' : ℕ) (x x' : AtExit (ended_of 0 wide-kinds.ps wide-kinds.r) κs)
    → wide.Post κs a r x → wide.Post κs a r' x' → r ≡ r'
wide_determined κs a r r' x x' p q = p.0 ∙ sym q.0
