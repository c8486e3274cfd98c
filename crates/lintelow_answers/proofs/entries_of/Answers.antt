-- `lintelow_answers::entries_of` meets its contract: by the kind.
use borrow.Author.Tests.{eq-eqb, ne_eqb}
use Rattle.lintelow_answers.proofs.entries_of.Goals as goal

pub returns-then-kind-eq-ONE_STRING : goal.returns-then-kind-eq-ONE_STRING
returns-then-kind-eq-ONE_STRING c = simp (eq-eqb _ _ c.if-kind-eq-ONE_STRING.true)

pub returns : goal.returns
returns c = simp (ne_eqb _ _ c.if-kind-eq-ONE_STRING.false)
