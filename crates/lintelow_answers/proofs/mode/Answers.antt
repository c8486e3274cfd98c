-- `lintelow_answers::mode` meets its contract.
use borrow.Author.Tests.{eq-eqb, ne_eqb}
use Rattle.lintelow_answers.proofs.mode.Goals as goal

pub returns-then-number-eq0 : goal.returns-then-number-eq0
returns-then-number-eq0 c = rw (eq-eqb _ 0 c.if-number-eq0.true)

pub returns : goal.returns
returns c = rw (ne_eqb _ 0 c.if-number-eq0.false)
