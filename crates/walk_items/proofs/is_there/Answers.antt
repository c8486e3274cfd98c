-- `walk_items::is_there` meets its contract: by the gate.
use borrow.Author.Tests.{eq-eqb, ne_eqb}
use Rattle.walk_items.proofs.is_there.Goals as goal

pub returns-then-gate-eq-ALWAYS : goal.returns-then-gate-eq-ALWAYS
returns-then-gate-eq-ALWAYS c = simp (eq-eqb _ _ c.if-gate-eq-ALWAYS.true)

pub returns-then-gate-eq-FROM : goal.returns-then-gate-eq-FROM
returns-then-gate-eq-FROM c =
    simp (ne_eqb _ _ c.if-gate-eq-ALWAYS.false, eq-eqb _ _ c.if-gate-eq-FROM.true, c.at_least-reached.ensures, c.spoken.ensures)

pub returns : goal.returns
returns c =
    simp (ne_eqb _ _ c.if-gate-eq-ALWAYS.false, ne_eqb _ _ c.if-gate-eq-FROM.false, c.at_least-reached.ensures, c.spoken.ensures)
