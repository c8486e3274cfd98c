-- `writers_fields::index` meets its contract.
use borrow.Author.Tests.{eq-eqb, ne_eqb, lt-ltb, le-ltb}
use Rattle.writers_fields.proofs.index.Goals as goal

pub returns-then-target-eq-DROPPED : goal.returns-then-target-eq-DROPPED
returns-then-target-eq-DROPPED c = simp (eq-eqb _ _ c.if-target-eq-DROPPED.true)

pub returns-then-target-lt-FIRST_FLAG : goal.returns-then-target-lt-FIRST_FLAG
returns-then-target-lt-FIRST_FLAG c = simp (ne_eqb _ _ c.if-target-eq-DROPPED.false, lt-ltb _ _ c.if-target-lt-FIRST_FLAG.true)

pub returns : goal.returns
returns c = simp (ne_eqb _ _ c.if-target-eq-DROPPED.false, le-ltb _ _ c.if-target-lt-FIRST_FLAG.false)
