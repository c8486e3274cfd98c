-- `walk_items::times` meets its contract: a flag is worth at most one time.
use borrow.Author.Tests.{eq-eqb, ne_eqb}
use Rattle.walk_items.proofs.Trees.{truth_some}
use Rattle.walk_items.proofs.times.Goals as goal

pub returns-then-n-eq0 : goal.returns-then-n-eq0
returns-then-n-eq0 c = simp (eq-eqb _ _ c.if-kind-eq-FLAG.true, c.if-n-eq0.true)

pub returns-then-kind-eq-FLAG : goal.returns-then-kind-eq-FLAG
returns-then-kind-eq-FLAG c = simp (eq-eqb _ _ c.if-kind-eq-FLAG.true) (truth_some _ c.if-n-eq0.false)

pub returns : goal.returns
returns c = simp (ne_eqb _ _ c.if-kind-eq-FLAG.false)
