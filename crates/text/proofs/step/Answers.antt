-- `text::step` meets its contract.
use native.Mathlib.Omega.{arith}
use Rattle.text.proofs.Steps.{char_step, plain_step}
use Rattle.text.proofs.step.Goals as goal

pub returns-then-many_plain : goal.returns-then-many_plain
returns-then-many_plain c = plain_step 32 _ _ (omega arith) c.many_plain.ensures c.if-many_plain.true

pub returns-then-eight_plain : goal.returns-then-eight_plain
returns-then-eight_plain c = plain_step 8 _ _ (omega arith) c.eight_plain.ensures c.if-eight_plain.true

pub returns : goal.returns
returns c = search char_step
