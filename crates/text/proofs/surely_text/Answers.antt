use native.Mathlib.Omega.{arith}
use Rattle.text_states.proofs.Runs.{Ran, past_part}
use Rattle.text.proofs.States.{begun_plain, plain_text, past_plain, judged}
use Rattle.text.proofs.surely_text.Goals as goal

pub loop-i-preserved-then-state-many_plain : goal.loop-i-preserved-then-state-many_plain
loop-i-preserved-then-state-many_plain c =
    past_plain 32 _ _ _ _ c.loop-i.invariant c.many_plain.ensures c.if-state-many_plain.true

pub loop-i-preserved-then-state-eight_plain : goal.loop-i-preserved-then-state-eight_plain
loop-i-preserved-then-state-eight_plain c =
    past_plain 8 _ _ _ _ c.loop-i.invariant c.eight_plain.ensures c.if-state-eight_plain.true

pub ends_plain-requires : goal.ends_plain-requires
ends_plain-requires c = c.plain_length-n.ensures

pub returns-then-ends_plain : goal.returns-then-ends_plain
returns-then-ends_plain c e = plain_text _ (c.ends_plain.ensures c.if-ends_plain.true)

pub loop-i-init : goal.loop-i-init
loop-i-init c = search begun_plain

pub overflow_add-i : goal.overflow_add-i
overflow_add-i c = let r : Ran _ _ _ _ = loop-i-preserved-then-state-many_plain c in omega arith

pub loop-i-smaller-then-state-many_plain : goal.loop-i-smaller-then-state-many_plain
loop-i-smaller-then-state-many_plain c = let r : Ran _ _ _ _ = loop-i-preserved-then-state-many_plain c in omega arith

pub overflow_add-i-then-state-eight_plain : goal.overflow_add-i-then-state-eight_plain
overflow_add-i-then-state-eight_plain c = let r : Ran _ _ _ _ = loop-i-preserved-then-state-eight_plain c in omega arith

pub loop-i-smaller-then-state-eight_plain : goal.loop-i-smaller-then-state-eight_plain
loop-i-smaller-then-state-eight_plain c = let r : Ran _ _ _ _ = loop-i-preserved-then-state-eight_plain c in omega arith

pub loop-i-preserved : goal.loop-i-preserved
loop-i-preserved c = search past_part

pub returns : goal.returns
returns c = judged _ _ _ c.loop-i.invariant c.loop-i-test.false
