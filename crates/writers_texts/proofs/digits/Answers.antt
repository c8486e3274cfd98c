use borrow.Author.Rules.{rules}
use native.Mathlib.Omega.{arith}
use Rattle.writers_texts.proofs.Decimal.{digits_start, digits_last, digits_turn, digits_over}
use Rattle.writers_texts.proofs.digits.Goals as goal

pub loop-i-init : goal.loop-i-init
loop-i-init c =
    let a = c.args in
    digits_start a.text.now a.n c.requires

pub returns-then-x-lt10 : goal.returns-then-x-lt10
returns-then-x-lt10 c =
    let l = c.loop-i in
    (search rules, search rules, digits_last l.text l.x _ l.i c.loop-i-test.true (omega arith) c.if-x-lt10.true l.invariant.0)

pub loop-i-preserved : goal.loop-i-preserved
loop-i-preserved c =
    let l = c.loop-i in
    (digits_turn l.text l.x _ l.i c.loop-i-test.true (omega arith) c.if-x-lt10.false l.invariant.0, search rules)

pub returns : goal.returns
returns c =
    let l = c.loop-i in
    (search rules, search rules, digits_over l.text l.x _ l.i (omega arith) l.invariant.0)
