-- `text::short_plain` meets its contract: ASCII from the start and to the end.
use mathlib.Core.Bool.{false≢true}
use native.Mathlib.Omega.{arith}
use Rattle.text.proofs.Steps.{plain_ends}
use Rattle.text.proofs.short_plain.Goals as goal

pub returns-then-len-lt8 : goal.returns-then-len-lt8
returns-then-len-lt8 c = λ e. absurd (false≢true e)

pub returns-then-len-le16 : goal.returns-then-len-le16
returns-then-len-le16 c =
    plain_ends 8 8 c.args.s.now _ _ c.if-len-lt8.false c.if-len-le16.true c.eight_plain.ensures c.eight_plain-then-len-le16.ensures

pub returns-then-len-gt32 : goal.returns-then-len-gt32
returns-then-len-gt32 c = λ e. absurd (false≢true e)

pub returns : goal.returns
returns c =
    let h = c.if-len-le16.false in
    plain_ends 16 16 c.args.s.now _ _ (omega arith) c.if-len-gt32.false c.sixteen_plain.ensures c.sixteen_plain-2.ensures
