-- `text::ends_plain` meets its contract: a short s by itself, and else its last 32 octets.
use mathlib.Core.Bool.{false≢true}
use Rattle.text.proofs.Steps.{plain_last}
use Rattle.text.proofs.ends_plain.Goals as goal

pub returns-then-len-lt32 : goal.returns-then-len-lt32
returns-then-len-lt32 c = c.short_plain.ensures

pub returns-then-n-len : goal.returns-then-n-len
returns-then-n-len c = λ e. absurd (false≢true e)

pub returns : goal.returns
returns c =
    plain_last 32 _ c.args.s.now _ c.requires c.if-len-lt32.false c.if-n-len.false c.many_plain.ensures
