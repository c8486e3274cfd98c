-- `text::sixteen_plain` meets its contract: twice eight octets.
use mathlib.Core.Bool.{false≢true}
use Rattle.text.proofs.Steps.{plain_join}
use Rattle.text.proofs.sixteen_plain.Goals as goal

pub returns-then-s-lt16 : goal.returns-then-s-lt16
returns-then-s-lt16 c = λ e. absurd (false≢true e)

pub returns : goal.returns
returns c =
    plain_join 8 8 c.args.s.now _ _ c.eight_plain.ensures c.eight_plain-2.ensures
