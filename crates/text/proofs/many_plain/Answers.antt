-- `text::many_plain` meets its contract: four times eight octets, one after the other.
use mathlib.Core.Bool.{false≢true}
use Rattle.text.proofs.Steps.{plain_join}
use Rattle.text.proofs.many_plain.Goals as goal

pub returns-then-s-lt32 : goal.returns-then-s-lt32
returns-then-s-lt32 c = λ e. absurd (false≢true e)

pub returns : goal.returns
returns c =
    let s = c.args.s.now in
    plain_join 24 8 s _ _ (plain_join 16 8 s _ _ (plain_join 8 8 s _ _ c.eight_plain.ensures c.eight_plain-2.ensures)
    c.eight_plain-3.ensures) c.eight_plain-4.ensures
