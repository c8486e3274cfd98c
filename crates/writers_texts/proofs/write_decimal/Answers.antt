-- `writers_texts::write_decimal` meets its contract.
use native.Mathlib.Omega.{arith}
use Rattle.writers_output.proofs.Laws.{same_output}
use Rattle.writers_texts.proofs.Decimal.{decimal_part}
use Rattle.writers_texts.proofs.write_decimal.Goals as goal

pub slice_bounds-write_two-end : goal.slice_bounds-write_two-end
slice_bounds-write_two-end c = omega (arith, c.digits-i.ensures.1)

pub returns : goal.returns
returns c =
    let a = c.args in
    let d = c.digits-i in
    let all = same_output _ _ _ _ _ (decimal_part d.new.text d.result a.n d.ensures.1 d.ensures.2 a.b.now) (c.write_two.ensures.answer, c.write_two.ensures.lent) in record { answer = all.0; lent = all.1 }
