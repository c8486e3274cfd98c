-- `writers_texts::write_mode` meets its contract.
use mathlib.Core.List.{[], ◌++◌}
use Rattle.layouts.specs.Writers.{mode_text}
use Rattle.writers_output.specs.Answer.{meaning}
use Rattle.writers_output.proofs.Laws.{same_output}
use Rattle.writers_texts.proofs.Decimal.{mode_named, mode_other}
use Rattle.writers_texts.proofs.write_mode.Goals as goal

pub returns-then-n-eq0 : goal.returns-then-n-eq0
unfolding mode_text
returns-then-n-eq0 c =
    let a = c.args in
    let w = c.write_two in
    let all = same_output (mode_text 0 ++ []) (mode_text a.n) a.out.now w.new.out (meaning w.result) (mode_named a.n 0 c.if-n-eq0.true) (w.ensures.answer, w.ensures.lent) in record { answer = all.0; lent = all.1 }

pub returns-then-n-eq1 : goal.returns-then-n-eq1
unfolding mode_text
returns-then-n-eq1 c =
    let a = c.args in
    let w = c.write_two-then-n-eq1 in
    let all = same_output (mode_text 1 ++ []) (mode_text a.n) a.out.now w.new.out (meaning w.result) (mode_named a.n 1 c.if-n-eq1.true) (w.ensures.answer, w.ensures.lent) in record { answer = all.0; lent = all.1 }

pub returns-then-n-eq2 : goal.returns-then-n-eq2
unfolding mode_text
returns-then-n-eq2 c =
    let a = c.args in
    let w = c.write_two-then-n-eq2 in
    let all = same_output (mode_text 2 ++ []) (mode_text a.n) a.out.now w.new.out (meaning w.result) (mode_named a.n 2 c.if-n-eq2.true) (w.ensures.answer, w.ensures.lent) in record { answer = all.0; lent = all.1 }

pub returns : goal.returns
returns c = let all = same_output _ _ _ _ _ (mode_other c.args.n c.if-n-eq0.false c.if-n-eq1.false c.if-n-eq2.false) (c.write_decimal.ensures.answer, c.write_decimal.ensures.lent) in record { answer = all.0; lent = all.1 }
