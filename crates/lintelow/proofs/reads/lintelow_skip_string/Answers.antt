-- `lintelow::reads::lintelow_skip_string` meets its contract: the answer of the call is put.
use mathlib.Core.Path.{◌∙◌, ap}
use Prim.Native.Nat.{ℕ}
use Rattle.layouts.specs.Primitive.{Result}
use Rattle.layouts.specs.Calls.{skip_string}
use Rattle.walk_judge.specs.Judged.{answer_as}
use Rattle.lintelow_answers.specs.Answers.{passed_to}
use Rattle.lintelow_answers.proofs.Guard.{told_number, told_block}
use Rattle.lintelow.proofs.reads.lintelow_skip_string.Goals as goal

pub returns : goal.returns
returns c =
    let e = c.passed.ensures ∙ ap (λ (x : Result ℕ). answer_as (passed_to x)) c.skip_string-r.ensures in record { number = told_number c.args.block.now (answer_as (passed_to (skip_string c.args.s.now c.args.at))) _ _ e c.put.ensures.number; block = told_block c.args.block.now (answer_as (passed_to (skip_string c.args.s.now c.args.at))) _ _ e c.put.ensures.block }
