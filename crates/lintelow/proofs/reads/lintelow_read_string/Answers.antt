-- `lintelow::reads::lintelow_read_string` meets its contract: the answer of the call is put.
use mathlib.Core.Path.{◌∙◌, ap}
use Rattle.layouts.specs.Primitive.{Result}
use Rattle.pieces.specs.Pieces.{Span}
use Rattle.walk_judge.specs.Judged.{answer_as}
use Rattle.wire.specs.Answers.{read_text}
use Rattle.lintelow_answers.specs.Answers.{string_read}
use Rattle.lintelow_answers.proofs.Guard.{told_number, told_block}
use Rattle.lintelow.proofs.reads.lintelow_read_string.Goals as goal

pub returns : goal.returns
returns c =
    let a = c.args in
    let r = c.read_string-r.ensures in
    let e = c.string.ensures ∙ ap (λ (x : Result Span). answer_as (string_read x)) r.answer in
    let o = answer_as (string_read (read_text a.s.now a.at)) in
    record { number = told_number a.block.now o _ _ e c.put.ensures.number; block = told_block a.block.now o _ _ e c.put.ensures.block; held = r.held }
