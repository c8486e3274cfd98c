-- `lintelow::reads::lintelow_peek_u64` meets its contract: the answer of the call is put.
use mathlib.Core.Path.{◌∙◌, ap}
use Rattle.layouts.specs.Pieces.{Num}
use Rattle.layouts.specs.Calls.{peek_number}
use Rattle.walk_judge.specs.Judged.{answer_as}
use Rattle.lintelow_answers.specs.Answers.{peeked_at}
use Rattle.lintelow_answers.proofs.Guard.{told_number, told_block}
use Rattle.lintelow.proofs.reads.lintelow_peek_u64.Goals as goal

pub returns : goal.returns
returns c =
    let e = c.peek.ensures ∙ ap (λ (x : Num). answer_as (peeked_at c.args.at x)) c.peek_u64-r.ensures in record { number = told_number c.args.block.now (answer_as (peeked_at c.args.at (peek_number c.args.s.now c.args.at))) _ _ e c.put.ensures.number; block = told_block c.args.block.now (answer_as (peeked_at c.args.at (peek_number c.args.s.now c.args.at))) _ _ e c.put.ensures.block }
