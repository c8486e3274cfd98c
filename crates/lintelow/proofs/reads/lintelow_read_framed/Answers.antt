-- `lintelow::reads::lintelow_read_framed` meets its contract: a short block is refused, else the answer of the call is put.
use mathlib.Core.Path.{◌∙◌, ap}
use Rattle.layouts.specs.Primitive.{Result}
use Rattle.layouts.specs.Judge.{Ended}
use Rattle.walk_judge.specs.Judged.{answer_as}
use Rattle.lintelow_answers.specs.Answers.{ended}
use Rattle.lintelow_answers.proofs.Guard.{called_short, called_long}
use Rattle.lintelow.proofs.reads.lintelow_read_framed.Goals as goal

pub returns-then-block-lt-BLOCK : goal.returns-then-block-lt-BLOCK
returns-then-block-lt-BLOCK c = let all = called_short (λ x. answer_as (ended x)) c.args.block.now _ _ _ c.if-block-lt-BLOCK.true in record { number = all.0; block = all.1.0; payload = all.1.1 }

pub returns : goal.returns
returns c = let all = called_long (λ x. answer_as (ended x)) c.args.block.now _ _ _ c.if-block-lt-BLOCK.false _
    (c.total.ensures ∙ ap (λ (x : Result Ended). answer_as (ended x)) c.read_framed-r.ensures.answer) _ _ (c.put.ensures.number, c.put.ensures.block) _
    c.read_framed-r.ensures.room in record { number = all.0; block = all.1.0; payload = all.1.1 }
