-- `lintelow::reads::lintelow_read_string_set` meets its contract: a short block is refused, else the answer of the call is put.
use borrow.Author.Rules.{rules}
use mathlib.Core.Path.{◌∙◌, ap}
use Rattle.layouts.specs.Primitive.{Result}
use Rattle.layouts.specs.Judge.{Ended}
use Rattle.walk_judge.specs.Judged.{answer_as}
use Rattle.lintelow_answers.specs.Answers.{ended}
use Rattle.lintelow_answers.proofs.Guard.{called_short, called_long}
use Rattle.lintelow.proofs.reads.lintelow_read_string_set.Goals as goal

pub returns-then-block-lt-BLOCK : goal.returns-then-block-lt-BLOCK
returns-then-block-lt-BLOCK c =
    let h = called_short (λ x. answer_as (ended x)) c.args.block.now _ _ _ c.if-block-lt-BLOCK.true in
    record { number = h.0; block = h.1.0; entries = h.1.1; held = (λ i. (c.type_inv.s i).fits, search rules) }

pub returns : goal.returns
returns c =
    let r = c.read_string_set_bytes-r.ensures in
    let e = c.count.ensures ∙ ap (λ (x : Result Ended). answer_as (ended x)) r.answer in
    let h = called_long (λ x. answer_as (ended x)) c.args.block.now _ _ _ c.if-block-lt-BLOCK.false _ e _ _ (c.put.ensures.number, c.put.ensures.block) _ r.room in
    record { number = h.0; block = h.1.0; entries = h.1.1; held = r.held }
