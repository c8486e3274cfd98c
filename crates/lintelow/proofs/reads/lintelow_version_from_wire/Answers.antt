-- `lintelow::reads::lintelow_version_from_wire` meets its contract: the answer of the call is put.
use mathlib.Core.Path.{◌∙◌, ap}
use Rattle.layouts.specs.Primitive.{Version, from_wire}
use Rattle.walk_judge.specs.Judged.{answer_as}
use Rattle.lintelow_answers.specs.Answers.{version_told}
use Rattle.lintelow_answers.proofs.Guard.{told_number, told_block}
use Rattle.lintelow.proofs.reads.lintelow_version_from_wire.Goals as goal

pub returns : goal.returns
returns c =
    let e = c.version.ensures ∙ ap (λ (x : Version). answer_as (version_told x)) c.from_wire-v.ensures in record { number = told_number c.args.block.now (answer_as (version_told (from_wire c.args.wire))) _ _ e c.put.ensures.number; block = told_block c.args.block.now (answer_as (version_told (from_wire c.args.wire))) _ _ e c.put.ensures.block }
