-- `lintelow::reads::lintelow_extract_store_path` meets its contract: the answer of the call is put.
use mathlib.Core.Path.{◌∙◌, ap}
use mathlib.Core.Bool.{Bool}
use Rattle.layouts.specs.Primitive.{ok}
use Rattle.layouts.specs.Writers.{is_store_path}
use Rattle.walk_judge.specs.Judged.{answer_as}
use Rattle.lintelow_answers.specs.Answers.{yes_no}
use Rattle.lintelow_answers.proofs.Guard.{told_number, told_block}
use Rattle.lintelow.proofs.reads.lintelow_extract_store_path.Goals as goal

pub returns : goal.returns
returns c =
    let e = c.yes_no.ensures ∙ ap (λ (x : Bool). answer_as (yes_no (ok x))) c.extract_store_path-b.ensures in record { number = told_number c.args.block.now (answer_as (yes_no (ok (is_store_path c.args.c.now)))) _ _ e c.put.ensures.number; block = told_block c.args.block.now (answer_as (yes_no (ok (is_store_path c.args.c.now)))) _ _ e c.put.ensures.block }
