-- `lintelow::reads::lintelow_entry` meets its contract: the answer of the call is put.
use Prim.Native.Nat.{ℕ}
use mathlib.Core.Path.{◌∙◌, ap}
use Rattle.layouts.specs.Primitive.{Result}
use Rattle.walk_judge.specs.Judged.{answer_as}
use Rattle.lintelow_answers.specs.Answers.{entry_told, entry_read}
use Rattle.entries.specs.Entries.{entries_in}
use Rattle.lintelow_answers.proofs.Guard.{told_number, told_block}
use Rattle.lintelow.proofs.reads.lintelow_entry.Goals as goal

pub returns : goal.returns
returns c =
    let a = c.args in
    let r = answer_as (entry_read a.bytes.now (entries_in a.entries.now) a.index) in
    let e = c.entry.ensures ∙ ap (λ (x : Result (ℕ × ℕ)). answer_as (entry_told x)) c.find-r.ensures in
    record { number = told_number a.block.now r _ _ e c.put.ensures.number; block = told_block a.block.now r _ _ e c.put.ensures.block }
