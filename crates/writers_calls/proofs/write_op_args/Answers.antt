-- `writers_calls::write_op_args` meets its contract.
use borrow.Author.Rules.{rules}
use mathlib.Core.Path.{◌≡◌}
use lib.ListN.{length}
use Rattle.writers_calls.specs.Calls.{fifteen}
use Rattle.writers_calls.proofs.Rows.{by_numbers, record_numbers}
use Rattle.writers_calls.proofs.write_op_args.Goals as goal

pub returns : goal.returns
returns c =
    let twelve : length c.args.«record».numbers ≡ 12 = search rules in
    let three : length c.args.«record».counts ≡ 3 = search rules in
    let all = by_numbers _ _ (fifteen c.args.«record») c.args.bytes.now c.args.entries.now c.args.payload.now _ _ _ (c.write.ensures.answer, c.write.ensures.lent)
    (record_numbers c.args.«record».numbers c.args.«record».counts twelve three) in record { answer = all.0; lent = all.1 }
