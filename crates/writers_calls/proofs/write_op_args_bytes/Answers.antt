-- `writers_calls::write_op_args_bytes` meets its contract.
use Rattle.writers_calls.proofs.Numbers.{all_fifteen}
use Rattle.writers_calls.proofs.Rows.{by_numbers}
use Rattle.writers_calls.proofs.write_op_args_bytes.Goals as goal

pub returns : goal.returns
returns c = let all = by_numbers _ _ _ _ _ _ _ _ _ (c.write.ensures.answer, c.write.ensures.lent)
    (all_fifteen _ _ _ _ _ _ _ _ _ _ _ _ _ _ _ _ c.number_or_low.ensures c.number_or_low-2.ensures c.number_or_low-3.ensures c.number_or_low-4.ensures c.number_or_low-5.ensures c.number_or_low-6.ensures c.number_or_low-7.ensures c.number_or_low-8.ensures c.number_or_low-9.ensures c.number_or_low-10.ensures c.number_or_low-11.ensures c.number_or_low-12.ensures c.number_or_low-13.ensures c.number_or_low-14.ensures c.number_or_low-15.ensures) in record { answer = all.0; lent = all.1 }
