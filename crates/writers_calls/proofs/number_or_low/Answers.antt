-- `writers_calls::number_or_low` meets its contract.
use Rattle.pieces.proofs.Numbers.{number_known}
use Rattle.writers_calls.proofs.Rows.{number_low}
use Rattle.writers_calls.proofs.number_or_low.Goals as goal

pub returns-in-Some : goal.returns-in-Some
returns-in-Some c =
    (number_known c.args.s.now _ _ c.number_at.ensures _ c.in-Some.is).1

pub returns-in-None : goal.returns-in-None
returns-in-None c = number_low c.args.s.now _ _ c.low_bytes.ensures
