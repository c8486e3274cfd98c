-- `stderr::find_message` meets its contract: a code that is found has the number that was looked for.
use Rattle.stderr.proofs.Going.{found_message, none_message}
use Rattle.stderr.proofs.find_message.Goals as goal

pub returns-in-Some : goal.returns-in-Some
returns-in-Some c =
    found_message _ _ c.from_u64.ensures _ c.message_of.result c.in-Some.is c.message_of.ensures

pub returns-in-None : goal.returns-in-None
returns-in-None c = none_message _ _ c.from_u64.ensures c.in-None.is
