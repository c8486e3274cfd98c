-- `protocol::read_op_args_bytes` meets its contract: what is judged fine fits.
use Rattle.writers_output.specs.Numbers.{bytes_of}
use Rattle.protocol.proofs.Read.{bytes_hold, arguments_read_lem}
use Rattle.protocol.proofs.read_op_args_bytes.Goals as goal

pub returns : goal.returns
returns c = let all = arguments_read_lem bytes_of _ c.args.entries.now c.args.payload.now (bytes_hold _) _ _ _ _ _ (c.read_arguments.ensures.answer, (c.read_arguments.ensures.entries, c.read_arguments.ensures.payload)) in record { answer = all.0; entries = all.1.0; payload = all.1.1 }
