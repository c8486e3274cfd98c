-- `protocol::read_op_args` meets its contract: what is judged fine fits.
use mathlib.Core.Path.{◌∙◌}
use Rattle.protocol.proofs.Read.{words_hold, arguments_read_lem}
use Rattle.protocol.proofs.read_op_args.Goals as goal

pub returns : goal.returns
returns c = let all = arguments_read_lem (λ x. x) _ c.args.entries.now c.args.payload.now (words_hold _) _ _ _ _ _ (c.answer_of.ensures ∙ c.read_arguments-said.ensures.answer, (c.read_arguments-said.ensures.entries, c.read_arguments-said.ensures.payload)) in record { answer = all.0; entries = all.1.0; payload = all.1.1 }
