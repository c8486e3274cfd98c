-- `protocol::read_daemon_result` meets its contract: what is judged fine fits.
use mathlib.Core.Path.{◌∙◌}
use Rattle.protocol.proofs.Read.{words_hold, reply_read_lem}
use Rattle.protocol.proofs.read_daemon_result.Goals as goal

pub returns : goal.returns
returns c = let all = reply_read_lem (λ x. x) _ c.args.entries.now c.args.payload.now (words_hold _) _ _ _ _ _ _ (c.answer_of.ensures ∙ c.read_reply-said.ensures.answer, (c.read_reply-said.ensures.entries, c.read_reply-said.ensures.payload)) in record { answer = all.0; entries = all.1.0; payload = all.1.1 }
