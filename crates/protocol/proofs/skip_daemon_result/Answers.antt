-- `protocol::skip_daemon_result` meets its contract: by the shape of the operation.
use mathlib.Core.Path.{◌∙◌}
use Rattle.layouts.specs.Primitive.{version}
use Rattle.layouts.specs.Operations.{none}
use Rattle.layouts.specs.Calls.{skip_daemon_result}
use Rattle.table_operations.proofs.Shapes.{reply_says, reply_refuses}
use Rattle.protocol.proofs.Rows.{unknown_skip, row_skip}
use Rattle.protocol.proofs.skip_daemon_result.Goals as goal

pub returns-in_default : goal.returns-in_default
unfolding skip_daemon_result
returns-in_default c =
    unknown_skip (version c.args.major c.args.minor) none 0 0 _ _ (reply_refuses _ _ _ c.reply.ensures c.in_default.is) _
    c.refuse.ensures

pub returns : goal.returns
unfolding skip_daemon_result
returns c =
    c.skip_brief.ensures ∙ row_skip _ none 0 0 _ _ _ _ c.layout.ensures.version c.layout.ensures.first (reply_says _ _ _ _ _ c.reply.ensures c.in-Some.is).tree
