-- `stderr::error_kind` meets its contract: by the mode, and in published mode by the version.
use Rattle.stderr.proofs.Block.{traced_kind, short_kind}
use Rattle.stderr.proofs.error_kind.Goals as goal

pub returns-then-at_least : goal.returns-then-at_least
returns-then-at_least c =
    traced_kind _ _ _ c.in-Published.is _ c.layout.ensures.version _ c.spoken-spoken.ensures _ c.at_least.ensures c.if-at_least.true

pub returns-else-at_least : goal.returns-else-at_least
returns-else-at_least c =
    short_kind _ _ _ c.in-Published.is _ c.layout.ensures.version _ c.spoken-spoken.ensures _ c.at_least.ensures c.if-at_least.false
