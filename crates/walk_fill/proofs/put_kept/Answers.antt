-- `walk_fill::put_kept` meets its contract: an entry, or nothing.
use Rattle.walk_fill.proofs.Folding.{not_kept, is_kept_lem}
use Rattle.walk_fill.proofs.put_kept.Goals as goal

pub returns-then-role-lt-KEPT : goal.returns-then-role-lt-KEPT
returns-then-role-lt-KEPT g c = not_kept g.T.Room.laid c.args.role c.args.start c.args.len _ _ g.met.T.Room.nothing c.if-role-lt-KEPT.true

pub returns : goal.returns
returns g c = is_kept_lem g.T.Room.laid c.args.role c.args.start c.args.len _ _ c.if-role-lt-KEPT.false _ _ c.put_entry.ensures
