-- `walk_fill::has_contents` meets its contract: a multiple of eight bytes.
use lib.ListN.{length}
use Rattle.walk_fill.proofs.Pieces.{has_contents}
use Rattle.walk_fill.proofs.has_contents.Goals as goal

pub returns : goal.returns
returns c = has_contents (length c.args.s.now) c.args.start c.args.n c.requires
