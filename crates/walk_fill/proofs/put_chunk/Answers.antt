-- `walk_fill::put_chunk` meets its contract.
use Rattle.walk_fill.proofs.Pieces.{chunk_put}
use Rattle.walk_fill.proofs.put_chunk.Goals as goal

pub returns : goal.returns
returns c = chunk_put _ _ c.args.len _ _ _ _ c.put_bytes.ensures
