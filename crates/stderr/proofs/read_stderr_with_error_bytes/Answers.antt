-- `stderr::read_stderr_with_error_bytes` meets its contract: what is judged fine fits.
use Rattle.walk_rooms.proofs.Laws.{bytes_after}
use Rattle.stderr.proofs.Block.{with_error_fits}
use Rattle.stderr.proofs.read_stderr_with_error_bytes.Goals as goal

pub returns-clause-entries : goal.returns-clause-entries
returns-clause-entries c = rw (← c.error_kind.ensures) (bytes_after _ _ (with_error_fits _ c.args.s.now) _ _ c.read.ensures.entries)
