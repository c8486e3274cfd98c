-- `stderr::error_block` meets its contract: the table has the block of each kind.
use Rattle.table.specs.Claims.{others}
use Rattle.stderr.proofs.error_block.Goals as goal

pub returns-in-Ported : goal.returns-in-Ported
returns-in-Ported c = rw c.in-Ported.is others.ported

pub returns-in-Traced : goal.returns-in-Traced
returns-in-Traced c = rw c.in-Traced.is others.traced

pub returns-in-Short : goal.returns-in-Short
returns-in-Short c = rw c.in-Short.is others.short
