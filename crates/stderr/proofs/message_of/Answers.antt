-- `stderr::message_of` meets its contract: code by code.
use Rattle.table.specs.Claims.{others}
use Rattle.codes.specs.declared.StderrCode.TheVariants as C
use Rattle.stderr.proofs.Going.{message_by, last_is, error_is}
use Rattle.stderr.proofs.message_of.Goals as goal

pub returns-in-Next : goal.returns-in-Next
returns-in-Next c = message_by _ C.Next _ c.in-Next.is others.next

pub returns-in-Write : goal.returns-in-Write
returns-in-Write c = message_by _ C.Write _ c.in-Write.is others.write

pub returns-in-Read : goal.returns-in-Read
returns-in-Read c = message_by _ C.Read _ c.in-Read.is others.read

pub returns-in-StopActivity : goal.returns-in-StopActivity
returns-in-StopActivity c = message_by _ C.StopActivity _ c.in-StopActivity.is others.stopped

pub returns-in-StartActivity : goal.returns-in-StartActivity
returns-in-StartActivity c = message_by _ C.StartActivity _ c.in-StartActivity.is others.started

pub returns-in-Result : goal.returns-in-Result
returns-in-Result c = message_by _ C.Result _ c.in-Result.is others.result

pub returns-in-Last : goal.returns-in-Last
returns-in-Last c = message_by _ C.Last _ c.in-Last.is last_is

pub returns-in-Error : goal.returns-in-Error
returns-in-Error c = message_by _ C.Error _ c.in-Error.is error_is
