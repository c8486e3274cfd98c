-- `codes::StderrCode::number` meets its contract.
use mathlib.Core.Path.{sym, ap}
use Rattle.codes.specs.Stderr.{code_number}
use Rattle.codes.proofs.StderrCode.number.Goals as goal

pub returns-in-Next : goal.returns-in-Next
returns-in-Next c = sym (ap code_number c.in-Next.is)

pub returns-in-Read : goal.returns-in-Read
returns-in-Read c = sym (ap code_number c.in-Read.is)

pub returns-in-Write : goal.returns-in-Write
returns-in-Write c = sym (ap code_number c.in-Write.is)

pub returns-in-Last : goal.returns-in-Last
returns-in-Last c = sym (ap code_number c.in-Last.is)

pub returns-in-Error : goal.returns-in-Error
returns-in-Error c = sym (ap code_number c.in-Error.is)

pub returns-in-StartActivity : goal.returns-in-StartActivity
returns-in-StartActivity c = sym (ap code_number c.in-StartActivity.is)

pub returns-in-StopActivity : goal.returns-in-StopActivity
returns-in-StopActivity c = sym (ap code_number c.in-StopActivity.is)

pub returns-in-Result : goal.returns-in-Result
returns-in-Result c = sym (ap code_number c.in-Result.is)
