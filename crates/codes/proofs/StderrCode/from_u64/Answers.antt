-- `codes::StderrCode::from_u64` meets its contract.
use mathlib.Core.Path.{sym}
use native.Mathlib.Omega.{arith}
use Rattle.codes.specs.declared.StderrCode.TheVariants.{Next, Read, Write, Last, Error, StartActivity, StopActivity, Result}
use Rattle.codes.proofs.Messages.{code_of_lem, code_none, others}
use Rattle.codes.proofs.StderrCode.from_u64.Goals as goal

pub returns-in-1869376871 : goal.returns-in-1869376871
returns-in-1869376871 c = code_of_lem Next _ c.in-1869376871.is

pub returns-in-1684108385 : goal.returns-in-1684108385
returns-in-1684108385 c = code_of_lem Read _ c.in-1684108385.is

pub returns-in-1684108310 : goal.returns-in-1684108310
returns-in-1684108310 c = code_of_lem Write _ c.in-1684108310.is

pub returns-in-1634497651 : goal.returns-in-1634497651
returns-in-1634497651 c = code_of_lem Last _ c.in-1634497651.is

pub returns-in-1668838512 : goal.returns-in-1668838512
returns-in-1668838512 c = code_of_lem Error _ c.in-1668838512.is

pub returns-in-1398035028 : goal.returns-in-1398035028
returns-in-1398035028 c = code_of_lem StartActivity _ c.in-1398035028.is

pub returns-in-1398034256 : goal.returns-in-1398034256
returns-in-1398034256 c = code_of_lem StopActivity _ c.in-1398034256.is

pub returns-in-1381190740 : goal.returns-in-1381190740
returns-in-1381190740 c = code_of_lem Result _ c.in-1381190740.is

pub returns-in_default : goal.returns-in_default
returns-in_default c = sym (code_none _ (others _ ((((((((tt, λ e. omega arith), λ e. omega arith), λ e. omega arith), λ e. omega arith), λ e. omega arith), λ e. omega arith), λ e. omega arith), λ e. omega arith)))
