-- `stderr::stderr_loop` meets its contract: turn by turn.
use mathlib.Core.Path.{refl}
use native.Mathlib.Omega.{arith}
use Rattle.std.proofs.lemmas.Result.{err_from_is_err_and}
use Rattle.stderr.proofs.Going.{going_start, none_there, no_message, last_message, cut_message, past_message, going_on}
use Rattle.stderr.proofs.stderr_loop.Goals as goal

pub loop-c-init : goal.loop-c-init
loop-c-init c = going_start _

pub returns-in_default : goal.returns-in_default
returns-in_default c = none_there _ _ _ c.loop-c.invariant _ c.number_at.ensures c.in_default.is

pub returns-in-NoCode : goal.returns-in-NoCode
returns-in-NoCode c =
    no_message _ _ _ c.loop-c.invariant _ c.number_at.ensures _ c.in-Some.is _ c.find_message.ensures c.in-NoCode.is

pub returns-in-Terminal : goal.returns-in-Terminal
returns-in-Terminal c =
    last_message _ _ _ c.loop-c.invariant _ c.number_at.ensures _ c.in-Some.is _ c.find_message.ensures c.in-Terminal.is

pub returns-in_err-at-in-Goes : goal.returns-in_err-at-in-Goes
returns-in_err-at-in-Goes c =
    let p = err_from_is_err_and c.from_residual.result c.from_residual.ensures.1 in
    rw (p.1, p.2) (cut_message _ _ _ c.loop-c.invariant _ c.number_at.ensures _ c.in-Some.is _ c.find_message.ensures _ c.in-Goes.is _
    (c.layout.ensures.version, c.layout.ensures.first) _ c.in_err-at-in-Goes.ensures _ refl)

pub loop-c-smaller : goal.loop-c-smaller
loop-c-smaller c =
    let z = past_message _ _ _ c.loop-c.invariant _ c.number_at.ensures _ c.in-Some.is _ c.find_message.ensures _ c.in-Goes.is _
    (c.layout.ensures.version, c.layout.ensures.first) _ c.in_ok-at-in-Goes.ensures _ refl in
    omega (arith, z)

pub loop-c-preserved : goal.loop-c-preserved
loop-c-preserved c = going_on _ _ _ c.loop-c.invariant _ c.number_at.ensures _ c.in-Some.is _ c.find_message.ensures _ c.in-Goes.is _
    (c.layout.ensures.version, c.layout.ensures.first) _ c.in_ok-at-in-Goes.ensures _ refl
