-- `writers_calls::put_frames` meets its contract.
use native.Mathlib.Omega.{arith}
use Rattle.writers_calls.proofs.Puts.{frames_fit, frames_put, frames_none}
use Rattle.writers_calls.proofs.put_frames.Goals as goal

pub put_framed-requires : goal.put_framed-requires
put_framed-requires c =
    frames_fit c.args.kind c.args.at c.args.payload.now c.args.out.now c.if-kind-eq-FRAMES.true c.requires

pub overflow_add-result : goal.overflow_add-result
overflow_add-result c =
    let f = frames_fit c.args.kind c.args.at c.args.payload.now c.args.out.now c.if-kind-eq-FRAMES.true c.requires in
    omega (arith, c.put_framed.ensures.length)

pub returns-then-kind-eq-FRAMES : goal.returns-then-kind-eq-FRAMES
returns-then-kind-eq-FRAMES c = let all = frames_put c.args.kind _ _ _ c.if-kind-eq-FRAMES.true _ c.put_framed.ensures.length _ c.put_framed.ensures.out in record { next = all.0; out = all.1 }

pub returns : goal.returns
returns c = let all = frames_none c.args.kind _ c.args.payload.now _ c.if-kind-eq-FRAMES.false in record { next = all.0; out = all.1 }
