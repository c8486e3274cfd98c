-- `walk_judge::feed` meets its contract: a string, framed data, or an item that begins with a number.
use mathlib.Core.Path.{refl}
use Rattle.std.proofs.lemmas.Result.{err_from_is_err_and}
use Rattle.walk_judge.proofs.Feeding.{fed_refused, fed_text, frames_refused, frames_fed}
use Rattle.walk_judge.proofs.feed.Goals as goal

pub returns-in_err-k-clause-law : goal.returns-in_err-k-clause-law
returns-in_err-k-clause-law c =
    let p = err_from_is_err_and c.from_residual.result c.from_residual.ensures.1 in
    rw (p.1, p.2) (fed_refused c.args.s.now _ _ _ _ _ _ c.requires.0 c.if-kind-eq-STR.true _ _ c.in_err-k.ensures.law _ _ refl)

pub returns-then-kind-eq-STR : goal.returns-then-kind-eq-STR
returns-then-kind-eq-STR c =
    record { law = fed_text c.args.s.now _ _ _ _ _ _ c.requires.0 c.if-kind-eq-STR.true _ _ c.in_ok-k.ensures.law _ _ _ refl; on = c.in_ok-k.ensures.on }

pub returns-in_err-k-2-clause-law : goal.returns-in_err-k-2-clause-law
returns-in_err-k-2-clause-law c =
    let p = err_from_is_err_and c.from_residual-in_err-k-2.result c.from_residual-in_err-k-2.ensures.1 in
    rw (p.1, p.2) (frames_refused c.args.s.now _ _ _ _ _ _ c.requires.0 _ c.if-kind-eq-FRAMES.true _ c.in_err-k-2.ensures.law _ refl)

pub returns-then-kind-eq-FRAMES : goal.returns-then-kind-eq-FRAMES
returns-then-kind-eq-FRAMES c =
    record { law = frames_fed c.args.s.now _ _ _ _ _ _ c.requires.0 _ c.if-kind-eq-FRAMES.true _ c.in_ok-k-2.ensures.law _ _ refl; on = c.in_ok-k-2.ensures.on }

pub feed_number-requires : goal.feed_number-requires
feed_number-requires c = (c.requires.0, c.requires.1, c.if-kind-eq-STR.false, c.if-kind-eq-FRAMES.false)

pub returns : goal.returns
returns c = record { law = c.feed_number.ensures.law _; on = c.feed_number.ensures.on }
