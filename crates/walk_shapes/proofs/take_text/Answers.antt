-- `walk_shapes::take_text` meets its contract: refused, without a slot, or taken.
use mathlib.Core.Path.{refl}
use Rattle.std.proofs.lemmas.Result.{err_from_is_err_and}
use Rattle.walk_shapes.proofs.OneText.{text_refused, text_full, text_taken_lem}
use Rattle.walk_shapes.proofs.take_text.Goals as goal

pub returns-in_err-c : goal.returns-in_err-c
returns-in_err-c g c =
    let p = err_from_is_err_and c.from_residual.result c.from_residual.ensures.1 in
    let all = text_refused _ _ c.in_err-c.ensures g.T.Room.laid _ refl _ _ in
    rw (p.1, p.2) (record { answer = all.0; entries = all.1 })

pub returns-then-slots-eq0 : goal.returns-then-slots-eq0
returns-then-slots-eq0 g c = let all = text_full _ _ c.in_ok-c.ensures g.T.Room.laid _ _ _ refl _ _ _ c.slots.ensures.slots c.if-slots-eq0.true _ c.refuse.ensures in record { answer = all.0; entries = all.1 }

pub returns : goal.returns
returns g c = let all = text_taken_lem _ _ c.in_ok-c.ensures g.T.Room.laid _ _ _ refl _ _ _ c.slots.ensures.slots c.if-slots-eq0.false _ _ c.put_entry.ensures in record { answer = all.0; entries = all.1 }
