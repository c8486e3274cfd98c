-- `walk_shapes::both::take_text_in_both` meets its contract: refused, without a slot, or taken, in each form.
use mathlib.Core.Path.{refl}
use Rattle.std.proofs.lemmas.Result.{err_from_is_err_and}
use Rattle.writers_output.specs.Numbers.{bytes_of}
use Rattle.walk_shapes.proofs.OneText.{text_refused, text_full, text_taken_lem}
use Rattle.walk_shapes.proofs.both.take_text_in_both.Goals as goal

pub returns-in_err-c : goal.returns-in_err-c
returns-in_err-c c =
    let p = err_from_is_err_and c.from_residual.result c.from_residual.ensures.1 in
    let all = text_refused _ _ c.in_err-c.ensures (λ ns. ns) _ refl _ _ in
    let more = text_refused _ _ c.in_err-c.ensures bytes_of _ refl 0 _ in
    rw (p.1, p.2) (record { answer = all.0; words = all.1; bytes = more.1 })

pub returns-then-slots-eq0 : goal.returns-then-slots-eq0
returns-then-slots-eq0 c =
    let all = text_full _ _ c.in_ok-c.ensures (λ ns. ns) _ _ _ refl _ _ _ c.slots.ensures c.if-slots-eq0.true _ c.refuse.ensures in
    let more = text_full _ _ c.in_ok-c.ensures bytes_of _ _ _ refl _ _ _ c.slots.ensures c.if-slots-eq0.true _ c.refuse.ensures in
    record { answer = all.0; words = all.1; bytes = more.1 }

pub returns : goal.returns
returns c =
    let all = text_taken_lem _ _ c.in_ok-c.ensures (λ ns. ns) _ _ _ refl _ _ _ c.slots.ensures c.if-slots-eq0.false _ _ c.put_entry.ensures in
    let more = text_taken_lem _ _ c.in_ok-c.ensures bytes_of _ _ _ refl _ _ _ c.slots.ensures c.if-slots-eq0.false _ _ c.put_entry-2.ensures in
    record { answer = all.0; words = all.1; bytes = more.1 }
