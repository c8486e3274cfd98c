use mathlib.Core.Path.{◌∙◌}
use Rattle.writers_calls.proofs.Puts.{going_start, going_end, going_less, going_room, going_turn}
use Rattle.writers_calls.proofs.put_items.Goals as goal

pub loop-x-init : goal.loop-x-init
loop-x-init g c = going_start _ _ _ _ _ _ _ _ c.requires (c.slots-slots.ensures.slots ∙ g.met.T.Form.counted _)

pub shape_of-out-then-x-eq-END : goal.shape_of-out-then-x-eq-END
shape_of-out-then-x-eq-END g c = c.loop-x.invariant.filling.size

pub returns-then-x-eq-END : goal.returns-then-x-eq-END
returns-then-x-eq-END g c = going_end _ _ _ _ _ _ _ _ _ _ _ _ c.loop-x.invariant _ c.next-x.ensures.said c.if-x-eq-END.true

pub put_item-at-requires : goal.put_item-at-requires
put_item-at-requires g c =
    going_room _ _ _ _ _ _ _ _ _ _ _ _ c.loop-x.invariant _ c.next-x.ensures.said c.if-x-eq-END.false _ c.value-n.ensures _ c.used_after-next.ensures

pub loop-x-smaller : goal.loop-x-smaller
loop-x-smaller g c =
    going_less _ _ _ _ _ _ _ _ _ _ _ _ c.loop-x.invariant _ c.next-x.ensures.said c.if-x-eq-END.false

pub loop-x-preserved : goal.loop-x-preserved
loop-x-preserved g c =
    going_turn _ _ _ _ _ _ _ _ _ _ _ _ c.loop-x.invariant _ c.next-x.ensures.said c.if-x-eq-END.false _ c.value-n.ensures _ c.used_after-next.ensures _
    c.put_item-at.ensures.next _ c.put_item-at.ensures.out
