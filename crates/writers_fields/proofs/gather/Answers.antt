use Rattle.writers_fields.proofs.Gathering.{gather_start, gather_end, gather_less, gather_turn}
use Rattle.writers_fields.proofs.gather.Goals as goal

pub loop-x-init : goal.loop-x-init
loop-x-init c = gather_start _ _ _ _ _ _

pub returns-then-x-eq-END : goal.returns-then-x-eq-END
returns-then-x-eq-END c = let all = gather_end _ _ _ _ _ _ _ _ _ _ _ _ c.loop-x.invariant _ c.next-x.ensures.said c.if-x-eq-END.true in record { entries = all.0; bytes = all.1.0; framed = all.1.1.0; left = all.1.1.1 }

pub loop-x-smaller : goal.loop-x-smaller
loop-x-smaller c =
    gather_less _ _ _ _ _ _ _ _ _ _ _ _ c.loop-x.invariant _ c.next-x.ensures.said c.if-x-eq-END.false

pub loop-x-preserved : goal.loop-x-preserved
loop-x-preserved c =
    gather_turn _ _ _ _ _ _ _ _ _ _ _ _ c.loop-x.invariant _ c.next-x.ensures.said c.if-x-eq-END.false _ c.target_by.ensures _ c.take.ensures _
    c.value.ensures _ c.strings_on-entries.ensures _ c.bytes_by.ensures _ c.grow-bytes.ensures
