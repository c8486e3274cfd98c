use native.Mathlib.Omega.{arith}
use Rattle.walk_fill.proofs.Pieces.{copying_last, copying_past, copying_cut, copying_on}
use Rattle.walk_fill.proofs.copy_frames.Goals as goal

pub returns-then-size-eq0-clause-law : goal.returns-then-size-eq0-clause-law
returns-then-size-eq0-clause-law c = copying_last _ _ _ _ _ _ _ _ c.loop-size.invariant c.if-size-eq0.true

pub returns-then-s-start-clause-law : goal.returns-then-s-start-clause-law
returns-then-s-start-clause-law c = copying_past _ _ _ _ _ _ _ _ c.loop-size.invariant (omega (arith, c.loop-size.invariant.there, c.if-s-start.true))

pub returns-in_default-clause-law : goal.returns-in_default-clause-law
returns-in_default-clause-law c =
    copying_cut _ _ _ _ _ _ _ _ c.loop-size.invariant c.if-size-eq0.false (omega (arith, c.loop-size.invariant.there, c.if-s-start.false)) _ _ c.put_chunk-filled.ensures _
    c.number_at.ensures c.in_default.is

pub loop-size-preserved : goal.loop-size-preserved
loop-size-preserved c =
    copying_on _ _ _ _ _ _ _ _ c.loop-size.invariant c.if-size-eq0.false (omega (arith, c.loop-size.invariant.there, c.if-s-start.false)) _ _ c.put_chunk-filled.ensures _
    c.number_at.ensures _ c.in-Some.is
