use native.Mathlib.Omega.{arith}
use Rattle.pieces.proofs.Numbers.{number_known, number_short}
use Rattle.walk_fill.proofs.Pieces.{along_start, along_end, along_past, along_on}
use Rattle.walk_fill.proofs.fill_series.Goals as goal

pub loop-more-init : goal.loop-more-init
loop-more-init g c = along_start _ _ _ _ _ _ _ _

pub returns-clause-law : goal.returns-clause-law
returns-clause-law g c = along_end _ _ _ _ _ _ _ _ _ _ _ _ _ c.loop-more.invariant _ c.after_next.ensures c.in_default.is

pub returns-in_default-number_at-clause-law : goal.returns-in_default-number_at-clause-law
returns-in_default-number_at-clause-law g c =
    along_past _ _ _ _ _ _ _ _ _ _ _ _ _ c.loop-more.invariant _ c.after_next.ensures _ _ c.in-Some.is (number_short c.args.s.now _ _ c.number_at.ensures c.in_default-number_at.is)

pub fill_text-t-requires : goal.fill_text-t-requires
fill_text-t-requires g c = number_known _ _ _ c.number_at.ensures _ c.in-Some-number_at.is

pub loop-more-smaller : goal.loop-more-smaller
loop-more-smaller g c = omega (arith, number_known c.args.s.now _ _ c.number_at.ensures _ c.in-Some-number_at.is, c.fill_text-t.ensures.on)

pub loop-more-preserved : goal.loop-more-preserved
loop-more-preserved g c =
    along_on _ _ _ _ _ _ _ _ _ _ _ _ _ c.loop-more.invariant _ c.after_next.ensures _ _ c.in-Some.is _ c.fill_text-t.result c.fill_text-t.ensures.on c.fill_text-t.ensures.law
