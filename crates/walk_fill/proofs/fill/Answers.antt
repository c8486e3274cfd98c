use native.Mathlib.Omega.{arith}
use Rattle.pieces.proofs.Numbers.{number_known}
use Rattle.walk_items.proofs.Measure.{read_less}
use Rattle.walk_fill.proofs.Folding.{fold_end, fold_cut, fold_quiet, fold_times, fold_filled}
use Rattle.walk_fill.proofs.fill.Goals as goal

pub returns-then-f-eq-END : goal.returns-then-f-eq-END
returns-then-f-eq-END g c =
    let all = fold_end _ c.args.s.now _ _ _ _ _ _ _ _ _ c.loop-f.invariant c.next-f.result c.next-f.ensures.law g.met.T.Room.nothing c.if-f-eq-END.true in
    record { entries = all.0; payload = all.1 }

pub returns-in_default : goal.returns-in_default
returns-in_default g c =
    let all = fold_cut _ c.args.s.now _ _ _ _ _ _ _ _ _ c.loop-f.invariant c.next-f.result c.next-f.ensures.law g.met.T.Room.nothing _ c.number_at.ensures c.in_default.is in
    record { entries = all.0; payload = all.1 }

pub overflow_add-at : goal.overflow_add-at
overflow_add-at g c = let h = number_known c.args.s.now _ _ c.number_at.ensures _ c.in-Some.is in omega arith

pub loop-f-smaller-then-f-gt-QUIET : goal.loop-f-smaller-then-f-gt-QUIET
loop-f-smaller-then-f-gt-QUIET g c =
    read_less c.args.s.now _ _ _ _ _ _ _ _ (omega arith, (number_known c.args.s.now _ _ c.number_at.ensures _ c.in-Some.is).0) search

pub loop-f-preserved-then-f-gt-QUIET : goal.loop-f-preserved-then-f-gt-QUIET
loop-f-preserved-then-f-gt-QUIET g c =
    fold_times _ c.args.s.now _ _ _ _ _ _ _ _ _ c.loop-f.invariant c.next-f.result c.next-f.ensures.law c.if-f-gt-QUIET.true _ _
    (number_known c.args.s.now _ _ c.number_at.ensures _ c.in-Some.is).1 (number_known c.args.s.now _ _ c.number_at.ensures _ c.in-Some.is).0 c.times-reps.ensures

pub fill_field-k-requires : goal.fill_field-k-requires
fill_field-k-requires g c = number_known c.args.s.now _ _ c.number_at.ensures _ c.in-Some.is

pub loop-f-preserved-else-f-gt-QUIET : goal.loop-f-preserved-else-f-gt-QUIET
loop-f-preserved-else-f-gt-QUIET g c =
    fold_filled _ c.args.s.now _ _ _ _ _ _ _ _ _ c.loop-f.invariant c.next-f.result c.next-f.ensures.law c.if-f-eq-END.false c.if-f-ne-QUIET.true c.if-f-gt-QUIET.false _ _
    c.fill_field-k.result c.fill_field-k.ensures.law

pub loop-f-preserved : goal.loop-f-preserved
loop-f-preserved g c =
    fold_quiet _ c.args.s.now _ _ _ _ _ _ _ _ _ c.loop-f.invariant c.next-f.result c.next-f.ensures.law c.if-f-ne-QUIET.false
