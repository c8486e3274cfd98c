use mathlib.Core.Path.{refl}
use Rattle.walk_judge.proofs.Answers.{refused_empty}
use native.Mathlib.Omega.{arith}
use Rattle.layouts.specs.Judge.{entries_of}
use Rattle.walk_items.specs.Items.{pieces_of}
use Rattle.walk_items.proofs.Measure.{quiet_less}
use Rattle.walk_judge.proofs.Judging.{going_start, going_end, going_quiet, going_refused, going_on, fed_less}
use Rattle.walk_judge.proofs.judge.Goals as goal

pub loop-f-init : goal.loop-f-init
loop-f-init c = going_start _ _ _ _ _ _ _ c.begin-f.result c.begin-f.ensures.law

pub returns-then-f-eq-END : goal.returns-then-f-eq-END
returns-then-f-eq-END c = let all = going_end _ _ _ _ _ _ _ _ _ _ c.next-f.ensures.law _ _ _ _ c.loop-f.invariant c.if-f-eq-END.true in record { answer = all.0; window = all.1 }

pub loop-f-smaller-then-f-eq-QUIET : goal.loop-f-smaller-then-f-eq-QUIET
loop-f-smaller-then-f-eq-QUIET c = quiet_less c.args.s.now _ _ _ _ c.next-f.result c.next-f.ensures.falls c.if-f-eq-QUIET.true

pub loop-f-preserved-then-f-eq-QUIET : goal.loop-f-preserved-then-f-eq-QUIET
loop-f-preserved-then-f-eq-QUIET c = going_quiet _ _ _ _ _ _ _ _ _ _ c.next-f.ensures.law _ _ _ _ c.loop-f.invariant c.if-f-eq-QUIET.true

pub feed-requires : goal.feed-requires
feed-requires c = (c.if-f-eq-END.false, c.if-f-eq-QUIET.false)

pub returns-in-Err : goal.returns-in-Err
returns-in-Err c =
    record {
      answer = going_refused _ _ _ _ _ _ _ _ _ _ c.next-f.ensures.law _ _ _ _ c.loop-f.invariant _ _ c.feed.ensures.law _ _ c.in-Err.is c.refuse.ensures.answer;
      window = refused_empty c.refuse.result _ c.refuse.ensures.said c.args.window.now c.args.entries
          (entries_of (pieces_of c.args.layout c.args.s.now c.args.from));
    }

pub loop-f-smaller : goal.loop-f-smaller
loop-f-smaller c =
    fed_less c.args.s.now _ _ _ _ c.feed.result _ _ _ _ _ _ _ _ c.feed.ensures.on c.in-Ok.is (omega arith)

pub loop-f-preserved : goal.loop-f-preserved
loop-f-preserved c =
    going_on _ _ _ _ _ _ _ _ _ _ c.next-f.ensures.law _ _ _ _ c.loop-f.invariant _ _ c.feed.ensures.law _ _ _ _ _ _ c.in-Ok.is _ (c.note-present.ensures _ _) refl
