-- `walk_fill::fill_field` meets its contract: framed data, a string, or what follows a number.
use Rattle.walk_fill.proofs.Folding.{frames_field, text_field, number_field}
use Rattle.walk_fill.proofs.fill_field.Goals as goal

pub returns-then-kind-eq-FRAMES-clause-law : goal.returns-then-kind-eq-FRAMES-clause-law
returns-then-kind-eq-FRAMES-clause-law g c = frames_field _ c.args.s.now _ _ _ _ _ _ _ c.if-kind-eq-FRAMES.true _ c.copy_frames-c.result c.copy_frames-c.ensures.law

pub returns-then-kind-eq-STR-clause-law : goal.returns-then-kind-eq-STR-clause-law
returns-then-kind-eq-STR-clause-law g c = text_field _ c.args.s.now _ _ _ _ _ _ _ _ c.fill_text-t.result c.if-kind-eq-STR.true c.fill_text-t.ensures.law

pub returns-clause-law : goal.returns-clause-law
returns-clause-law g c =
    number_field _ c.args.s.now _ _ _ _ _ _ _ _ c.fill_after-r.result c.if-kind-eq-STR.false c.if-kind-eq-FRAMES.false _ c.requires.1 c.requires.0 c.fill_after-r.ensures.law
