use mathlib.Core.Path.{◌∙◌}
use borrow.Author.Rules.{rules}
use Rattle.writers.proofs.Framed.{framed_turn, framed_end}
use Rattle.writers.proofs.put_framed.Goals as goal

pub loop-chunk-init : goal.loop-chunk-init
loop-chunk-init c = search rules

pub loop-chunk-preserved : goal.loop-chunk-preserved
loop-chunk-preserved c =
    let i = c.loop-chunk.invariant in
    let s = c.in-Some.ensures.steps in
    (s.0 ∙ i.0, framed_turn _ _ _ _ _ i.1 _ _ s.1.0 (rw i.0 at s.1.1) s.1.2 _ c.put_counted.ensures)

pub returns : goal.returns
returns c = framed_end _ _ _ _ _ c.loop-chunk.invariant.1 c.in-None.ensures.steps.1.0 _ c.put_number.ensures
