use borrow.Author.Rules.{rules}
use mathlib.Core.Path.{ap}
use native.Mathlib.Omega.{arith}
use Rattle.std.proofs.lemmas.Result.{err_from_is_err_and}
use Rattle.layouts.specs.Shape.{Tree}
use Rattle.layouts.specs.Pieces.{run, skip_of}
use Rattle.walk_pass.proofs.Skipping.{skip_end, skip_moved}
use Rattle.walk_pass.proofs.skip.Goals as goal

pub loop-f-init : goal.loop-f-init
loop-f-init c = ap (λ (t : Tree). skip_of (run t c.args.s.now c.args.from)) c.begin-f.ensures.law

pub returns-then-f-eq-END : goal.returns-then-f-eq-END
returns-then-f-eq-END c =
    skip_end _ _ _ _ _ _ _ _ c.loop-f.invariant _ c.next-f.ensures.law (omega arith)

pub returns-in_err-k : goal.returns-in_err-k
returns-in_err-k c =
    let p = err_from_is_err_and c.from_residual.result c.from_residual.ensures.1 in
    rw (p.1, p.2) (skip_moved _ _ _ _ _ _ _ _ c.loop-f.invariant _ c.next-f.ensures.law c.if-f-eq-END.false _ c.pass_item.ensures.law _ c.in_err-k.was)

pub loop-f-smaller : goal.loop-f-smaller
loop-f-smaller c = c.in_ok-k.ensures.on _ _ _ c.next-f.ensures.falls (search rules)

pub loop-f-preserved : goal.loop-f-preserved
loop-f-preserved c =
    skip_moved _ _ _ _ _ _ _ _ c.loop-f.invariant _ c.next-f.ensures.law c.if-f-eq-END.false _ c.pass_item.ensures.law _ c.in_ok-k.was
