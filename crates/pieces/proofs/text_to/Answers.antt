-- `pieces::text_to` meets its contract.
use mathlib.Core.Path.{ap}
use native.Mathlib.Omega.{arith}
use Rattle.layouts.specs.Judge.{is_decoded}
use Rattle.pieces.specs.Pieces.{role_of}
use Rattle.pieces.proofs.Strings.{text_inside, text_passed_lem, text_decoded}
use Rattle.pieces.proofs.text_to.Goals as goal

pub overflow_add-result : goal.overflow_add-result
overflow_add-result c =
    let z = text_inside c.args.s.now c.args.start c.args.len _ c.text_end.ensures in
    omega arith

pub returns-then-decoded : goal.returns-then-decoded
returns-then-decoded c =
    text_decoded c.args.s.now _ c.args.start c.args.len _ (ap (λ d. is_decoded (role_of d)) c.if-decoded.true) c.requires
    c.text_end.ensures

pub returns : goal.returns
returns c =
    text_passed_lem c.args.s.now _ c.args.start c.args.len (ap (λ d. is_decoded (role_of d)) c.if-decoded.false)
