use mathlib.Core.Path.{refl, ap}
use Rattle.std.proofs.lemmas.Result.{err_from_is_err_and}
use Rattle.std.specs.Prelude.{Ok}
use native.Mathlib.Omega.{arith}
use Rattle.walk_strings.proofs.Series.{half_passed, passing_start, passing_end, passing_refused, passing_on, expected_fits, passing_expected, stride_found}
use Rattle.pieces.proofs.Nodes.{half_within, whole_found}
use Rattle.walk_strings.proofs.pass.Goals as goal

pub loop-more-init : goal.loop-more-init
loop-more-init c = (passing_start c.args.s.now _ _ _ _, λ h. absurd (omega arith))

pub returns : goal.returns
returns c = let all = passing_end c.args.s.now _ _ _ _ _ _ _ c.loop-more.invariant.0 _ c.after_next.ensures c.in_default.is in record { law = all.0; on = all.1 }

pub is_expected-requires : goal.is_expected-requires
is_expected-requires c = c.loop-more.invariant.1

pub overflow_add-at : goal.overflow_add-at
overflow_add-at c = omega (arith, expected_fits c.args.s.now _ _ _ _ c.is_expected.ensures c.if-is_expected.true)

pub loop-more-smaller-then-is_expected : goal.loop-more-smaller-then-is_expected
loop-more-smaller-then-is_expected c = omega (arith, expected_fits c.args.s.now _ _ _ _ c.is_expected.ensures c.if-is_expected.true)

pub loop-more-preserved-then-is_expected : goal.loop-more-preserved-then-is_expected
loop-more-preserved-then-is_expected c = (
  passing_expected c.args.s.now _ _ _ _ _ _ _ c.loop-more.invariant.0 _ c.after_next.ensures _ _ c.in-Some.is _ _ _
      c.is_expected.ensures c.if-is_expected.true,
  c.loop-more.invariant.1,
)

pub returns-in_err-start-clause-law : goal.returns-in_err-start-clause-law
returns-in_err-start-clause-law c =
    let p = err_from_is_err_and c.from_residual.result c.from_residual.ensures.1 in
    rw (p.1, p.2) ((passing_refused c.args.s.now _ _ _ _ _ _ _ c.loop-more.invariant.0 _ c.after_next.ensures _ _ c.in-Some.is _ c.in_err-start.ensures _ refl).0)

pub overflow_add-start : goal.overflow_add-start
overflow_add-start c =
    omega (arith, half_within c.args.s.now _ _ c.in_ok-start.ensures _ _ (ap Ok c.in-Half.is))

pub returns-in-Half : goal.returns-in-Half
returns-in-Half c = let all = passing_refused c.args.s.now _ _ _ _ _ _ _ c.loop-more.invariant.0 _ c.after_next.ensures _ _ c.in-Some.is _ c.in_ok-start.ensures _
    (half_passed _ _ _ (ap Ok c.in-Half.is) _ c.refuse.ensures) in record { law = all.0; on = all.1 }

pub overflow_sub-step : goal.overflow_sub-step
overflow_sub-step c =
    omega (arith, whole_found c.args.s.now _ _ c.in_ok-start.ensures _ _ _ (ap Ok c.in-Whole.is))

pub loop-more-smaller : goal.loop-more-smaller
loop-more-smaller c =
    omega (arith, whole_found c.args.s.now _ _ c.in_ok-start.ensures _ _ _ (ap Ok c.in-Whole.is))

pub loop-more-preserved : goal.loop-more-preserved
loop-more-preserved c = (
  passing_on c.args.s.now _ _ _ _ _ _ _ c.loop-more.invariant.0 _ c.after_next.ensures _ _ c.in-Some.is _ c.in_ok-start.ensures _ _ _
      (ap Ok c.in-Whole.is),
  stride_found c.args.s.now _ _ c.in_ok-start.ensures _ _ _ (ap Ok c.in-Whole.is),
)
