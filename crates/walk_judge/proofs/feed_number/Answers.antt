-- `walk_judge::feed_number` meets its contract: a flag or count, or a number and what follows it.
use native.Mathlib.Omega.{arith}
use mathlib.Core.Path.{refl}
use Rattle.std.proofs.lemmas.Result.{err_from_is_err_and}
use Rattle.walk_judge.proofs.Feeding.{number_cuts, fed_times, after_refused, after_fed}
use Rattle.walk_judge.proofs.feed_number.Goals as goal

pub overflow_add-on : goal.overflow_add-on
overflow_add-on c = let h = c.in_ok-x.ensures.whole in omega arith

pub returns-in_err-x-clause-law : goal.returns-in_err-x-clause-law
returns-in_err-x-clause-law c =
    let p = err_from_is_err_and c.from_residual.result c.from_residual.ensures.1 in
    rw (p.1, p.2) (number_cuts _ _ _ _ _ _ _ c.requires.0 c.requires.1 c.requires.2 c.requires.3 _ c.in_err-x.ensures.cut)

pub returns-then-kind-gt-QUIET : goal.returns-then-kind-gt-QUIET
returns-then-kind-gt-QUIET c =
    let h = c.in_ok-x.ensures.whole in
    record {
      law = fed_times _ _ _ _ _ _ _ c.requires.0 c.requires.1 c.requires.2 c.requires.3 _ h c.if-kind-gt-QUIET.true _ c.times.ensures;
      on = (omega arith, h.0);
    }

pub returns-in_err-k-clause-law : goal.returns-in_err-k-clause-law
returns-in_err-k-clause-law c =
    let p = err_from_is_err_and c.from_residual-in_err-k.result c.from_residual-in_err-k.ensures.1 in
    rw (p.1, p.2) (λ room. after_refused _ _ _ _ _ _ _ c.requires.0 c.requires.1 c.requires.2 c.requires.3 _ c.in_ok-x.ensures.whole
    (omega (arith, c.if-kind-gt-QUIET.false, c.requires)) _ refl _ _ c.in_err-k.ensures.law room _ refl)

pub returns : goal.returns
returns c =
    record {
      law = λ room. after_fed _ _ _ _ _ _ _ c.requires.0 c.requires.1 c.requires.2 c.requires.3 _ c.in_ok-x.ensures.whole
          (omega (arith, c.if-kind-gt-QUIET.false, c.requires)) _ c.target_for.ensures _ _ c.in_ok-k.ensures.law room _ _ refl;
      on = (c.in_ok-k.ensures.on, c.in_ok-x.ensures.whole.0);
    }
