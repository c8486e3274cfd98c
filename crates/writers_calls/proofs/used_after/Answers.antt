-- `writers_calls::used_after` meets its contract.
use Prim.Native.Nat.{ℕ}
use mathlib.Core.Path.{◌≡◌, refl, ap, sym, ◌∙◌}
use Rattle.std.specs.Prelude.{Result, Ok, Err}
use Rattle.std.specs.Result.{result_unwrap_or}
use Rattle.layouts.specs.declared.Refusal.{Refusal}
use Rattle.writers_output.specs.Answer.{meaning}
use Rattle.writers_fields.proofs.Steps.{number_only}
use Rattle.writers_calls.specs.Calls.{used_or}
use Rattle.writers_calls.proofs.used_after.Goals as goal

by_meaning : (used : ℕ) (w : Result ℕ Refusal) → result_unwrap_or w used ≡ used_or used (meaning w)
by_meaning used (Ok next) = refl
by_meaning used (Err r) = refl

pub returns-then-kind-eq-NUM : goal.returns-then-kind-eq-NUM
returns-then-kind-eq-NUM c = ap (used_or c.args.used) (sym (number_only _ _ _ _ c.if-kind-eq-NUM.true))

pub returns : goal.returns
returns c = c.unwrap_or.ensures ∙ by_meaning c.args.used c.strings_after.result ∙ ap (used_or c.args.used) c.strings_after.ensures
