-- `lintelow_answers::peek` meets its contract: by what was seen.
use mathlib.Core.Path.{sym, ◌∙◌, ap}
use Rattle.walk_judge.specs.Judged.{answer_as}
use Rattle.wire.specs.Answers.{peeked}
use Rattle.lintelow_answers.specs.Answers.{peeked_at}
use Rattle.lintelow_answers.proofs.peek.Goals as goal
use Rattle.std.specs.Prelude.{ℕ, Option}

pub returns-in-Some : goal.returns-in-Some
returns-in-Some c = c.fine.ensures ∙ ap (λ (x : Option ℕ). answer_as (peeked_at c.args.at (peeked x))) (sym c.in-Some.is)

pub returns-in-None : goal.returns-in-None
returns-in-None c = c.fine-in-None.ensures ∙ ap (λ (x : Option ℕ). answer_as (peeked_at c.args.at (peeked x))) (sym c.in-None.is)
