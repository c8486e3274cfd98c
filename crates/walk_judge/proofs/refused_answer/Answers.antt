-- `walk_judge::refused_answer` meets its contract: all but the outcome is blank.
use mathlib.Core.Path.{ap}
use Rattle.layouts.specs.declared.Record.{Record}
use Rattle.walk_judge.proofs.refused_answer.Goals as goal
use Rattle.std.specs.Prelude.{Err}

pub returns : goal.returns
returns c = ap (λ (x : Record). record { outcome = Err c.args.refusal; kind = 0; ends = 0; ends2 = 0; found = x }) c.empty.ensures
