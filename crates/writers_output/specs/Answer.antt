-- What a writer's answer means, by the definitions of `layouts`.
use Rattle.std.specs.Prelude.{ℕ, List}
use Rattle.layouts.specs.Primitive.{Result, ok}
use Rattle.layouts.specs.Refusal.{refused_by}
use Rattle.layouts.specs.Judge.{lent_after}
use Rattle.layouts.specs.Writers.{writing}
use Rattle.std.specs.Prelude as Std
use Rattle.layouts.specs.declared.Refusal.{Refusal}
use Rattle.std.specs.Prelude.{Ok, Err}

abbrev pub meaning : Std.Result ℕ Refusal → Result ℕ
meaning (Ok n) = ok n
meaning (Err r) = refused_by r

-- the lent bytes after this output was to be written
abbrev pub after_writing : (output lent : List ℕ) → List ℕ
after_writing output lent = lent_after (writing output lent) output lent
