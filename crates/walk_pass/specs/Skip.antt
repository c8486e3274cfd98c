-- What `layouts` says of skipping, as the code answers it.
use Rattle.std.specs.Prelude.{ℕ}
use Rattle.layouts.specs.Primitive.{Result, ok}
use Rattle.layouts.specs.Refusal.{refused_by}
use Rattle.std.specs.Prelude as Std
use Rattle.layouts.specs.declared.Refusal.{Refusal}
use Rattle.std.specs.Prelude.{Ok, Err}

abbrev pub skipped : Std.Result ℕ Refusal → Result ℕ
skipped (Ok ends) = ok ends
skipped (Err r) = refused_by r
