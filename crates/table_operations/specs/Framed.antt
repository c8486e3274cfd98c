-- What `op_has_client_framed_data` answers.
use Rattle.std.specs.Prelude.{Bool}
use Rattle.layouts.specs.Primitive.{Result, ok}
use Rattle.layouts.specs.Refusal.{refused_by}
use Rattle.std.specs.Prelude as Std
use Rattle.layouts.specs.declared.Refusal.{Refusal}
use Rattle.std.specs.Prelude.{Ok, Err}

abbrev pub meaning : Std.Result Bool Refusal → Result Bool
meaning (Ok b) = ok b
meaning (Err r) = refused_by r
