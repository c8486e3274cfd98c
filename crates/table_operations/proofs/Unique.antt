-- Each public contract has one answer: two answers that meet it are equal. `Post` is what Rattle reads off the source.
use mathlib.Core.Path.{◌≡◌, sym, ◌∙◌, refl, ap}
use contract.Lifetimes.{Lfts}
use borrow.Fn.Kinds.{Dens, ended_of, ParamKind, ResultKind, Out, res_t}
use denote.Triple.Clauses.{AtExit}
use mathlib.Core.List.{List}
use mathlib.Core.Bool.{Bool}
use Rattle.layouts.specs.Primitive.{Result, ok, refused}
use Rattle.layouts.specs.Refusal.{refusal}
use Rattle.table_operations.specs.Framed.{meaning}
use Prim.Native.Nat.{ℕ}
use Rattle.table_operations.proofs.arguments.Reads as arguments
use Rattle.table_operations.proofs.arguments.Kinds as arguments-kinds
use Rattle.table_operations.proofs.skipped.Reads as skipped
use Rattle.table_operations.proofs.skipped.Kinds as skipped-kinds
use Rattle.table_operations.proofs.reply.Reads as reply
use Rattle.table_operations.proofs.reply.Kinds as reply-kinds
use Rattle.table_operations.proofs.op_has_client_framed_data.Reads as op-has-client-framed-data
use Rattle.table_operations.proofs.op_has_client_framed_data.Kinds as op-has-client-framed-data-kinds
use Rattle.table_operations.proofs.kind_of.Reads as kind-of
use Rattle.table_operations.proofs.kind_of.Kinds as kind-of-kinds
use Rattle.table_operations.specs.declared.Shape.{Shape}
use Rattle.std.specs.Prelude as Std
use Rattle.layouts.specs.declared.Refusal.{Refusal}
use Rattle.std.specs.Prelude.{Option, Ok, Err}

pub arguments_unique : (κs : Lfts 0) (a : Dens κs arguments-kinds.ps) (r r' : Option Shape) (x x' : AtExit (ended_of 0 arguments-kinds.ps arguments-kinds.r) κs)
    → arguments.Post κs a r x → arguments.Post κs a r' x' → r ≡ r'
arguments_unique κs a r r' x x' p q = p ∙ sym q

pub skipped_unique : (κs : Lfts 0) (a : Dens κs skipped-kinds.ps) (r r' : Option Shape) (x x' : AtExit (ended_of 0 skipped-kinds.ps skipped-kinds.r) κs)
    → skipped.Post κs a r x → skipped.Post κs a r' x' → r ≡ r'
skipped_unique κs a r r' x x' p q = p ∙ sym q

pub reply_unique : (κs : Lfts 0) (a : Dens κs reply-kinds.ps) (r r' : Option Shape) (x x' : AtExit (ended_of 0 reply-kinds.ps reply-kinds.r) κs)
    → reply.Post κs a r x → reply.Post κs a r' x' → r ≡ r'
reply_unique κs a r r' x x' p q = p ∙ sym q

-- two answers to the same arguments; no function here has a reference, so that no lifetime and no exit matters
abbrev pub Determined : (ps : List (ParamKind 0)) (k : ResultKind 0) → Out 0 ps k → Type 0
Determined ps k Post =
    (κs : Lfts 0) (a : Dens κs ps) (r r' : (res_t k κs).Denot) (x x' : AtExit (ended_of 0 ps k) κs) → Post κs a r x → Post κs a r' x' → r ≡ r'

-- an answer is told by its meaning
abbrev told_by : Result Bool → Std.Result Bool Refusal
told_by (ok b) = Ok b
told_by (refused which place stream) = Err (refusal which place stream)

told_by_lem : (r : Std.Result Bool Refusal) → told_by (meaning r) ≡ r
told_by_lem (Ok b) = refl
told_by_lem (Err r) = refl

framed_unique : (r r' : Std.Result Bool Refusal) → meaning r ≡ meaning r' → r ≡ r'
framed_unique r r' e = sym (told_by_lem r) ∙ ap told_by e ∙ told_by_lem r'

pub op_has_client_framed_data_determined : Determined op-has-client-framed-data-kinds.ps op-has-client-framed-data-kinds.r op-has-client-framed-data.Post
op_has_client_framed_data_determined κs a r r' x x' p q = framed_unique r r' (p ∙ sym q)

pub kind_of_unique : (κs : Lfts 0) (a : Dens κs kind-of-kinds.ps) (r r' : ℕ) (x x' : AtExit (ended_of 0 kind-of-kinds.ps kind-of-kinds.r) κs)
    → kind-of.Post κs a r x → kind-of.Post κs a r' x' → r ≡ r'
kind_of_unique κs a r r' x x' p q = p ∙ sym q
