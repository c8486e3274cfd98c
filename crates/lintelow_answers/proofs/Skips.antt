-- What the skippers of `protocol` say, as answers.
use Prim.Native.Nat.{ℕ}
use mathlib.Core.Path.{◌≡◌, refl, sym, ◌∙◌, ap}
use mathlib.Core.List.{List, ◌∷◌}
use mathlib.Core.Bool.{false}
use lib.ListN.{replicate}
use lib.Dec.{eqb}
use Rattle.layouts.specs.Primitive.{pick, Result, ok, refused}
use Rattle.layouts.specs.Calls as L
use Rattle.walk_judge.specs.declared.Answer.{Answer}
use Rattle.walk_judge.specs.Judged.{answer_as}
use Rattle.walk_pass.specs.Skip.{skipped}
use Rattle.protocol.specs.declared.Arguments.{Arguments}
use Rattle.protocol.specs.Protocol.{arguments_as}
use Rattle.lintelow_answers.specs.Skips.{string_skipped, result_skipped}
use Rattle.std.specs.Prelude as Std
use Rattle.layouts.specs.declared.Refusal.{Refusal}

abbrev answer_of : Arguments → (entries : ℕ) → Answer
answer_of a k =
    record {
      outcome = a.outcome;
      kind = a.kind;
      ends = a.ends;
      ends2 = 0;
      found = record { numbers = a.count ∷ a.start ∷ a.len ∷ replicate 9 0; counts = replicate 3 0; present = false; entries = k; payload = 0 };
    }

string_by : (o : Result L.Answer) (es : List ℕ) → answer_of (arguments_as o es) (pick (eqb (arguments_as o es).kind 2) 1 0) ≡ answer_as (string_skipped o es)
string_by (ok x) es = refl
string_by (refused which place stream) es = refl

pub string_is : (o : Result L.Answer) (es : List ℕ) (a : Arguments) (k : ℕ) → a ≡ arguments_as o es → k ≡ pick (eqb a.kind 2) 1 0
    → answer_of a k ≡ answer_as (string_skipped o es)
string_is o es a k e q = ap (answer_of a) q ∙ ap (λ (x : Arguments). answer_of x (pick (eqb x.kind 2) 1 0)) e ∙ string_by o es

-- an answer with a blank record, by what was told of the skipper's
pub result_is : (o : Result ℕ) (k x : Std.Result ℕ Refusal) → skipped k ≡ o → k ≡ x → (r : Answer) → r ≡ answer_as (result_skipped (skipped x)) → r ≡ answer_as (result_skipped o)
result_is o k x e t r q = q ∙ ap (λ (y : Result ℕ). answer_as (result_skipped y)) (ap skipped (sym t) ∙ e)
