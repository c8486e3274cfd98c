-- W-212 of a call whose answer is made of what is said of a stream, and which is lent a room: it passed s to an end, and is made again on s', with the same room.
use Prim.Native.Nat.{ℕ}
use mathlib.Core.Path.{◌≡◌, sym, ◌∙◌, ap}
use mathlib.Core.List.{List}
use Rattle.layouts.specs.Primitive.{Result}
use Rattle.layouts.specs.Judge.{lent_after}
use Rattle.layouts.specs.Calls as L
use Rattle.layouts.specs.Cut.{CutOrLonger, RefusedAsCut, WholeOnly}
use Rattle.layouts.proofs.Cut.{cut_lent, longer_lent}
use Rattle.walk_judge.specs.declared.Answer.{Answer}
use Rattle.walk_judge.specs.Judged.{answer_as}
use Rattle.walk_judge.proofs.Answers.{answer_fine}
use Rattle.std.specs.Prelude.{Ok, Err}

-- what was said where all was fine
abbrev pub said_by : Answer → L.Answer
said_by r = record { kind = r.kind; ends = r.ends; ends2 = r.ends2; found = r.found }

module _ {K : Type 0} {said : List ℕ → Result L.Answer} {ends : L.Answer → ℕ} {stream : ℕ} {keeps : List ℕ → K} (w : WholeOnly said ends stream keeps) (s s' : List ℕ)
    (r r' : Answer) (p : r ≡ answer_as (said s)) (fine : r.outcome ≡ Ok tt) (q : r' ≡ answer_as (said s')) where
  -- new is what goes into the room
  pub answered_room : (new : K → List ℕ) (lent lent' out out' : List ℕ) → lent' ≡ lent → out ≡ lent_after (said s) (new (keeps s)) lent → out' ≡ lent_after (said s') (new (keeps s')) lent
      → CutOrLonger (ends (said_by r)) s s' (RefusedAsCut Err stream r'.outcome × (out' ≡ lent')) ((r' ≡ r) × (out' ≡ out))
  answered_room new lent lent' out out' same f f' =
      let e = answer_fine r (said s) p fine in (
        λ c.
            let z = cut_lent w s s' (said_by r) e c in
            ((z.0.0, ap (λ (y : Answer). y.outcome) (q ∙ ap answer_as z.0.1)), f' ∙ z.1 _ lent ∙ sym same),
        λ c.
            let z = longer_lent w s s' (said_by r) e c in
            (q ∙ ap answer_as z.0 ∙ sym p, f' ∙ z.1 new lent ∙ sym f),
      )
