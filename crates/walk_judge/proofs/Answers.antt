-- For a caller that has matched on an outcome: what was said; and what lent memory then is.
use Prim.Native.Nat.{ℕ}
use mathlib.Core.Path.{◌≡◌, refl, sym, ◌∙◌, ap}
use mathlib.Core.Bool.{Bool}
use mathlib.Core.List.{List, ◌++◌}
use native.Mathlib.Omega.{arith}
use lib.ListN.{length, drop, replicate}
use lib.Seq.{drop-append_seam}
use Rattle.layouts.specs.declared.Refusal.{Refusal}
use Rattle.layouts.specs.Primitive.{Result, ok, refused}
use Rattle.layouts.specs.Refusal.{refusal, refused_by}
use Rattle.layouts.specs.Judge.{Ended, lent_after}
use Rattle.layouts.specs.Calls as L
use Rattle.walk_judge.specs.declared.Answer.{Answer}
use Rattle.walk_judge.specs.Judged.{gathered, answer_of, answer_as, ended_as, window_after}
use Rattle.walk_judge.specs.declared.Said.{Said}
use Rattle.std.specs.Prelude as Std
use Rattle.std.specs.Prelude.{Ok, Err}

-- whether an outcome is fine
abbrev is_fine : Std.Result (Unit {0}) Refusal → ℕ
is_fine (Ok tt) = 1
is_fine (Err x) = 0

abbrev told : {A : Type 0} → Std.Result (Unit {0}) Refusal → Result A
told (Ok tt) = refused 0 0 0
told (Err x) = refused_by x

-- an answer's end and record
abbrev ended : Result L.Answer → Result Ended
ended (ok a) = ok (record { found = a.found; ends = a.ends })
ended (refused which place stream) = refused which place stream

abbrev is_ok : Result L.Answer → ℕ
is_ok (ok a) = 1
is_ok (refused which place stream) = 0

pub never : {A : Type 0} (o : Std.Result (Unit {0}) Refusal) (x : Refusal) → o ≡ (Ok tt) → o ≡ Err x → A
never o x e f = let z : ◌≡◌ {A = ℕ} 1 0 = sym (ap is_fine e) ∙ ap is_fine f in absurd (omega arith)

-- what was answered, and the lent memory that goes with it
module _ (r : Answer) where
  pub answer_fine : (o : Result L.Answer) → r ≡ answer_as o → r.outcome ≡ (Ok tt) → o ≡ ok (record { kind = r.kind; ends = r.ends; ends2 = r.ends2; found = r.found })
  answer_fine (ok x) e f = ap (λ (y : Answer). ok (record { kind = y.kind; ends = y.ends; ends2 = y.ends2; found = y.found })) (sym e)
  answer_fine (refused which place stream) e f = never r.outcome (refusal which place stream) f (ap (λ (y : Answer). y.outcome) e)

  pub answer_refused : (o : Result L.Answer) (x : Refusal) → r ≡ answer_as o → r.outcome ≡ Err x → o ≡ refused_by x
  answer_refused (ok a) x e f = never r.outcome x (ap (λ (y : Answer). y.outcome) e) f
  answer_refused (refused which place stream) x e f = ap told (sym (ap (λ (y : Answer). y.outcome) e) ∙ f)

  pub refused_keeps : (o : Result L.Answer) → r ≡ answer_as o → (x : Refusal) → r.outcome ≡ Err x → (new lent out : List ℕ) → out ≡ lent_after o new lent → out ≡ lent
  refused_keeps (ok a) e x f new lent out h = never r.outcome x (ap (λ (y : Answer). y.outcome) e) f
  refused_keeps (refused which place stream) e x f new lent out h = h

  pub fine_reports : (o : Result L.Answer) → r ≡ answer_as o → r.outcome ≡ (Ok tt) → (new lent out : List ℕ) → out ≡ lent_after o new lent → out ≡ new ++ drop (length new) lent
  fine_reports (ok x) e f new lent out h = h
  fine_reports (refused which place stream) e f new lent out h = never r.outcome (refusal which place stream) f (ap (λ (y : Answer). y.outcome) e)

-- the same for one who has matched on what was said
module _ (r : Std.Result Said Refusal) (ns cs : List ℕ) (o : Result L.Answer) (e : answer_of r ns cs ≡ answer_as o) where
  pub said_fine : (kind ends ends2 n p : ℕ) (b : Bool) → r ≡ Ok (record { kind = kind; ends = ends; ends2 = ends2; entries = n; payload = p; present = b }) → o ≡ ok (record { kind = kind; ends = ends; ends2 = ends2; found = gathered ns cs b n p })
  said_fine kind ends ends2 n p b q = answer_fine (answer_of (Ok (record { kind = kind; ends = ends; ends2 = ends2; entries = n; payload = p; present = b })) ns cs) o (sym (ap (λ (x : Std.Result Said Refusal). answer_of x ns cs) q) ∙ e) refl

  pub said_refused : (x : Refusal) → r ≡ Err x → o ≡ refused_by x
  said_refused x q = answer_refused (answer_of (Err x) ns cs) o x (sym (ap (λ (y : Std.Result Said Refusal). answer_of y ns cs) q) ∙ e) refl

-- a refusal leaves the window empty
pub refused_empty : (r : Std.Result Said Refusal) (x : Refusal) → r ≡ Err x → (w : List ℕ) (n : ℕ) (es : List ℕ) → replicate 16 0 ≡ window_after r w n es
refused_empty r x q w n es = ap (λ (y : Std.Result Said Refusal). window_after y w n es) (sym q)

pub ended_fine : (o : Result Ended) (a : L.Answer) → ended_as o ≡ ok a → o ≡ ok (record { found = a.found; ends = a.ends })
ended_fine (ok x) a e = ap ended e
ended_fine (refused which place stream) a e = absurd (omega (arith, ap is_ok e))

pub ended_refused : (o : Result Ended) (which place stream : ℕ) → ended_as o ≡ refused which place stream → o ≡ refused which place stream
ended_refused (ok x) which place stream e = absurd (omega (arith, ap is_ok e))
ended_refused (refused n p i) which place stream e = ap ended e

-- no more is written than n
pub beyond : (n : ℕ) (new lent out : List ℕ) → length new ≡ n → out ≡ new ++ drop (length new) lent → drop n out ≡ drop n lent
beyond n new lent out e h = ap (drop n) h ∙ ap (λ (k : ℕ). drop k (new ++ drop (length new) lent)) (sym e) ∙ drop-append_seam new (drop (length new) lent) ∙ ap (λ (k : ℕ). drop k lent) e
