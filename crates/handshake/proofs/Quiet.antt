-- Turns of numbers alone keep no string.
use Prim.Native.Nat.{ℕ, zero, suc, ◌+◌}
use mathlib.Core.Path.{◌≡◌, refl}
use mathlib.Core.List.{List, []}
use mathlib.Core.Bool.{Bool, true, false}
use lib.ListN.{length}
use Rattle.layouts.specs.Primitive.{number_at}
use Rattle.layouts.specs.Shape.{Target, dropped, maybe, num, Tree, ask, stop, if_true, field, gated, fields, group, groups, layout}
use Rattle.layouts.specs.Pieces.{Num, value, short, num_of, after_num, run}
use Rattle.layouts.specs.Judge.{entries_of}
use Rattle.layouts.specs.Handshake.{hello}

abbrev pub Quiet : Tree → Type 0
Quiet t = (s : List ℕ) (at : ℕ) → entries_of (run t s at) ≡ []

pub ask_quiet : (i : Target) (k : ℕ → Tree) → ((n : ℕ) → Quiet (k n)) → Quiet (ask i k)
unfolding run after_num entries_of
ask_quiet i k h s at = by (num_of (length s) (number_at s at) at)
  where
    by : (m : Num) → entries_of (after_num m i at (λ n. run (k n) s (at + 8))) ≡ []
    by (value n) = h n s (at + 8)
    by short = refl

pub stop_quiet : Quiet stop
unfolding run entries_of
stop_quiet s at = refl

pub num_quiet : (b : Bool) (i : Target) (k : Unit {0} → Tree) → Quiet (k tt) → Quiet (gated b (num i) k)
unfolding gated field
num_quiet true i k h = ask_quiet i (λ n. k tt) (λ n. h)
num_quiet false i k h = h

true_quiet : (n : ℕ) (k : Unit {0} → Tree) → Quiet (k tt) → Quiet (if_true n k)
true_quiet zero k h = h
true_quiet (suc n) k h = ask_quiet dropped (λ v. k tt) (λ v. h)

pub maybe_quiet : (b : Bool) (k : Unit {0} → Tree) → Quiet (k tt) → Quiet (gated b maybe k)
unfolding gated field
maybe_quiet true k h = ask_quiet dropped (λ n. if_true n k) (λ n. true_quiet n k h)
maybe_quiet false k h = h

pub hello_quiet : (i j : ℕ) → Quiet (hello i j)
unfolding layout groups group fields gated field
hello_quiet i j = ask_quiet _ _ (λ n. ask_quiet _ _ (λ m. stop_quiet))
