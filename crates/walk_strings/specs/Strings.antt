-- A series of strings as a tree, what is left of it, and what it is to pass over one.
use Rattle.std.specs.Prelude.{ℕ, ◌+◌, ◌-◌, ◌≤◌, ◌≡◌, List, Bool, true, false, length, ltb}
use Rattle.layouts.specs.Primitive.{pick, number_at, limit, pad_of, Result}
use Rattle.layouts.specs.Refusal.{refused_by}
use Rattle.layouts.specs.Shape.{Role, Tree, say, strings, units}
use Rattle.layouts.specs.Pieces.{text_of, run, skip_of}
use Rattle.pieces.specs.Pieces.{text_found}
use Rattle.walk_strings.specs.declared.More.{More}
use Rattle.pieces.specs.declared.Text.TheVariants.{Whole}
use Rattle.std.specs.Prelude as Std
use Rattle.layouts.specs.declared.Refusal.{Refusal}
use Rattle.std.specs.Prelude.{Option, Some, None, Ok, Err}

unfoldable pub series : Role → (pend extra left : ℕ) → (Unit {0} → Tree) → Tree
series m pend extra left k = strings m pend (λ u. units m extra left k)

abbrev pub series_after : Role → (extra : ℕ) → (Unit {0} → Tree) → Option More → Tree
series_after m extra k (Some x) = say m (λ u. series m x.pend extra x.left k)
series_after m extra k None = k tt

abbrev pub after_next : (pend extra left : ℕ) → Option More
after_next pend extra left = pick (ltb 0 pend) (Some (record { pend = (pend - 1); left = left })) (pick (ltb 0 left) (Some (record { pend = extra; left = (left - 1) })) None)

-- ---- skipping: what follows, or the refusal
abbrev pub passed_to : Std.Result ℕ Refusal → (ℕ → Result ℕ) → Result ℕ
passed_to (Ok at) k = k at
passed_to (Err r) k = refused_by r

-- t puts something before a rest: whatever the rest is, who skips comes to it there
abbrev pub Passes : List ℕ → (at : ℕ) → ((Unit {0} → Tree) → Tree) → Std.Result ℕ Refusal → Type 0
Passes s at t r = (k : Unit {0} → Tree) → skip_of (run (t k) s at) ≡ passed_to r (λ a. skip_of (run (k tt) s a))

-- a place that is no earlier
abbrev pub PastFrom : (from : ℕ) → Std.Result ℕ Refusal → Type 0
PastFrom from (Ok at) = from ≤ at
PastFrom from (Err r) = Unit {0}

-- a long step is that past a string of n bytes
abbrev pub Strides : (n step : ℕ) → Type 0
Strides n step = 256 ≤ step → (n ≤ limit) × (step ≡ 8 + n + pad_of n)

-- yes says that a whole string of n bytes stands at a place, and what follows it so many bytes on; no says nothing
abbrev pub Expected : List ℕ → (at n step : ℕ) → Bool → Type 0
Expected s at n step true = Ok (Whole (at + 8) n (at + step)) ≡ text_found (text_of (length s) (number_at s at) at)
Expected s at n step false = Unit {0}
