-- `text::eight_plain` meets its contract: the eight octets that it reads are the first eight.
use Prim.Native.Nat.{ℕ, zero, suc, ◌+◌, ◌≤◌}
use mathlib.Core.Path.{◌≡◌, refl}
use mathlib.Core.Bool.{Bool, true, false≢true}
use mathlib.Core.List.{List, [], ◌∷◌}
use native.Mathlib.Omega.{arith}
use lib.ListN.{length, get_or, take, drop}
use lib.Seq.{drop-cons}
use lib.Dec.{T}
use Rattle.text.specs.Prefix.{all_plain, PlainFor}
use Rattle.text.proofs.eight_plain.Goals as goal

abbrev span : (n k : ℕ) → List ℕ → List ℕ
span zero k s = []
span (suc n) k s = get_or s k 0 ∷ span n (suc k) s

span_take : (n k : ℕ) (s : List ℕ) → k + n ≤ length s → take n (drop k s) ≡ span n k s
span_take zero k s h = refl
span_take (suc n) k s h = rw (drop-cons s k 0 (omega arith), span_take n (suc k) s (omega arith))

first_eight : (s : List ℕ) (t : Bool) → 8 ≤ length s
    → (t ≡ true → T (all_plain (get_or s 0 0 ∷ get_or s 1 0 ∷ get_or s 2 0 ∷ get_or s 3 0 ∷ get_or s 4 0 ∷ get_or s 5 0 ∷ get_or s 6 0 ∷ get_or s 7 0 ∷ [])))
    → t ≡ true → PlainFor 8 s
first_eight s t h p e = record { there = h; ascii = rw (span_take 8 0 s h) (p e) }

pub returns-then-s-lt8 : goal.returns-then-s-lt8
returns-then-s-lt8 c = λ e. absurd (false≢true e)

pub returns : goal.returns
returns c = search first_eight
