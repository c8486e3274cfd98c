-- `text::char_length` meets its contract. `search` finds the premises of each law in what is known at the return.
use Prim.Native.Nat.{ℕ, ◌≤◌, ◌<◌}
use mathlib.Core.Path.{◌≡◌, refl}
use mathlib.Core.List.{List, [], ◌∷◌}
use native.Mathlib.Omega.{arith}
use lib.ListN.{length, get_or}
use borrow.Author.Tests.{lt-leb, le-leb}
use Rattle.text.specs.Prefix.{longer, char_length}
use Rattle.text.proofs.char_length.Goals as goal

none_is : (s : List ℕ) → length s ≡ 0 → 0 ≡ char_length s
unfolding char_length
none_is [] h = refl
none_is (a ∷ r) h = absurd (omega arith)

one_is : (s : List ℕ) → (length s ≡ 0 → ⊥) → get_or s 0 0 ≤ 0x7F → 1 ≡ char_length s
unfolding char_length
one_is [] l h = absurd (l refl)
one_is (a ∷ r) l h = simp (le-leb a 0x7F h)

longer_is : (s : List ℕ) (n b c d : ℕ) → (length s ≡ 0 → ⊥) → 0x7F < get_or s 0 0 → b ≡ get_or s 1 0 → c ≡ get_or s 2 0 → d ≡ get_or s 3 0
    → n ≡ longer (get_or s 0 0) b c d → n ≡ char_length s
unfolding char_length
longer_is [] n b c d l g eb ec ed e = absurd (l refl)
longer_is (a ∷ r) n b c d l g eb ec ed e = simp (lt-leb a 0x7F g, ← eb, ← ec, ← ed) e

pub returns-then-s-eq0 : goal.returns-then-s-eq0
returns-then-s-eq0 c = search none_is

pub returns-then-a-le127 : goal.returns-then-a-le127
returns-then-a-le127 c = search one_is

pub returns : goal.returns
returns c = search longer_is
