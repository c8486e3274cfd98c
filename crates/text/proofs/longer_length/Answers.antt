-- `text::longer_length` meets its contract: each way through the code is a way through `longer`.
use Prim.Native.Nat.{ℕ}
use mathlib.Core.Path.{◌≡◌, sym, ◌∙◌}
use mathlib.Core.Bool.{Bool, true, false}
use Rattle.text.specs.Prefix.{is_two, is_three, is_four, longer}
use Rattle.text.proofs.longer_length.Goals as goal

two_is : (a b c d : ℕ) (t : Bool) → t ≡ is_two a b → t ≡ true → 2 ≡ longer a b c d
unfolding longer
two_is a b c d t e h = simp (sym e ∙ h)

three_is : (a b c d : ℕ) (t u : Bool) → t ≡ is_two a b → t ≡ false → u ≡ is_three a b c → u ≡ true → 3 ≡ longer a b c d
unfolding longer
three_is a b c d t u e h f g = simp (sym e ∙ h, sym f ∙ g)

four_is : (a b c d : ℕ) (t u v : Bool) → t ≡ is_two a b → t ≡ false → u ≡ is_three a b c → u ≡ false → v ≡ is_four a b c d → v ≡ true → 4 ≡ longer a b c d
unfolding longer
four_is a b c d t u v e h f g k l = simp (sym e ∙ h, sym f ∙ g, sym k ∙ l)

none_is : (a b c d : ℕ) (t u v : Bool) → t ≡ is_two a b → t ≡ false → u ≡ is_three a b c → u ≡ false → v ≡ is_four a b c d → v ≡ false → 0 ≡ longer a b c d
unfolding longer
none_is a b c d t u v e h f g k l = simp (sym e ∙ h, sym f ∙ g, sym k ∙ l)

pub returns-then-is_two : goal.returns-then-is_two
returns-then-is_two c = search two_is

pub returns-then-is_three : goal.returns-then-is_three
returns-then-is_three c = search three_is

pub returns-then-is_four : goal.returns-then-is_four
returns-then-is_four c = search four_is

pub returns : goal.returns
returns c = search none_is
