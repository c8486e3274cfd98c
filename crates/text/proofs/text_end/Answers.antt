-- `text::text_end` meets its contract: what is text is good to its end.
use Prim.Native.Nat.{ℕ}
use mathlib.Core.Path.{◌≡◌, sym}
use mathlib.Core.Bool.{Bool, true}
use mathlib.Core.List.{List}
use lib.ListN.{length}
use Rattle.text.specs.Rfc3629.{Text}
use Rattle.text.specs.Prefix.{good_prefix}
use Rattle.text.proofs.Meaning.{text_whole}
use Rattle.text.proofs.text_end.Goals as goal

whole : (s : List ℕ) (t : Bool) → (t ≡ true → Text s) → t ≡ true → length s ≡ good_prefix s
whole s t h e = sym (text_whole s (h e))

pub returns-then-surely_text : goal.returns-then-surely_text
returns-then-surely_text c = search whole
