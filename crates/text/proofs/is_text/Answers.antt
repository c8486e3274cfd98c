-- `text::is_text` meets its contract: `good_prefix` is the length exactly where the list is text.
use Prim.Native.Nat.{ℕ}
use mathlib.Core.Path.{◌≡◌, sym, ◌∙◌}
use mathlib.Core.List.{List}
use lib.ListN.{length}
use Rattle.text.specs.Rfc3629.{Text}
use Rattle.text.specs.Prefix.{good_prefix}
use Rattle.text.proofs.Meaning.{whole_text, text_whole}
use Rattle.text.proofs.is_text.Goals as goal

yes_text : (s : List ℕ) (n : ℕ) → n ≡ good_prefix s → n ≡ length s → Text s
yes_text s n e l = whole_text s (sym e ∙ l)

no_text : (s : List ℕ) (n : ℕ) → n ≡ good_prefix s → (n ≡ length s → ⊥) → Text s → ⊥
no_text s n e l x = l (e ∙ text_whole s x)

pub returns-then-text_end-s : goal.returns-then-text_end-s
returns-then-text_end-s c = search yes_text

pub returns : goal.returns
returns c = search no_text
