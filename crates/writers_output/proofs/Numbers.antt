-- Numbers one after the other: how long they are, two lists of them, and one more.
use Prim.Native.Nat.{ℕ, ◌+◌, ◌*◌, ◌<◌}
use mathlib.Core.Path.{◌≡◌, refl, sym, ◌∙◌, ap}
use mathlib.Core.List.{List, [], ◌∷◌, ◌++◌, append_assoc}
use native.Mathlib.Omega.{arith}
use native.Mathlib.Numerals.{add-one}
use lib.ListN.{length, get_or, drop, length-append}
use lib.Seq.{drop-cons}
use Rattle.layouts.specs.Primitive.{number_bytes}
use Rattle.layouts.proofs.Little.{length_number}
use Rattle.writers_output.specs.Numbers.{bytes_of}

pub bytes_length : (ns : List ℕ) → length (bytes_of ns) ≡ 8 * length ns
unfolding bytes_of
bytes_length [] = refl
bytes_length (n ∷ ns) = let l = length_number n in let h = bytes_length ns in simp length-append (omega arith)

pub bytes_none : bytes_of [] ≡ []
unfolding bytes_of
bytes_none = refl

pub bytes_join : (ns ms : List ℕ) → bytes_of (ns ++ ms) ≡ bytes_of ns ++ bytes_of ms
unfolding bytes_of
bytes_join [] ms = refl
bytes_join (n ∷ ns) ms = ap (λ (l : List ℕ). number_bytes n ++ l) (bytes_join ns ms) ∙ sym (append_assoc (number_bytes n) (bytes_of ns) (bytes_of ms))

pub bytes_step : (ns : List ℕ) (i : ℕ) → i < length ns → bytes_of (drop i ns) ≡ number_bytes (get_or ns i 0) ++ bytes_of (drop (i + 1) ns)
unfolding bytes_of
bytes_step ns i h = ap bytes_of (drop-cons ns i 0 h) ∙ ap (λ (k : ℕ). number_bytes (get_or ns i 0) ++ bytes_of (drop k ns)) (sym (add-one i))
