-- How a set is judged, and the strings that it is made of, by the definitions of `layouts`.
use Rattle.std.specs.Prelude.{ℕ, zero, suc, ◌+◌, ◌-◌, List, [], ◌∷◌, length, ltb, leb}
use Rattle.text.specs.Prefix.{is_text}
use Rattle.layouts.specs.Primitive.{pick, bad_text, output_full, Result, ok, refused, onward}
use Rattle.layouts.specs.Judge.{lent_after}
use Rattle.writers_output.specs.Placed.{placed}
use Rattle.layouts.specs.Writers.{part_of, view_of, text_at, string_bytes, strings_bytes, set_bytes, texts_of, write_string_set, output_of}

-- n bytes are to go where there is room for so many
abbrev pub fitting : (n room : ℕ) → Result ℕ
fitting n room = pick (leb n room) (ok n) (refused output_full 0 0)

-- how many bytes string number i takes, where it is text
abbrev pub text_taken : (i : ℕ) → List ℕ → Result ℕ
text_taken i c = pick (is_text c) (ok (length (string_bytes c))) (refused bad_text i 0)

abbrev pub entry_taken : (bytes entries : List ℕ) → (i : ℕ) → Result ℕ
entry_taken bytes es i = onward (text_at bytes es i) (λ c. ok (length (string_bytes c)))

-- the sum of a total and n, or more than any room where it passes this one
abbrev pub grown : (room total n : ℕ) → ℕ
grown room total n = pick (ltb room total) total (pick (ltb (room - total) n) 18446744073709551615 (total + n))

-- these strings are to go behind some other bytes, where there is so much room
abbrev pub strings_judged : (room before : ℕ) → Result (List (List ℕ)) → Result ℕ
strings_judged room before r = onward r (λ cs. fitting (before + length (strings_bytes cs)) room)

-- the set of these strings is to go where there is so much room
abbrev pub set_judged : (room : ℕ) → Result (List (List ℕ)) → Result ℕ
set_judged room r = onward r (λ cs. fitting (length (set_bytes cs)) room)

-- the output after the set is written
abbrev pub set_output : (bytes entries : List ℕ) → (count : ℕ) → (out : List ℕ) → List ℕ
set_output bytes es count out = lent_after (write_string_set bytes es count out) (output_of (texts_of bytes es count)) out

-- n strings from number i on, as they lie in the bytes
unfoldable pub parts_from : (bytes entries : List ℕ) → (n i : ℕ) → List (List ℕ)
parts_from bytes es zero i = []
parts_from bytes es (suc n) i = part_of (view_of bytes es i) ∷ parts_from bytes es n (i + 1)

-- strings at a place, up to the first that does not fit: the place after them, and the output
unfoldable pub strings_put : (at : ℕ) → List (List ℕ) → (out : List ℕ) → ℕ × List ℕ
strings_put at [] out = (at, out)
strings_put at (c ∷ cs) out =
    pick (leb (at + length (string_bytes c)) (length out)) (strings_put (at + length (string_bytes c)) cs (placed at (string_bytes c) out)) (at, out)
