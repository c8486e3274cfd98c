-- The characters of section 4 are exactly the encodings of section 3 (`char_encodes`, `encodes_char`), and no two numbers have the same one (`encode_once`).
use Prim.Native.Nat.{ℕ, ◌+◌, ◌*◌, ◌-◌, ◌/◌, ◌%◌, ◌≤◌, ◌<◌}
use mathlib.Core.Path.{◌≡◌, refl, sym, ap, ◌∙◌}
use mathlib.Core.List.{List, [], ◌∷◌}
use native.Mathlib.Omega.{arith}
use native.Mathlib.Decide.{dec_le}
use borrow.Author.Tests.{le-leb, lt-leb}
use Rattle.text.specs.Rfc3629.{In, UTF8-tail, UTF8-char, CharNumber, tail_of, encode, Encodes}
use Rattle.text.specs.Rfc3629.UTF8-1.{00-7F}
use Rattle.text.specs.Rfc3629.UTF8-2.{C2-DF}
use Rattle.text.specs.Rfc3629.UTF8-3.{E0, E1-EC, ED, EE-EF}
use Rattle.text.specs.Rfc3629.UTF8-4.{F0, F1-F3, F4}
use Rattle.text.specs.Rfc3629.UTF8-char.{one, two, three, four}

-- ---- the row of section 3's table that a number has
one_row : (c : ℕ) → c ≤ 0x7F → encode c ≡ c ∷ []
unfolding encode
one_row c h = simp (le-leb c 0x7F h)

two_row : (c x y : ℕ) → 0x7F < c → c ≤ 0x7FF → x ≡ 0xC0 + c / 64 → y ≡ 0x80 + c % 64 → encode c ≡ x ∷ y ∷ []
unfolding encode
two_row c x y l h ex ey = simp (lt-leb c 0x7F l, le-leb c 0x7FF h, ex, ey)

three_row : (c x y z : ℕ) → 0x7FF < c → c ≤ 0xFFFF → x ≡ 0xE0 + c / 64 / 64 → y ≡ 0x80 + c / 64 % 64 → z ≡ 0x80 + c % 64 → encode c ≡ x ∷ y ∷ z ∷ []
unfolding encode
three_row c x y z l h ex ey ez = simp (lt-leb c 0x7F (omega arith), lt-leb c 0x7FF l, le-leb c 0xFFFF h, ex, ey, ez)

four_row : (c w x y z : ℕ) → 0xFFFF < c → w ≡ 0xF0 + c / 64 / 64 / 64 → x ≡ 0x80 + c / 64 / 64 % 64 → y ≡ 0x80 + c / 64 % 64 → z ≡ 0x80 + c % 64
    → encode c ≡ w ∷ x ∷ y ∷ z ∷ []
unfolding encode
four_row c w x y z l ew ex ey ez = simp (lt-leb c 0x7F (omega arith), lt-leb c 0x7FF (omega arith), lt-leb c 0xFFFF l, ew, ex, ey, ez)

-- ---- a character is an encoding, of the number that its octets' low bits make
encoding : {s : List ℕ} (c : ℕ) → c ≤ 0x10FFFF → (In 0xD800 0xDFFF c → ⊥) → encode c ≡ s → Encodes s
encoding c h n e = record { c = c; number = record { range = omega arith; no_surrogate = n }; octets = sym e }

high_bits : (x y : ℕ) → y < 64 → (x * 64 + y) / 64 ≡ x
high_bits x y h = omega arith

low_bits : (x y : ℕ) → y < 64 → (x * 64 + y) % 64 ≡ y
low_bits x y h = omega arith

abbrev two_bits : ℕ → ℕ → ℕ
two_bits a b = (a - 0xC0) * 64 + (b - 0x80)

abbrev three_bits : ℕ → ℕ → ℕ → ℕ
three_bits a b c = ((a - 0xE0) * 64 + (b - 0x80)) * 64 + (c - 0x80)

abbrev four_bits : ℕ → ℕ → ℕ → ℕ → ℕ
four_bits a b c d = (((a - 0xF0) * 64 + (b - 0x80)) * 64 + (c - 0x80)) * 64 + (d - 0x80)

three_encodes : (a : ℕ) {b c : ℕ} → In 0xE0 0xEF a → UTF8-tail b → UTF8-tail c → 0x7FF < three_bits a b c → (In 0xD800 0xDFFF (three_bits a b c) → ⊥)
    → Encodes (a ∷ b ∷ c ∷ [])
three_encodes a {b} {c} ha hb hc l n =
    encoding (three_bits a b c) (omega arith) n (three_row (three_bits a b c) a b c l (omega arith) (omega arith) (omega arith) (omega arith))

four_encodes : (a : ℕ) {b c d : ℕ} → In 0xF0 0xF4 a → UTF8-tail b → UTF8-tail c → UTF8-tail d → 0xFFFF < four_bits a b c d → four_bits a b c d ≤ 0x10FFFF
    → Encodes (a ∷ b ∷ c ∷ d ∷ [])
four_encodes a {b} {c} {d} ha hb hc hd l h =
    let n = four_bits a b c d in
    let one-off : n / 64 ≡ ((a - 0xF0) * 64 + (b - 0x80)) * 64 + (c - 0x80) = high_bits _ (d - 0x80) (omega arith) in
    let two-off : n / 64 / 64 ≡ (a - 0xF0) * 64 + (b - 0x80) = rw one-off (high_bits _ (c - 0x80) (omega arith)) in
    encoding n h (λ i. omega arith)
    (four_row n a b c d l
    (rw (two-off, high_bits (a - 0xF0) (b - 0x80) (omega arith)) (omega arith))
    (rw (two-off, low_bits (a - 0xF0) (b - 0x80) (omega arith)) (omega arith))
    (rw (one-off, low_bits ((a - 0xF0) * 64 + (b - 0x80)) (c - 0x80) (omega arith)) (omega arith))
    (omega arith))

pub char_encodes : {s : List ℕ} → UTF8-char s → Encodes s
char_encodes (one (00-7F {a} ha)) = encoding a (omega arith) (λ i. omega arith) (one_row a ha.to)
char_encodes (two (C2-DF {a} {b} ha hb)) =
    encoding (two_bits a b) (omega arith) (λ i. omega arith) (two_row (two_bits a b) a b (omega arith) (omega arith) (omega arith) (omega arith))
char_encodes (three (E0 hb hc)) = three_encodes 0xE0 (omega arith) (omega arith) hc (omega arith) (λ i. omega arith)
char_encodes (three (E1-EC {a} ha hb hc)) = three_encodes a (omega arith) hb hc (omega arith) (λ i. omega arith)
char_encodes (three (ED hb hc)) = three_encodes 0xED (omega arith) (omega arith) hc (omega arith) (λ i. omega arith)
char_encodes (three (EE-EF {a} ha hb hc)) = three_encodes a (omega arith) hb hc (omega arith) (λ i. omega arith)
char_encodes (four (F0 hb hc hd)) = four_encodes 0xF0 (omega arith) (omega arith) hc hd (omega arith) (omega arith)
char_encodes (four (F1-F3 {a} ha hb hc hd)) = four_encodes a (omega arith) hb hc hd (omega arith) (omega arith)
char_encodes (four (F4 hb hc hd)) = four_encodes 0xF4 (omega arith) (omega arith) hc hd (omega arith) (omega arith)

-- ---- an encoding is a character
tail_is : (c : ℕ) → UTF8-tail (tail_of c)
tail_is c = omega arith

is_two_lem : (c : ℕ) → 0x7F < c → c ≤ 0x7FF → UTF8-char (encode c)
is_two_lem c l h = rw (two_row c (0xC0 + c / 64) (tail_of c) l h refl refl) (two (C2-DF {a = 0xC0 + c / 64} (omega arith) (tail_is c)))

past_surrogates : (c : ℕ) → 0xD7FF < c → (In 0xD800 0xDFFF c → ⊥) → 0xDFFF < c
past_surrogates c l n = go (dec_le c 0xDFFF)
  where
    go : Dec (c ≤ 0xDFFF) → 0xDFFF < c
    go (yes p) = absurd (n (omega arith))
    go (no p) = omega arith

is_three_lem : (c : ℕ) → 0x7FF < c → c ≤ 0xFFFF → (In 0xD800 0xDFFF c → ⊥) → UTF8-char (encode c)
is_three_lem c l h n = go (dec_le c 0xFFF) (dec_le c 0xCFFF) (dec_le c 0xD7FF)
  where
    row : (a : ℕ) → a ≡ 0xE0 + c / 64 / 64 → encode c ≡ a ∷ tail_of (c / 64) ∷ tail_of c ∷ []
    row a e = three_row c a (tail_of (c / 64)) (tail_of c) l h e refl refl

    go : Dec (c ≤ 0xFFF) → Dec (c ≤ 0xCFFF) → Dec (c ≤ 0xD7FF) → UTF8-char (encode c)
    go (yes p) q r = rw (row 0xE0 (omega arith)) (three (E0 {b = tail_of (c / 64)} (omega arith) (tail_is c)))
    go (no p) (yes q) r = rw (row (0xE0 + c / 64 / 64) refl) (three (E1-EC {a = 0xE0 + c / 64 / 64} (omega arith) (tail_is (c / 64)) (tail_is c)))
    go (no p) (no q) (yes r) = rw (row 0xED (omega arith)) (three (ED {b = tail_of (c / 64)} (omega arith) (tail_is c)))
    go (no p) (no q) (no r) =
        let m : 0xDFFF < c = past_surrogates c (omega arith) n in
        rw (row (0xE0 + c / 64 / 64) refl) (three (EE-EF {a = 0xE0 + c / 64 / 64} (omega arith) (tail_is (c / 64)) (tail_is c)))

is_four_lem : (c : ℕ) → 0xFFFF < c → c ≤ 0x10FFFF → UTF8-char (encode c)
is_four_lem c l h = go (dec_le c 0x3FFFF) (dec_le c 0xFFFFF)
  where
    row : (a : ℕ) → a ≡ 0xF0 + c / 64 / 64 / 64 → encode c ≡ a ∷ tail_of (c / 64 / 64) ∷ tail_of (c / 64) ∷ tail_of c ∷ []
    row a e = four_row c a (tail_of (c / 64 / 64)) (tail_of (c / 64)) (tail_of c) l e refl refl refl

    go : Dec (c ≤ 0x3FFFF) → Dec (c ≤ 0xFFFFF) → UTF8-char (encode c)
    go (yes p) q = rw (row 0xF0 (omega arith)) (four (F0 {b = tail_of (c / 64 / 64)} (omega arith) (tail_is (c / 64)) (tail_is c)))
    go (no p) (yes q) =
        rw (row (0xF0 + c / 64 / 64 / 64) refl)
        (four (F1-F3 {a = 0xF0 + c / 64 / 64 / 64} (omega arith) (tail_is (c / 64 / 64)) (tail_is (c / 64)) (tail_is c)))
    go (no p) (no q) = rw (row 0xF4 (omega arith)) (four (F4 {b = tail_of (c / 64 / 64)} (omega arith) (tail_is (c / 64)) (tail_is c)))

pub encodes_char : (c : ℕ) → CharNumber c → UTF8-char (encode c)
encodes_char c n = go (dec_le c 0x7F) (dec_le c 0x7FF) (dec_le c 0xFFFF)
  where
    go : Dec (c ≤ 0x7F) → Dec (c ≤ 0x7FF) → Dec (c ≤ 0xFFFF) → UTF8-char (encode c)
    go (yes p) q r = rw (one_row c p) (one (00-7F {a = c} (omega arith)))
    go (no p) (yes q) r = is_two_lem c (omega arith) q
    go (no p) (no q) (yes r) = is_three_lem c (omega arith) r n.no_surrogate
    go (no p) (no q) (no r) = is_four_lem c (omega arith) n.range.to

-- ---- the octets give the number back
decode : List ℕ → ℕ
decode [] = 0
decode (a ∷ []) = a
decode (a ∷ b ∷ []) = two_bits a b
decode (a ∷ b ∷ c ∷ []) = three_bits a b c
decode (a ∷ b ∷ c ∷ d ∷ s) = four_bits a b c d

decode_encode : (c : ℕ) → decode (encode c) ≡ c
unfolding decode
decode_encode c = go (dec_le c 0x7F) (dec_le c 0x7FF) (dec_le c 0xFFFF)
  where
    go : Dec (c ≤ 0x7F) → Dec (c ≤ 0x7FF) → Dec (c ≤ 0xFFFF) → decode (encode c) ≡ c
    go (yes p) q r = rw (one_row c p)
    go (no p) (yes q) r = rw (two_row c _ _ (omega arith) q refl refl) (omega arith)
    go (no p) (no q) (yes r) = rw (three_row c _ _ _ (omega arith) r refl refl refl) (omega arith)
    go (no p) (no q) (no r) = rw (four_row c _ _ _ _ (omega arith) refl refl refl refl) (omega arith)

pub encode_once : (c d : ℕ) → encode c ≡ encode d → c ≡ d
encode_once c d e = sym (decode_encode c) ∙ ap decode e ∙ decode_encode d
