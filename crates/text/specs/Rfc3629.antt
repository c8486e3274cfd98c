-- RFC 3629: section 4's grammar, a type to a rule, a constructor to an alternative, in the RFC's order; and section 3's table. `%x80-BF` is `In 0x80 0xBF`.
use Rattle.std.specs.Prelude.{ℕ, ◌+◌, ◌/◌, ◌%◌, ◌≤◌, ◌<◌, ◌≡◌, Bool, true, false, cond, List, [], ◌∷◌, ◌++◌, length, take, leb}

pub record In (low high octet : ℕ) : Type 0 where
  pub from : low ≤ octet
  pub to : octet ≤ high

-- ---- Section 4
-- UTF8-tail = %x80-BF
abbrev pub UTF8-tail : ℕ → Type 0
UTF8-tail octet = In 0x80 0xBF octet

-- UTF8-1 = %x00-7F
pub data UTF8-1 : List ℕ → Type 0 where
  00-7F : {a : ℕ} → In 0x00 0x7F a → UTF8-1 (a ∷ [])

-- UTF8-2 = %xC2-DF UTF8-tail
pub data UTF8-2 : List ℕ → Type 0 where
  C2-DF : {a b : ℕ} → In 0xC2 0xDF a → UTF8-tail b → UTF8-2 (a ∷ b ∷ [])

-- UTF8-3 = %xE0 %xA0-BF UTF8-tail / %xE1-EC 2( UTF8-tail ) / %xED %x80-9F UTF8-tail / %xEE-EF 2( UTF8-tail )
pub data UTF8-3 : List ℕ → Type 0 where
  E0 : {b c : ℕ} → In 0xA0 0xBF b → UTF8-tail c → UTF8-3 (0xE0 ∷ b ∷ c ∷ [])
  E1-EC : {a b c : ℕ} → In 0xE1 0xEC a → UTF8-tail b → UTF8-tail c → UTF8-3 (a ∷ b ∷ c ∷ [])
  ED : {b c : ℕ} → In 0x80 0x9F b → UTF8-tail c → UTF8-3 (0xED ∷ b ∷ c ∷ [])
  EE-EF : {a b c : ℕ} → In 0xEE 0xEF a → UTF8-tail b → UTF8-tail c → UTF8-3 (a ∷ b ∷ c ∷ [])

-- UTF8-4 = %xF0 %x90-BF 2( UTF8-tail ) / %xF1-F3 3( UTF8-tail ) / %xF4 %x80-8F 2( UTF8-tail )
pub data UTF8-4 : List ℕ → Type 0 where
  F0 : {b c d : ℕ} → In 0x90 0xBF b → UTF8-tail c → UTF8-tail d → UTF8-4 (0xF0 ∷ b ∷ c ∷ d ∷ [])
  F1-F3 : {a b c d : ℕ} → In 0xF1 0xF3 a → UTF8-tail b → UTF8-tail c → UTF8-tail d → UTF8-4 (a ∷ b ∷ c ∷ d ∷ [])
  F4 : {b c d : ℕ} → In 0x80 0x8F b → UTF8-tail c → UTF8-tail d → UTF8-4 (0xF4 ∷ b ∷ c ∷ d ∷ [])

-- UTF8-char = UTF8-1 / UTF8-2 / UTF8-3 / UTF8-4
pub data UTF8-char : List ℕ → Type 0 where
  one : {s : List ℕ} → UTF8-1 s → UTF8-char s
  two : {s : List ℕ} → UTF8-2 s → UTF8-char s
  three : {s : List ℕ} → UTF8-3 s → UTF8-char s
  four : {s : List ℕ} → UTF8-4 s → UTF8-char s

-- UTF8-octets = *( UTF8-char )
pub data Text : List ℕ → Type 0 where
  none : Text []
  more : {s t : List ℕ} → UTF8-char s → Text t → Text (s ++ t)

-- `true` says that the octets are text, `false` that they are not
abbrev pub Judged : Bool → List ℕ → Type 0
Judged true s = Text s
Judged false s = Text s → ⊥

-- the first ill-formed sequence begins at n: the octets up to there are text, and no longer beginning is
pub record IllFormedAt (n : ℕ) (s : List ℕ) : Type 0 where
  pub inside : n < length s
  pub good : Text (take n s)
  pub longest : (m : ℕ) → n < m → m ≤ length s → Text (take m s) → ⊥

-- ---- Section 3
-- the character numbers that UTF-8 encodes: 0 to 10FFFF, without the surrogates
pub record CharNumber (c : ℕ) : Type 0 where
  pub range : In 0 0x10FFFF c
  pub no_surrogate : In 0xD800 0xDFFF c → ⊥

-- 10xxxxxx, of the lowest six bits
abbrev pub tail_of : ℕ → ℕ
tail_of c = 0x80 + c % 64

-- 0000-007F 0xxxxxxx / 0080-07FF 110xxxxx 10xxxxxx / 0800-FFFF 1110xxxx 10xxxxxx 10xxxxxx / 10000-10FFFF 11110xxx 10xxxxxx 10xxxxxx 10xxxxxx
unfoldable pub encode : ℕ → List ℕ
encode c =
    cond (leb c 0x7F) (c ∷ [])
    (cond (leb c 0x7FF) ((0xC0 + c / 64) ∷ tail_of c ∷ [])
    (cond (leb c 0xFFFF) ((0xE0 + c / 64 / 64) ∷ tail_of (c / 64) ∷ tail_of c ∷ [])
    ((0xF0 + c / 64 / 64 / 64) ∷ tail_of (c / 64 / 64) ∷ tail_of (c / 64) ∷ tail_of c ∷ [])))

-- the octets encode a character number
pub record Encodes (s : List ℕ) : Type 0 where
  pub c : ℕ
  pub number : CharNumber c
  pub octets : s ≡ encode c
