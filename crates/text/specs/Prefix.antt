-- How far a list of octets is text, by a computation.
use Rattle.std.specs.Prelude.{ℕ, zero, suc, ◌+◌, ◌≤◌, ◌≡◌, Bool, true, ◌&&◌, cond, List, [], ◌∷◌, length, get_or, take, drop, T, leb, eqb}

abbrev pub within : ℕ → ℕ → ℕ → Bool
within low high b = leb low b && leb b high

-- an octet of ASCII
abbrev pub plain : ℕ → Bool
plain a = leb a 0x7F

abbrev pub tail : ℕ → Bool
tail b = within 0x80 0xBF b

-- the range of the second octet, by the first: four narrow it, which keeps out overlong forms, surrogates and what lies past 10FFFF
unfoldable pub low : ℕ → ℕ
low a = cond (eqb a 0xE0) 0xA0 (cond (eqb a 0xF0) 0x90 0x80)

unfoldable pub high : ℕ → ℕ
high a = cond (eqb a 0xED) 0x9F (cond (eqb a 0xF4) 0x8F 0xBF)

abbrev pub second : ℕ → ℕ → Bool
second a b = within (low a) (high a) b

-- are these octets one character?
abbrev pub is_two : ℕ → ℕ → Bool
is_two a b = within 0xC2 0xDF a && tail b

abbrev pub is_three : ℕ → ℕ → ℕ → Bool
is_three a b c = within 0xE0 0xEF a && second a b && tail c

abbrev pub is_four : ℕ → ℕ → ℕ → ℕ → Bool
is_four a b c d = within 0xF0 0xF4 a && second a b && tail c && tail d

-- how many of four octets the character takes that they begin with; 0 where it is none, or ASCII
unfoldable pub longer : ℕ → ℕ → ℕ → ℕ → ℕ
longer a b c d = cond (is_two a b) 2 (cond (is_three a b c) 3 (cond (is_four a b c d) 4 0))

-- how many octets the character takes that a list begins with; 0 where there is none. An octet past the end reads as 0, which is no tail
unfoldable pub char_length : List ℕ → ℕ
char_length [] = 0
char_length (a ∷ s) = cond (plain a) 1 (longer a (get_or s 0 0) (get_or s 1 0) (get_or s 2 0))

-- how many octets the first n characters take; from the first that is none on, each takes 0
unfoldable pub first : ℕ → List ℕ → ℕ
first zero s = 0
first (suc n) s = char_length s + first n (drop (char_length s) s)

-- the length of the longest beginning that is text, and so the place of the first octet that begins no character
unfoldable pub good_prefix : List ℕ → ℕ
good_prefix s = first (length s) s

unfoldable pub is_text : List ℕ → Bool
is_text s = eqb (good_prefix s) (length s)

-- ---- what the code's steps cite
abbrev pub all_plain : List ℕ → Bool
all_plain [] = true
all_plain (a ∷ s) = plain a && all_plain s

-- the first n octets are there and are ASCII
pub record PlainFor (n : ℕ) (s : List ℕ) : Type 0 where
  pub there : n ≤ length s
  pub ascii : T (all_plain (take n s))

-- the first n octets are text, and n is 0 only where nothing that follows is
pub record Step (s : List ℕ) (n : ℕ) : Type 0 where
  pub inside : n ≤ length s
  pub on : good_prefix s ≡ n + good_prefix (drop n s)
  pub stuck : n ≡ 0 → good_prefix s ≡ 0
