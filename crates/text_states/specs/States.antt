-- A machine that goes over octets one by one. `text` proves that what takes it from 0 to 0 is text. Its states:
--   0 between characters; 6, 12, 18 one, two, three tails to come; 24 after E0, 30 after ED, 36 after F0, 42 after F4; 48 wrong, for good.
use Rattle.std.specs.Prelude.{ℕ, ◌+◌, ◌*◌, ◌/◌, ◌%◌, ◌^◌, cond, List, [], ◌∷◌, leb}

-- numbers of six bits in one, the first lowest
abbrev pub packed : List ℕ → ℕ
packed [] = 0
packed (x ∷ l) = x + 64 * packed l

-- a row: what follows each state, in their order, on an octet that is no tail; it is wrong within a character
abbrev pub beginning : ℕ → ℕ
beginning start = packed (start ∷ 48 ∷ 48 ∷ 48 ∷ 48 ∷ 48 ∷ 48 ∷ 48 ∷ 48 ∷ [])

-- and on a tail; it is wrong between characters
abbrev pub continuing : (e0 ed f0 f4 : ℕ) → ℕ
continuing e0 ed f0 f4 = packed (48 ∷ 0 ∷ 6 ∷ 12 ∷ e0 ∷ ed ∷ f0 ∷ f4 ∷ 48 ∷ [])

-- up to which octet, which row; those past the last are wrong everywhere
abbrev pub rows : List (ℕ × ℕ)
rows =
    (0x7F, beginning 0) ∷
    (0x8F, continuing 48 6 48 12) ∷
    (0x9F, continuing 48 6 12 48) ∷
    (0xBF, continuing 6 48 12 48) ∷
    (0xC1, beginning 48) ∷
    (0xDF, beginning 6) ∷
    (0xE0, beginning 24) ∷
    (0xEC, beginning 12) ∷
    (0xED, beginning 30) ∷
    (0xEF, beginning 12) ∷
    (0xF0, beginning 36) ∷
    (0xF3, beginning 18) ∷
    (0xF4, beginning 42) ∷
    []

abbrev pub row_in : List (ℕ × ℕ) → ℕ → ℕ
row_in [] b = beginning 48
row_in ((top, row) ∷ l) b = cond (leb b top) row (row_in l b)

unfoldable pub row_of : ℕ → ℕ
row_of b = row_in rows b

-- what a row has for a state: the six bits from there on
abbrev pub in_row : (row state : ℕ) → ℕ
in_row row state = row / 2 ^ (state % 64) % 64

abbrev pub next_state : (state b : ℕ) → ℕ
next_state state b = in_row (row_of b) state

unfoldable pub run_states : (state : ℕ) → List ℕ → ℕ
run_states state [] = state
run_states state (b ∷ s) = run_states (next_state state b) s
