-- What the theorems about cut and longer streams speak of. They are not claimed of the stderr loop, which stops where less than a number is left: messages that end
-- with neither Last nor Error may be cut.
use Rattle.std.specs.Prelude.{ℕ, ◌≤◌, ◌<◌, ◌≡◌, List, length, take}
use Rattle.layouts.specs.declared.Refusal.{Refusal}
use Rattle.layouts.specs.Primitive.{cut_short, Result, ok}
use Rattle.layouts.specs.Refusal.{refusal, refused_by}

-- s' is a shorter beginning of the first e bytes of s
abbrev pub CutBefore : (e : ℕ) → (s s' : List ℕ) → Type 0
CutBefore e s s' = (n : ℕ) × (n < e) × (s' ≡ take n s)

-- the same behind a place b, where messages end in Error: s' has all of them
abbrev pub CutBehind : (b e : ℕ) → (s s' : List ℕ) → Type 0
CutBehind b e s s' = (n : ℕ) × (b ≤ n) × (n < e) × (s' ≡ take n s)

-- s' has the first e bytes of s: behind them bytes were added, taken or changed
abbrev pub SameTo : (e : ℕ) → (s s' : List ℕ) → Type 0
SameTo e s s' = take e s' ≡ take e s

-- a claim about each of the two
abbrev pub CutOrLonger : (e : ℕ) → (s s' : List ℕ) → (Cut Longer : Type 0) → Type 0
CutOrLonger e s s' Cut Longer = (CutBefore e s s' → Cut) × (SameTo e s s' → Longer)

-- refused by 1, on this stream; an answer of the code has a refusal of its own
abbrev pub RefusedAsCut : {A : Type 0} → (refuses : Refusal → A) → (stream : ℕ) → A → Type 0
RefusedAsCut refuses stream r = (place : ℕ) × (r ≡ refuses (refusal cut_short place stream))

-- What is said of a stream, all else being the same, with the end in it, and what is kept of it. A cut stream is never taken for a whole one, and nothing behind the
-- end is looked at.
pub record WholeOnly {A K : Type 0} (said : List ℕ → Result A) (ends : A → ℕ) (stream : ℕ) (keeps : List ℕ → K) : Type 0 where
  pub within : (s : List ℕ) (x : A) → said s ≡ ok x → ends x ≤ length s
  pub cut : (s s' : List ℕ) (x : A) → said s ≡ ok x → CutBefore (ends x) s s' → RefusedAsCut refused_by stream (said s')
  pub longer : (s s' : List ℕ) (x : A) → said s ≡ ok x → SameTo (ends x) s s' → (said s' ≡ ok x) × (keeps s' ≡ keeps s)
