-- What becomes of a string, of a series of strings, of framed data.
use Rattle.std.specs.Prelude.{ℕ, ◌+◌, ◌-◌, ◌*◌, ◌≤◌, ◌≡◌, length, take, List, []}
use Rattle.std.proofs.lemmas.List.Edits.{sets}
use Rattle.layouts.specs.declared.Record.{Record}
use Rattle.layouts.specs.Primitive.{Result, ok, refused}
use Rattle.layouts.specs.Refusal.{refused_by}
use Rattle.layouts.specs.Record.{blank, is_kept, with_entries, with_payload}
use Rattle.layouts.specs.Judge.{Ended, text_taken, judge_of, entry, entries_of}
use Rattle.layouts.specs.Shape.{Role, Tree, frames}
use Rattle.layouts.specs.Pieces.{Pieces, number, text, half, chunk, end, fault, run}
use Rattle.walk_take.specs.declared.Series.{Series}
use Rattle.std.specs.Prelude as Std
use Rattle.layouts.specs.declared.Refusal.{Refusal}
use Rattle.std.specs.Prelude.{Ok, Err}

-- ---- the window of 16 numbers: entries from slot n on, as many as it has room for
abbrev pub in_window : (window : List ℕ) → (n : ℕ) → (entries : List ℕ) → List ℕ
in_window w n es = sets w (2 * n) (take (16 - 2 * n) es)

-- the entries of p are to come
abbrev pub ahead : (window : List ℕ) → (n : ℕ) → Pieces → List ℕ
ahead w n p = in_window w n (entries_of p)

abbrev pub kept_by : Result Record → (ℕ → List ℕ) → List ℕ
kept_by (ok r) k = k r.entries
kept_by (refused which place stream) k = []

-- the entries of p, with n before them, up to the first string that is refused
unfoldable pub kept_of : List ℕ → (slots n : ℕ) → Pieces → List ℕ
kept_of s slots n (number i place v p) = kept_of s slots n p
kept_of s slots n (text m start len p) = kept_by (text_taken s slots (with_entries blank n) m start len) (λ n'. entry (is_kept m) start len (kept_of s slots n' p))
kept_of s slots n (half m start len) = []
kept_of s slots n (chunk start len p) = kept_of s slots n p
kept_of s slots n (end place) = []
kept_of s slots n (fault which place) = []

-- with these in the window
abbrev pub held : List ℕ → (slots : ℕ) → (window : List ℕ) → (n : ℕ) → Pieces → List ℕ
held s slots w n p = in_window w n (kept_of s slots n p)

-- ---- a string or a chunk: the record after it, and the window
abbrev pub taken : (ℕ → Record) → Std.Result ℕ Refusal → Result Record
taken with (Ok n) = ok (with n)
taken with (Err r) = refused_by r

abbrev pub TakenIn : (window : List ℕ) → (n : ℕ) → Role → (start len : ℕ) → (after : List ℕ) → Std.Result ℕ Refusal → Type 0
TakenIn w n m start len w' (Ok n') = (es : List ℕ) → in_window w n (entry (is_kept m) start len es) ≡ in_window w' n' es
TakenIn w n m start len w' (Err r) = w' ≡ w

-- ---- t puts something before a rest: with n entries before it, the whole is judged as what follows it, with the entries then
abbrev pub series_to : List ℕ → (slots room : ℕ) → Record → (Unit {0} → Tree) → Std.Result Series Refusal → Result Ended
series_to s slots room x k (Ok y) = judge_of s slots room (with_entries x y.entries) (run (k tt) s y.at)
series_to s slots room x k (Err r) = refused_by r

abbrev pub series_in : List ℕ → (window : List ℕ) → (whole : List ℕ) → (Unit {0} → Tree) → Std.Result Series Refusal → Type 0
series_in s w es k (Ok x) = es ≡ ahead w x.entries (run (k tt) s x.at)
series_in s w es k (Err r) = Unit {0}

-- a refusal leaves what was kept before it: the window is determined, whatever is answered
abbrev pub series_held : List ℕ → (slots : ℕ) → (window : List ℕ) → (Unit {0} → Tree) → Std.Result Series Refusal → List ℕ
series_held s slots w k (Ok x) = held s slots w x.entries (run (k tt) s x.at)
series_held s slots w k (Err r) = w

pub record Takes (s : List ℕ) (slots at : ℕ) (t : (Unit {0} → Tree) → Tree) (w : List ℕ) (n : ℕ) (w' : List ℕ) (r : Std.Result Series Refusal) : Type 0 where
  pub judges : (room : ℕ) (k : Unit {0} → Tree) (x : Record) → x.entries ≡ n → judge_of s slots room x (run (t k) s at) ≡ series_to s slots room x k r
  pub keeps : (k : Unit {0} → Tree) → series_in s w' (ahead w n (run (t k) s at)) k r
  pub holds : (k : Unit {0} → Tree) → held s slots w n (run (t k) s at) ≡ series_held s slots w' k r

abbrev pub SeriesFrom : (from : ℕ) → Std.Result Series Refusal → Type 0
SeriesFrom from (Ok k) = from ≤ k.at
SeriesFrom from (Err r) = Unit {0}

-- at least a number was there, and is passed
abbrev pub SeriesTook : List ℕ → (at : ℕ) → Std.Result Series Refusal → Type 0
SeriesTook s at (Ok k) = (at + 8 ≤ k.at) × (at + 8 ≤ length s)
SeriesTook s at (Err r) = Unit {0}

-- ---- the same of chunks, with the payload then
abbrev pub frames_to : List ℕ → (slots room : ℕ) → Record → (Unit {0} → Tree) → Std.Result Series Refusal → Result Ended
frames_to s slots room x k (Ok y) = judge_of s slots room (with_payload x y.entries) (run (k tt) s y.at)
frames_to s slots room x k (Err r) = refused_by r

abbrev pub frames_in : List ℕ → (whole : List ℕ) → (Unit {0} → Tree) → Std.Result Series Refusal → Type 0
frames_in s es k (Ok x) = es ≡ entries_of (run (k tt) s x.at)
frames_in s es k (Err r) = Unit {0}

pub record TakesFrames (s : List ℕ) (room at n : ℕ) (r : Std.Result Series Refusal) : Type 0 where
  pub judges : (slots : ℕ) (k : Unit {0} → Tree) (x : Record) → x.payload ≡ n → judge_of s slots room x (run (frames k) s at) ≡ frames_to s slots room x k r
  pub keeps : (k : Unit {0} → Tree) → frames_in s (entries_of (run (frames k) s at)) k r
