-- The stderr loop, with and without the error block.
use Rattle.std.specs.Prelude.{ℕ, zero, suc, ◌+◌, List, [], ◌∷◌, Bool, true, false, length, leb, eqb}
use Rattle.layouts.specs.declared.Mode.{Mode}
use Rattle.layouts.specs.declared.Mode.TheVariants.{Ported, Published}
use Rattle.layouts.specs.declared.Record.{Record}
use Rattle.layouts.specs.Primitive.{pick, number_at, Version, version, at_least, Result, ok, refused, onward}
use Rattle.layouts.specs.Shape.{dropped, as_count, typed, position, always, Group, once, opt, many, Tree, layout}
use Rattle.layouts.specs.Pieces.{Pieces, end, fault, run, skip_of}
use Rattle.layouts.specs.Record.{blank, with_number}
use Rattle.layouts.specs.Judge.{Ended, judge_of}
use Rattle.layouts.specs.Operations.{N, n, S, s}
use Rattle.layouts.specs.Calls.{Answer}

-- ---- codes
abbrev pub Next : ℕ
Next = 0x6f6c6d67

abbrev pub Read : ℕ
Read = 0x64617461

abbrev pub Write : ℕ
Write = 0x64617416

abbrev pub Last : ℕ
Last = 0x616c7473

abbrev pub Error : ℕ
Error = 0x63787470

abbrev pub StartActivity : ℕ
StartActivity = 0x53545254

abbrev pub StopActivity : ℕ
StopActivity = 0x53544f50

abbrev pub Result# : ℕ
Result# = 0x52534c54

-- a count, then each a type N, followed by N if the type is 0 and by s otherwise
abbrev pub fields : Group
fields = many dropped (always typed ∷ [])

-- what a number at the place of a code says: no code; a terminal one; one that these fields follow
pub data Message : Type 0 where
  no_code : Message
  terminal : Message
  goes : List Group → Message

unfoldable pub message_of : ℕ → Message
message_of c =
    pick (eqb c Next) (goes (once (s ∷ []) ∷ []))
    (pick (eqb c Write) (goes (once (s ∷ []) ∷ []))
    (pick (eqb c Read) (goes (once (n ∷ []) ∷ []))
    (pick (eqb c StopActivity) (goes (once (n ∷ []) ∷ []))
    (pick (eqb c StartActivity) (goes (once (n ∷ n ∷ n ∷ s ∷ []) ∷ fields ∷ once (n ∷ []) ∷ []))
    (pick (eqb c Result#) (goes (once (n ∷ n ∷ []) ∷ fields ∷ []))
    (pick (eqb c Last) terminal (pick (eqb c Error) terminal no_code)))))))

-- how many messages, the terminal code or 0, and the place where the loop stops
pub record Stopped : Type 0 where
  pub messages : ℕ
  pub code : ℕ
  pub ends : ℕ

abbrev pub stopped : (messages code ends : ℕ) → Result Stopped
stopped m c e = ok (record { messages = m; code = c; ends = e })

-- m messages have been counted, and the number at the place is c; `whole`: the stream has it
unfoldable pub after_peek : (whole : Bool) → Message → (c at m : ℕ) → (List Group → Result ℕ) → (ℕ → Result Stopped) → Result Stopped
after_peek false x c at m skip again = stopped m 0 at
after_peek true no_code c at m skip again = stopped m 0 at
after_peek true terminal c at m skip again = stopped (m + 1) c (at + 8)
after_peek true (goes gs) c at m skip again = onward (skip gs) again

-- the first argument bounds how many messages there can be
unfoldable pub stderr_from : ℕ → List ℕ → (at m : ℕ) → Result Stopped
unfolding after_peek
stderr_from zero s at m = stopped m 0 at
stderr_from (suc f) s at m =
    after_peek (leb (at + 8) (length s)) (message_of (number_at s at)) (number_at s at) at m
    (λ gs. skip_of (run (layout (version 0 0) gs) s (at + 8))) (λ e. stderr_from f s e (m + 1))

unfoldable pub stderr_loop : List ℕ → Result Stopped
stderr_loop s = stderr_from (suc (length s)) s 0 0

-- ---- answers: numbers 0 and 1 are the count and the terminal code, 2 the error's level or exit status; count 0 is that of its traces
abbrev pub stopped_record : Stopped → Record
stopped_record x = with_number (with_number blank 0 x.messages) 1 x.code

abbrev pub stderr_answer : (kind ends : ℕ) → Record → Result Answer
stderr_answer k e r = ok (record { kind = k; ends = e; ends2 = 0; found = r })

unfoldable pub read_stderr_loop : List ℕ → Result Answer
read_stderr_loop s = onward (stderr_loop s) (λ x. stderr_answer 0 x.ends (stopped_record x))

-- ---- the error block, by the kind of its answer
abbrev pub error_kind : Mode → Version → ℕ
error_kind Ported v = 0
error_kind Published v = pick (at_least v (version 1 26)) 1 2

-- S type, N level, S name, S message, N; if that is nonzero, s N N
abbrev pub ported_error : List Group
ported_error = once (S ∷ N 2 ∷ S ∷ S ∷ []) ∷ opt dropped (s ∷ n ∷ n ∷ []) ∷ []

-- S type, N level, S name, S message, a position; a count of traces, each a position and S
abbrev pub traced_error : List Group
traced_error = once (S ∷ N 2 ∷ S ∷ S ∷ always position ∷ []) ∷ many (as_count 0) (always position ∷ S ∷ []) ∷ []

-- S message, N exit status
abbrev pub short_error : List Group
short_error = once (S ∷ N 2 ∷ []) ∷ []

abbrev pub error_groups : (kind : ℕ) → List Group
error_groups k = pick (eqb k 0) ported_error (pick (eqb k 1) traced_error short_error)

unfoldable pub error_block : (kind : ℕ) → Tree
error_block k = layout (version 0 0) (error_groups k)

abbrev pub if_error : (kind : ℕ) → (is : Bool) → Stopped → (Unit {0} → Result Ended) → Result Answer
if_error k true x block = onward (block tt) (λ e. stderr_answer k e.ends e.found)
if_error k false x block = stderr_answer 0 x.ends (stopped_record x)

unfoldable pub read_stderr_with_error : (kind : ℕ) → List ℕ → (slots : ℕ) → Result Answer
read_stderr_with_error k s slots =
    onward (stderr_loop s) (λ x. if_error k (eqb x.code Error) x (λ u. judge_of s slots 0 (stopped_record x) (run (error_block k) s x.ends)))

-- the pieces whose strings are kept
unfoldable pub error_pieces : (kind : ℕ) → List ℕ → Result Stopped → Pieces
error_pieces k s (ok x) = pick (eqb x.code Error) (run (error_block k) s x.ends) (end x.ends)
error_pieces k s (refused which place stream) = fault which place
