-- What the readers of one field, the writers and the tests say, as whole answers.
use Rattle.std.specs.Prelude.{ℕ, List, ◌∷◌, Bool, false, replicate, eqb}
use Rattle.layouts.specs.declared.Mode.{Mode}
use Rattle.layouts.specs.declared.Mode.TheVariants.{Ported, Published}
use Rattle.layouts.specs.declared.Record.{Record}
use Rattle.layouts.specs.Primitive.{pick, Version, Result, ok, onward}
use Rattle.layouts.specs.Pieces.{Num, value, short}
use Rattle.layouts.specs.Record.{blank, with_number, with_payload}
use Rattle.layouts.specs.Judge.{Ended}
use Rattle.layouts.specs.Calls.{Answer}
use Rattle.pieces.specs.Pieces.{Span}
use Rattle.entries.specs.Entries.{place_of}
use Rattle.table_operations.specs.Framed as Ops
use Rattle.std.specs.Prelude as Std
use Rattle.layouts.specs.declared.Refusal.{Refusal}

-- 0 is ported, any other number published
abbrev pub mode_of : ℕ → Mode
mode_of n = pick (eqb n 0) Ported Published

abbrev pub answer : (kind ends : ℕ) → Record → Answer
answer kind ends found = record { kind = kind; ends = ends; ends2 = 0; found = found }

-- up to three numbers; the rest of the record is blank but for how many entries are reported and the length of what was written
abbrev pub numbered : (a b c entries payload : ℕ) → Record
numbered a b c entries payload = record { numbers = a ∷ b ∷ c ∷ replicate 9 0; counts = replicate 3 0; present = false; entries = entries; payload = payload }

abbrev pub ended : Result Ended → Result Answer
ended o = onward o (λ e. ok (answer 0 e.ends e.found))

abbrev pub passed_to : Result ℕ → Result Answer
passed_to o = onward o (λ e. ok (answer 0 e blank))

-- one string: its start and length are numbers 1 and 2
abbrev pub string_read : Result Span → Result Answer
string_read o = onward o (λ x. ok (answer 0 x.ends (numbered 0 x.start x.len 1 0)))

-- nothing is consumed; kind 0 where there is no number
abbrev pub peeked_at : (at : ℕ) → Num → Result Answer
peeked_at at (value n) = ok (answer 1 at (with_number blank 0 n))
peeked_at at short = ok (answer 0 at blank)

abbrev pub written : Result ℕ → Result Answer
written o = onward o (λ n. ok (answer 0 n (with_payload blank n)))

-- kind 1 for yes, 0 for no
abbrev pub yes_no : Result Bool → Result Answer
yes_no o = onward o (λ b. ok (answer (pick b 1 0) 0 blank))

-- where a string lies: its start and length are numbers 1 and 2
abbrev pub entry_told : Result (ℕ × ℕ) → Result Answer
entry_told o = onward o (λ x. ok (answer 0 0 (numbered 0 x.0 x.1 1 0)))

-- string number i, by its entry
abbrev pub entry_read : (bytes entries : List ℕ) → (i : ℕ) → Result Answer
entry_read bytes es i = entry_told (place_of bytes es i)

abbrev pub framed_said : Std.Result Bool Refusal → Result Bool
framed_said f = Ops.meaning f

-- major and minor are numbers 0 and 1
abbrev pub version_told : Version → Result Answer
version_told v = ok (answer 0 0 (numbered v.major v.minor 0 0 0))
