-- What the code finds at a place: the same as `layouts` says, one piece at a time.
use Rattle.std.specs.Prelude.{ℕ, ◌+◌, List, Bool, true, false, length, leb}
use Rattle.layouts.specs.Primitive.{pick, little_at, number_at, Result, ok, refused}
use Rattle.layouts.specs.Refusal.{refused_by, plain}
use Rattle.layouts.specs.Shape.{Role, passed, kept}
use Rattle.layouts.specs.Pieces.{Num, value, short, Text, whole, cut, bad, Chunk, part, last, wrong, text_of}
use Rattle.layouts.specs.Judge.{not_text, text_end, or_bad, half_taken}
use Rattle.pieces.specs.declared.Text as T
use Rattle.pieces.specs.declared.Chunk as C
use Rattle.pieces.specs.declared.Contents.{Contents}
use Rattle.pieces.specs.declared.Chunk.TheVariants.{Last}
use Rattle.pieces.specs.declared.Chunk.TheVariants.{Part}
use Rattle.pieces.specs.declared.Text.TheVariants.{Half}
use Rattle.pieces.specs.declared.Text.TheVariants.{Whole}
use Rattle.std.specs.Prelude as Std
use Rattle.layouts.specs.declared.Refusal.{Refusal}
use Rattle.std.specs.Prelude.{Option, Some, None, Ok, Err}

abbrev pub num_read : Option ℕ → Num
num_read (Some n) = value n
num_read None = short

-- a number of k bytes at a place
abbrev pub word_at : (k : ℕ) → List ℕ → (at : ℕ) → Num
word_at k s at = pick (leb (at + k) (length s)) (value (little_at k s at)) short

-- what was found, as the code answers it
abbrev pub text_found : Text → Std.Result T.Text Refusal
text_found (whole start len next) = Ok (Whole start len next)
text_found (cut start len) = Ok (Half start len)
text_found (bad which place) = Err (plain which place)

abbrev pub chunk_found : Chunk → Std.Result C.Chunk Refusal
chunk_found (part start len next) = Ok (Part start len next)
chunk_found (last next) = Ok (Last next)
chunk_found (wrong which place) = Err (plain which place)

-- a string, by start and length of its contents, and the place after it
pub record Span : Type 0 where
  pub start : ℕ
  pub len : ℕ
  pub ends : ℕ

abbrev pub span : (start len ends : ℕ) → Span
span start len ends = record { start = start; len = len; ends = ends }

abbrev pub judged_read : Std.Result Contents Refusal → Result Span
judged_read (Ok k) = ok (span k.start k.len k.next)
judged_read (Err r) = refused_by r

-- a string that is decoded is kept, another is passed
abbrev pub role_of : (decoded : Bool) → Role
role_of true = kept
role_of false = passed

-- where the text of a string ends: with its contents, unless it is not text
unfoldable pub text_to : List ℕ → Role → (start len : ℕ) → ℕ
text_to s m start len = pick (not_text s m start len) (text_end s start len) (start + len)

-- a string as it is judged: 3 before 1 at its padding
unfoldable pub span_of : List ℕ → Role → Text → Result Span
span_of s m (whole start len next) = or_bad s m start len (ok (span start len next))
span_of s m (cut start len) = half_taken s m start len
span_of s m (bad which place) = refused which place 0

unfoldable pub string_at : List ℕ → (decoded : Bool) → (at : ℕ) → Result Span
string_at s decoded at = span_of s (role_of decoded) (text_of (length s) (number_at s at) at)
