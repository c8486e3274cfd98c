-- What demand 3 speaks of: the bytes that may change, and the first decoded string that is not text.
use Rattle.std.specs.Prelude.{ℕ, zero, suc, ◌+◌, ◌<◌, ◌≡◌, List, Bool, true, false, ◌&&◌, ◌||◌, length, get_or, ltb, leb}
use Rattle.layouts.specs.declared.Record.{Record}
use Rattle.layouts.specs.Primitive.{pick, number_at, pad_of, version, Result, ok, refused, onward}
use Rattle.layouts.specs.Shape.{Group, layout}
use Rattle.layouts.specs.Pieces.{Pieces, number, text, half, chunk, end, fault, run, skip_of}
use Rattle.layouts.specs.Record.{blank, is_kept, record_of}
use Rattle.layouts.specs.Judge.{or_bad}
use Rattle.layouts.specs.Stderr.{Message, no_code, terminal, goes, message_of, stderr_loop, error_pieces}
use Rattle.layouts.specs.Handshake.{Heard, heard, failed, ended, stream_of, on_stream, Both}

abbrev pub within : (start next x : ℕ) → Bool
within start next x = pick (leb start x) (ltb x next) false

-- contents with their padding, and chunks; no number, length or count
unfoldable pub soft : Pieces → ℕ → Bool
soft (number i place n p) x = soft p x
soft (text m start len p) x = within start (start + len + pad_of len) x || soft p x
soft (half m start len) x = within start (start + len + pad_of len) x
soft (chunk start len p) x = within start (start + len) x || soft p x
soft (end place) x = false
soft (fault which place) x = false

-- s' is as s but for soft bytes of the pieces
pub record Softened (p : Pieces) (s s' : List ℕ) : Type 0 where
  pub size : length s' ≡ length s
  pub hard : (x : ℕ) → x < length s → soft p x ≡ false → get_or s' x 0 ≡ get_or s x 0

-- how many strings are kept
unfoldable pub kept_of : Pieces → ℕ
kept_of (number i place n p) = kept_of p
kept_of (text m start len p) = pick (is_kept m) 1 0 + kept_of p
kept_of (half m start len) = 0
kept_of (chunk start len p) = kept_of p
kept_of (end place) = 0
kept_of (fault which place) = 0

-- refused by 3 in the first decoded string that is not text; else as given
unfoldable pub unless_bad : {A : Type 0} → List ℕ → Pieces → Result A → Result A
unless_bad s (number i place n p) o = unless_bad s p o
unless_bad s (text m start len p) o = or_bad s m start len (unless_bad s p o)
unless_bad s (half m start len) o = or_bad s m start len o
unless_bad s (chunk start len p) o = unless_bad s p o
unless_bad s (end place) o = o
unless_bad s (fault which place) o = o

-- ---- the same of a handshake
abbrev pub same_side : (d c : Bool) → Bool
same_side false false = true
same_side false true = false
same_side true false = false
same_side true true = true

-- the soft bytes of the client's stream, `false`, and of the daemon's, `true`
unfoldable pub soft_heard : (daemons : Bool) → Heard → ℕ → Bool
soft_heard d (heard c p h) x = (same_side d c && soft p x) || soft_heard d h x
soft_heard d (failed which place stream) x = false
soft_heard d (ended a b) x = false

pub record SoftenedOn (daemons : Bool) (h : Heard) (s s' : List ℕ) : Type 0 where
  pub size : length s' ≡ length s
  pub hard : (x : ℕ) → x < length s → soft_heard daemons h x ≡ false → get_or s' x 0 ≡ get_or s x 0

-- where both streams are passed to the end
unfoldable pub skip_heard : Heard → Result Both
skip_heard (heard d p h) = onward (on_stream d (skip_of p)) (λ e. skip_heard h)
skip_heard (failed which place stream) = refused which place stream
skip_heard (ended a b) = ok (record { found = blank; client_ends = a; daemon_ends = b })

unfoldable pub record_heard : Record → Heard → Record
record_heard r (heard d p h) = record_heard (record_of r p) h
record_heard r (failed which place stream) = r
record_heard r (ended a b) = r

unfoldable pub kept_heard : Heard → ℕ
kept_heard (heard d p h) = kept_of p + kept_heard h
kept_heard (failed which place stream) = 0
kept_heard (ended a b) = 0

-- a refusal of this stream; else what follows
abbrev pub or_on : {A : Type 0} → (daemons : Bool) → Result (Unit {0}) → Result A → Result A
or_on d (ok u) o = o
or_on d (refused which place stream) o = refused which place (stream_of d)

unfoldable pub unless_heard : {A : Type 0} → (s u : List ℕ) → Heard → Result A → Result A
unless_heard s u (heard d p h) o = or_on d (unless_bad (pick d u s) p (ok tt)) (unless_heard s u h o)
unless_heard s u (failed which place stream) o = o
unless_heard s u (ended a b) o = o

-- ---- the same of the stderr loop: the soft bytes of its messages
abbrev pub soft_after : Result ℕ → (ℕ → Bool) → Bool
soft_after (ok e) again = again e
soft_after (refused which place stream) again = false

unfoldable pub soft_message : (whole : Bool) → Message → (List Group → Pieces) → (ℕ → Bool) → ℕ → Bool
soft_message false m p again x = false
soft_message true no_code p again x = false
soft_message true terminal p again x = false
soft_message true (goes gs) p again x = soft (p gs) x || soft_after (skip_of (p gs)) again

unfoldable pub soft_from : ℕ → List ℕ → (at x : ℕ) → Bool
soft_from zero s at x = false
soft_from (suc f) s at x =
    soft_message (leb (at + 8) (length s)) (message_of (number_at s at)) (λ gs. run (layout (version 0 0) gs) s (at + 8)) (λ e. soft_from f s e x) x

pub record SoftenedStderr (s s' : List ℕ) : Type 0 where
  pub size : length s' ≡ length s
  pub hard : (x : ℕ) → x < length s → soft_from (suc (length s)) s 0 x ≡ false → get_or s' x 0 ≡ get_or s x 0

-- ---- the same of `read_stderr_with_error`: of the messages, and of the error block behind an Error
unfoldable pub soft_error : (kind : ℕ) → List ℕ → (x : ℕ) → Bool
soft_error k s x = soft_from (suc (length s)) s 0 x || soft (error_pieces k s (stderr_loop s)) x

pub record SoftenedError (kind : ℕ) (s s' : List ℕ) : Type 0 where
  pub size : length s' ≡ length s
  pub hard : (x : ℕ) → x < length s → soft_error kind s x ≡ false → get_or s' x 0 ≡ get_or s x 0
