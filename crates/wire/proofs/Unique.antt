-- Each public contract has one answer: two answers that meet it, with the lent room at exit, are equal. `Post` is what Rattle reads off the source.
use Prim.Native.Nat.{ℕ}
use mathlib.Core.Path.{◌≡◌, refl, sym, ◌∙◌}
use lib.ListN.{get_or}
use contract.Lifetimes.{Lfts}
use borrow.Fn.Kinds.{Dens, ended_of}
use denote.Triple.Clauses.{AtExit}
use Rattle.layouts.specs.Primitive.{Result, ok, refused}
use Rattle.layouts.specs.Refusal.{refusal}
use Rattle.layouts.specs.Pieces.{Num, value, short}
use Rattle.layouts.specs.Judge.{Ended}
use Rattle.wire.specs.Answers.{number_read, count_read, total_read, peeked, skipped_to, spanned}
use Rattle.pieces.specs.Pieces.{Span}
use Rattle.pieces.proofs.Unique.{told}
use Rattle.wire.proofs.Cursor.read_u64.Reads as read_u64
use Rattle.wire.proofs.Cursor.read_u64.Kinds as read-u64-kinds
use Rattle.wire.proofs.Cursor.read_u32.Reads as read_u32
use Rattle.wire.proofs.Cursor.read_u32.Kinds as read-u32-kinds
use Rattle.wire.proofs.Cursor.peek_u64.Reads as peek-u64
use Rattle.wire.proofs.Cursor.peek_u64.Kinds as peek-u64-kinds
use Rattle.wire.proofs.Cursor.read_bytes.Reads as read-bytes
use Rattle.wire.proofs.Cursor.read_bytes.Kinds as read-bytes-kinds
use Rattle.wire.proofs.Cursor.read_string.Reads as read-string
use Rattle.wire.proofs.Cursor.read_string.Kinds as read-string-kinds
use Rattle.wire.proofs.Cursor.skip_string.Reads as skip-string
use Rattle.wire.proofs.Cursor.skip_string.Kinds as skip-string-kinds
use Rattle.wire.proofs.Cursor.read_string_set.Reads as read-string-set
use Rattle.wire.proofs.Cursor.read_string_set.Kinds as read-string-set-kinds
use Rattle.wire.proofs.Cursor.read_string_set_bytes.Reads as read-string-set-bytes
use Rattle.wire.proofs.Cursor.read_string_set_bytes.Kinds as read-string-set-bytes-kinds
use Rattle.wire.proofs.Cursor.skip_string_set.Reads as skip-string-set
use Rattle.wire.proofs.Cursor.skip_string_set.Kinds as skip-string-set-kinds
use Rattle.wire.proofs.Cursor.read_framed.Reads as read-framed
use Rattle.wire.proofs.Cursor.read_framed.Kinds as read-framed-kinds
use Rattle.wire.proofs.Cursor.skip_framed.Reads as skip-framed
use Rattle.wire.proofs.Cursor.skip_framed.Kinds as skip-framed-kinds
use Rattle.wire.specs.declared.Cursor.{Cursor}
use Rattle.wire.specs.declared.Read.{Read}
use Rattle.wire.specs.declared.Spanned.{Spanned}
use Rattle.std.specs.Prelude as Std
use Rattle.layouts.specs.declared.Refusal.{Refusal}
use Rattle.std.specs.Prelude.{Option, Some, None, Ok, Err}

abbrev read_by : (Ended → ℕ) → Result Ended → Std.Result Read Refusal
read_by f (ok x) = Ok (record { value = (f x); next = (record { at = x.ends }) })
read_by f (refused which place stream) = Err (refusal which place stream)

number_back_lem : (r : Std.Result Read Refusal) → read_by (λ x. get_or x.found.numbers 0 0) (number_read r) ≡ r
number_back_lem (Ok k) = refl
number_back_lem (Err r) = refl

pub number_told : {b : Result Ended} (r r' : Std.Result Read Refusal) → number_read r ≡ b → number_read r' ≡ b → r ≡ r'
number_told = told number_read (read_by (λ x. get_or x.found.numbers 0 0)) number_back_lem

count_back : (r : Std.Result Read Refusal) → read_by (λ x. x.found.entries) (count_read r) ≡ r
count_back (Ok k) = refl
count_back (Err r) = refl

pub count_told_lem : {b : Result Ended} (r r' : Std.Result Read Refusal) → count_read r ≡ b → count_read r' ≡ b → r ≡ r'
count_told_lem = told count_read (read_by (λ x. x.found.entries)) count_back

total_back : (r : Std.Result Read Refusal) → read_by (λ x. x.found.payload) (total_read r) ≡ r
total_back (Ok k) = refl
total_back (Err r) = refl

pub total_told : {b : Result Ended} (r r' : Std.Result Read Refusal) → total_read r ≡ b → total_read r' ≡ b → r ≡ r'
total_told = told total_read (read_by (λ x. x.found.payload)) total_back

abbrev peeked_of : Num → Option ℕ
peeked_of (value v) = Some v
peeked_of short = None

peeked_back : (r : Option ℕ) → peeked_of (peeked r) ≡ r
peeked_back (Some v) = refl
peeked_back None = refl

peeked_told : {b : Num} (r r' : Option ℕ) → peeked r ≡ b → peeked r' ≡ b → r ≡ r'
peeked_told = told peeked peeked_of peeked_back

abbrev spanned_of : Result Span → Std.Result Spanned Refusal
spanned_of (ok p) = Ok (record { start = p.start; len = p.len; next = (record { at = p.ends }) })
spanned_of (refused which place stream) = Err (refusal which place stream)

spanned_back : (r : Std.Result Spanned Refusal) → spanned_of (spanned r) ≡ r
spanned_back (Ok k) = refl
spanned_back (Err r) = refl

pub spanned_told : {b : Result Span} (r r' : Std.Result Spanned Refusal) → spanned r ≡ b → spanned r' ≡ b → r ≡ r'
spanned_told = told spanned spanned_of spanned_back

abbrev skipped_of : Result ℕ → Std.Result Cursor Refusal
skipped_of (ok e) = Ok (record { at = e })
skipped_of (refused which place stream) = Err (refusal which place stream)

skipped_back : (r : Std.Result Cursor Refusal) → skipped_of (skipped_to r) ≡ r
skipped_back (Ok next) = refl
skipped_back (Err r) = refl

pub skipped_told : {b : Result ℕ} (r r' : Std.Result Cursor Refusal) → skipped_to r ≡ b → skipped_to r' ≡ b → r ≡ r'
skipped_told = told skipped_to skipped_of skipped_back

-- ---- the methods
pub read_u64_unique : (κs : Lfts 1) (a : Dens κs read-u64-kinds.ps) (r r' : Std.Result Read Refusal) (x x' : AtExit (ended_of 1 read-u64-kinds.ps read-u64-kinds.r) κs)
    → read_u64.Post κs a r x → read_u64.Post κs a r' x' → r ≡ r'
read_u64_unique κs a r r' x x' p q = number_told r r' p q

pub read_u32_unique : (κs : Lfts 1) (a : Dens κs read-u32-kinds.ps) (r r' : Std.Result Read Refusal) (x x' : AtExit (ended_of 1 read-u32-kinds.ps read-u32-kinds.r) κs)
    → read_u32.Post κs a r x → read_u32.Post κs a r' x' → r ≡ r'
read_u32_unique κs a r r' x x' p q = number_told r r' p q

pub peek_u64_unique : (κs : Lfts 1) (a : Dens κs peek-u64-kinds.ps) (r r' : Option ℕ) (x x' : AtExit (ended_of 1 peek-u64-kinds.ps peek-u64-kinds.r) κs)
    → peek-u64.Post κs a r x → peek-u64.Post κs a r' x' → r ≡ r'
peek_u64_unique κs a r r' x x' p q = peeked_told r r' p q

pub read_bytes_unique : (κs : Lfts 1) (a : Dens κs read-bytes-kinds.ps) (r r' : Std.Result Spanned Refusal) (x x' : AtExit (ended_of 1 read-bytes-kinds.ps read-bytes-kinds.r) κs)
    → read-bytes.Post κs a r x → read-bytes.Post κs a r' x' → r ≡ r'
read_bytes_unique κs a r r' x x' p q = spanned_told r r' p.0 q.0

pub read_string_unique : (κs : Lfts 1) (a : Dens κs read-string-kinds.ps) (r r' : Std.Result Spanned Refusal) (x x' : AtExit (ended_of 1 read-string-kinds.ps read-string-kinds.r) κs)
    → read-string.Post κs a r x → read-string.Post κs a r' x' → r ≡ r'
read_string_unique κs a r r' x x' p q = spanned_told r r' p.0 q.0

pub skip_string_unique : (κs : Lfts 1) (a : Dens κs skip-string-kinds.ps) (r r' : Std.Result Cursor Refusal) (x x' : AtExit (ended_of 1 skip-string-kinds.ps skip-string-kinds.r) κs)
    → skip-string.Post κs a r x → skip-string.Post κs a r' x' → r ≡ r'
skip_string_unique κs a r r' x x' p q = skipped_told r r' p q

pub read_string_set_unique : (κs : Lfts 2) (a : Dens κs read-string-set-kinds.ps) (r r' : Std.Result Read Refusal) (x x' : AtExit (ended_of 2 read-string-set-kinds.ps read-string-set-kinds.r) κs)
    → read-string-set.Post κs a r x → read-string-set.Post κs a r' x' → (r ≡ r') × (x.1.1.0.now ≡ x'.1.1.0.now)
read_string_set_unique κs a r r' x x' p q = (count_told_lem r r' p.0 q.0, p.1.0 ∙ sym q.1.0)

pub read_string_set_bytes_unique : (κs : Lfts 2) (a : Dens κs read-string-set-bytes-kinds.ps) (r r' : Std.Result Read Refusal) (x x' : AtExit (ended_of 2 read-string-set-bytes-kinds.ps read-string-set-bytes-kinds.r) κs)
    → read-string-set-bytes.Post κs a r x → read-string-set-bytes.Post κs a r' x' → (r ≡ r') × (x.1.1.0.now ≡ x'.1.1.0.now)
read_string_set_bytes_unique κs a r r' x x' p q = (count_told_lem r r' p.0 q.0, p.1.0 ∙ sym q.1.0)

pub skip_string_set_unique : (κs : Lfts 1) (a : Dens κs skip-string-set-kinds.ps) (r r' : Std.Result Read Refusal) (x x' : AtExit (ended_of 1 skip-string-set-kinds.ps skip-string-set-kinds.r) κs)
    → skip-string-set.Post κs a r x → skip-string-set.Post κs a r' x' → r ≡ r'
skip_string_set_unique κs a r r' x x' p q = number_told r r' p q

pub read_framed_unique : (κs : Lfts 2) (a : Dens κs read-framed-kinds.ps) (r r' : Std.Result Read Refusal) (x x' : AtExit (ended_of 2 read-framed-kinds.ps read-framed-kinds.r) κs)
    → read-framed.Post κs a r x → read-framed.Post κs a r' x' → (r ≡ r') × (x.1.1.0.now ≡ x'.1.1.0.now)
read_framed_unique κs a r r' x x' p q = (total_told r r' p.0 q.0, p.1 ∙ sym q.1)

pub skip_framed_unique : (κs : Lfts 1) (a : Dens κs skip-framed-kinds.ps) (r r' : Std.Result Read Refusal) (x x' : AtExit (ended_of 1 skip-framed-kinds.ps skip-framed-kinds.r) κs)
    → skip-framed.Post κs a r x → skip-framed.Post κs a r' x' → r ≡ r'
skip_framed_unique κs a r r' x x' p q = number_told r r' p q
