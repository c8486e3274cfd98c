-- Each public contract has one answer: two that meet it are equal. `Post` is what Rattle reads off the source.
use Prim.Native.Nat.{ℕ}
use mathlib.Core.Path.{◌≡◌, refl, sym, ◌∙◌, ap}
use contract.Lifetimes.{Lfts}
use borrow.Fn.Kinds.{Dens, ended_of}
use denote.Triple.Clauses.{AtExit}
use Rattle.layouts.specs.Primitive.{Result, ok, refused}
use Rattle.layouts.specs.Refusal.{refusal}
use Rattle.layouts.specs.Pieces.{Num, value, short}
use Rattle.pieces.specs.Pieces.{Span, num_read, judged_read}
use Rattle.pieces.proofs.number_at.Reads as number_at
use Rattle.pieces.proofs.number_at.Kinds as number-at-kinds
use Rattle.pieces.proofs.four_at.Reads as four-at
use Rattle.pieces.proofs.four_at.Kinds as four-at-kinds
use native.Mathlib.Omega.{arith}
use Rattle.pieces.proofs.number_or_cut.Reads as number-or-cut
use Rattle.pieces.proofs.number_or_cut.Kinds as number-or-cut-kinds
use Rattle.pieces.proofs.padding.Reads as padding
use Rattle.pieces.proofs.padding.Kinds as padding-kinds
use Rattle.pieces.proofs.text_at.Reads as text_at
use Rattle.pieces.proofs.text_at.Kinds as text-at-kinds
use Rattle.pieces.proofs.chunk_at.Reads as chunk-at
use Rattle.pieces.proofs.chunk_at.Kinds as chunk-at-kinds
use Rattle.pieces.proofs.string_at.Reads as string_at_lem
use Rattle.pieces.proofs.string_at.Kinds as string-at-kinds
use Rattle.pieces.specs.declared.Text as T
use Rattle.pieces.specs.declared.Chunk as C
use Rattle.pieces.specs.declared.Contents.{Contents}
use Rattle.std.specs.Prelude as Std
use Rattle.layouts.specs.declared.Refusal.{Refusal}
use Rattle.std.specs.Prelude.{Option, Some, None, Ok, Err}

-- an answer is told by its meaning, where a function leads back from it
pub told : {A B : Type 0} (f : A → B) (g : B → A) → ((a : A) → g (f a) ≡ a) → {b : B} (x y : A) → f x ≡ b → f y ≡ b → x ≡ y
told f g h x y p q = sym (h x) ∙ ap g (p ∙ sym q) ∙ h y

abbrev number_back : Num → Option ℕ
number_back (value n) = Some n
number_back short = None

num_back : (r : Option ℕ) → number_back (num_read r) ≡ r
num_back (Some n) = refl
num_back None = refl

pub number_at_unique : (κs : Lfts 1) (a : Dens κs number-at-kinds.ps) (r r' : Option ℕ) (x x' : AtExit (ended_of 1 number-at-kinds.ps number-at-kinds.r) κs)
    → number_at.Post κs a r x → number_at.Post κs a r' x' → r ≡ r'
number_at_unique κs a r r' x x' p q = told num_read number_back num_back r r' p q

abbrev judged_back : Result Span → Std.Result Contents Refusal
judged_back (ok p) = Ok (record { start = p.start; len = p.len; next = p.ends })
judged_back (refused which place stream) = Err (refusal which place stream)

judged_back_lem : (r : Std.Result Contents Refusal) → judged_back (judged_read r) ≡ r
judged_back_lem (Ok k) = refl
judged_back_lem (Err r) = refl

pub four_at_unique : (κs : Lfts 1) (a : Dens κs four-at-kinds.ps) (r r' : Option ℕ) (x x' : AtExit (ended_of 1 four-at-kinds.ps four-at-kinds.r) κs)
    → four-at.Post κs a r x → four-at.Post κs a r' x' → r ≡ r'
four_at_unique κs a r r' x x' p q = told num_read number_back num_back r r' p q

pub string_at_unique : (κs : Lfts 1) (a : Dens κs string-at-kinds.ps) (r r' : Std.Result Contents Refusal) (x x' : AtExit (ended_of 1 string-at-kinds.ps string-at-kinds.r) κs)
    → string_at_lem.Post κs a r x → string_at_lem.Post κs a r' x' → r ≡ r'
string_at_unique κs a r r' x x' p q = told judged_read judged_back judged_back_lem r r' p q

pub text_at_unique : (κs : Lfts 1) (a : Dens κs text-at-kinds.ps) (r r' : Std.Result T.Text Refusal) (x x' : AtExit (ended_of 1 text-at-kinds.ps text-at-kinds.r) κs)
    → text_at.Post κs a r x → text_at.Post κs a r' x' → r ≡ r'
text_at_unique κs a r r' x x' p q = p ∙ sym q

pub chunk_at_unique : (κs : Lfts 1) (a : Dens κs chunk-at-kinds.ps) (r r' : Std.Result C.Chunk Refusal) (x x' : AtExit (ended_of 1 chunk-at-kinds.ps chunk-at-kinds.r) κs)
    → chunk-at.Post κs a r x → chunk-at.Post κs a r' x' → r ≡ r'
chunk_at_unique κs a r r' x x' p q = p ∙ sym q

pub padding_unique : (κs : Lfts 0) (a : Dens κs padding-kinds.ps) (r r' : ℕ) (x x' : AtExit (ended_of 0 padding-kinds.ps padding-kinds.r) κs)
    → padding.Post κs a r x → padding.Post κs a r' x' → r ≡ r'
padding_unique κs a r r' x x' p q = p.0 ∙ sym q.0

pub number_or_cut_unique : (κs : Lfts 1) (a : Dens κs number-or-cut-kinds.ps) (r r' : Std.Result ℕ Refusal) (x x' : AtExit (ended_of 1 number-or-cut-kinds.ps number-or-cut-kinds.r) κs)
    → number-or-cut.Post κs a r x → number-or-cut.Post κs a r' x' → r ≡ r'
number_or_cut_unique κs a (Ok n) (Ok m) x x' p q = ap Ok (p.0.1 ∙ sym q.0.1)
number_or_cut_unique κs a (Ok n) (Err z) x x' p q = absurd (omega (arith, p.0.0, q.1.0))
number_or_cut_unique κs a (Err y) (Ok m) x x' p q = absurd (omega (arith, p.1.0, q.0.0))
number_or_cut_unique κs a (Err y) (Err z) x x' p q = ap Err (p.1.1 ∙ sym q.1.1)
