-- What the code knows of a string or a chunk that it found, and why it is one.
use Prim.Native.Nat.{ℕ, ◌+◌, ◌-◌, ◌≤◌, ◌<◌}
use mathlib.Core.Path.{◌≡◌, refl, sym, ◌∙◌, ap, subst}
use mathlib.Core.List.{List}
use lib.ListN.{length}
use native.Mathlib.Omega.{arith}
use Rattle.layouts.specs.Primitive.{number_at, pad_of}
use Rattle.layouts.specs.Pieces.{Text, whole, cut, bad, Chunk, part, last, wrong, text_of, chunk_of}
use Rattle.layouts.proofs.Views.{TextView, no_length, too_long_there, no_contents, no_padding, is_whole, ChunkView, no_size, is_last, too_large, no_bytes, is_part, text_view, chunk_view, text_short, text_long, text_contents, text_cut, text_whole, chunk_short, chunk_last, chunk_long, chunk_cut, chunk_part}
use Rattle.layouts.specs.declared.Refusal.{Refusal}
use Rattle.layouts.specs.Refusal.{plain}
use Rattle.pieces.specs.Pieces.{text_found, chunk_found}
use Rattle.pieces.specs.declared.Text as T
use Rattle.pieces.specs.declared.Chunk as C
use Rattle.pieces.specs.declared.Chunk.TheVariants.{Last}
use Rattle.pieces.specs.declared.Chunk.TheVariants.{Part}
use Rattle.pieces.specs.declared.Text.TheVariants.{Half}
use Rattle.pieces.specs.declared.Text.TheVariants.{Whole}
use Rattle.std.specs.Prelude.{Ok, Err, Result}

-- ---- what was found is told by the answer, and its refusal is of a stream that is no handshake's
abbrev pub text_read : Result T.Text Refusal → Text
text_read (Ok (Whole start len next)) = whole start len next
text_read (Ok (Half start len)) = cut start len
text_read (Err r) = bad r.which r.place

text_back : (t : Text) → text_read (text_found t) ≡ t
text_back (whole start len next) = refl
text_back (cut start len) = refl
text_back (bad which place) = refl

abbrev TextPlain : Result T.Text Refusal → Type 0
TextPlain (Ok (Whole start len next)) = Unit {0}
TextPlain (Ok (Half start len)) = Unit {0}
TextPlain (Err r) = r.stream ≡ 0

text_plain : (t : Text) → TextPlain (text_found t)
text_plain (whole start len next) = tt
text_plain (cut start len) = tt
text_plain (bad which place) = refl

module _ (s : List ℕ) (at : ℕ) (r : Result T.Text Refusal) (e : r ≡ text_found (text_of (length s) (number_at s at) at)) where
  pub text_told_lem : (y : Result T.Text Refusal) → r ≡ y → text_read y ≡ text_of (length s) (number_at s at) at
  text_told_lem y q = ap text_read (sym q ∙ e) ∙ text_back (text_of (length s) (number_at s at) at)

  pub bad_plain : (x : Refusal) → r ≡ Err x → x.stream ≡ 0
  bad_plain x q = subst TextPlain (sym e ∙ q) (text_plain (text_of (length s) (number_at s at) at))

abbrev pub chunk_read : Result C.Chunk Refusal → Chunk
chunk_read (Ok (Part start len next)) = part start len next
chunk_read (Ok (Last next)) = last next
chunk_read (Err r) = wrong r.which r.place

chunk_back : (t : Chunk) → chunk_read (chunk_found t) ≡ t
chunk_back (part start len next) = refl
chunk_back (last next) = refl
chunk_back (wrong which place) = refl

abbrev ChunkPlain : Result C.Chunk Refusal → Type 0
ChunkPlain (Ok (Part start len next)) = Unit {0}
ChunkPlain (Ok (Last next)) = Unit {0}
ChunkPlain (Err r) = r.stream ≡ 0

chunk_plain : (t : Chunk) → ChunkPlain (chunk_found t)
chunk_plain (part start len next) = tt
chunk_plain (last next) = tt
chunk_plain (wrong which place) = refl

module _ (s : List ℕ) (at : ℕ) (r : Result C.Chunk Refusal) (e : r ≡ chunk_found (chunk_of (length s) (number_at s at) at)) where
  pub chunk_told : (y : Result C.Chunk Refusal) → r ≡ y → chunk_read y ≡ chunk_of (length s) (number_at s at) at
  chunk_told y q = ap chunk_read (sym q ∙ e) ∙ chunk_back (chunk_of (length s) (number_at s at) at)

  pub wrong_plain : (x : Refusal) → r ≡ Err x → x.stream ≡ 0
  wrong_plain x q = subst ChunkPlain (sym e ∙ q) (chunk_plain (chunk_of (length s) (number_at s at) at))

abbrev TextSays : (size n at : ℕ) → Text → Type 0
TextSays size n at (whole start len next) = (start ≡ at + 8) × (len ≡ n) × (start + len ≤ next) × (next ≤ size)
TextSays size n at (cut start len) = (start ≡ at + 8) × (len ≡ n) × (start + len ≤ size)
TextSays size n at (bad which place) = Unit {0}

text_says : {size n at : ℕ} {m : Text} → TextView size n at m → TextSays size n at m
text_says (no_length h) = tt
text_says (too_long_there h l) = tt
text_says (no_contents h l c) = tt
text_says (no_padding h l c) = (refl, refl, h)
text_says (is_whole h l) = (refl, refl, omega arith, h)

pub text_known : (size n at : ℕ) (m : Text) → m ≡ text_of size n at → TextSays size n at m
text_known size n at m e = subst (TextSays size n at) (sym e) (text_says (text_view size n at))

abbrev ChunkSays : (size n at : ℕ) → Chunk → Type 0
ChunkSays size n at (part start len next) = (start ≡ at + 8) × (next ≡ start + len) × (next ≤ size)
ChunkSays size n at (last next) = (next ≡ at + 8) × (next ≤ size)
ChunkSays size n at (wrong which place) = Unit {0}

chunk_says : {size n at : ℕ} {m : Chunk} → ChunkView size n at m → ChunkSays size n at m
chunk_says (no_size h) = tt
chunk_says (is_last h z) = (refl, h)
chunk_says (too_large h l) = tt
chunk_says (no_bytes h z l c) = tt
chunk_says (is_part h z l) = (refl, refl, h)

pub chunk_known : (size n at : ℕ) (m : Chunk) → m ≡ chunk_of size n at → ChunkSays size n at m
chunk_known size n at m e = subst (ChunkSays size n at) (sym e) (chunk_says (chunk_view size n at))

-- ---- each way through the code that looks for a string, and for a chunk
module _ (s : List ℕ) (at n : ℕ) (known : (at + 8 ≤ length s) × (n ≡ number_at s at)) where
  pub there : at + 8 ≤ length s
  there = known.0

  text_as : (m : Text) → text_of (length s) n at ≡ m → text_found m ≡ text_found (text_of (length s) (number_at s at) at)
  text_as m p = ap text_found (sym p ∙ ap (λ (x : ℕ). text_of (length s) x at) known.1)

  pub long_string : (x : Refusal) → x ≡ plain 2 at → 268435456 < n → Err x ≡ text_found (text_of (length s) (number_at s at) at)
  long_string x p l = rw p (text_as _ (text_long (length s) n at there l))

  pub cut_contents : (x : Refusal) → x ≡ plain 1 (at + 8) → n ≤ 268435456 → length s - (at + 8) < n → Err x ≡ text_found (text_of (length s) (number_at s at) at)
  cut_contents x p l h = let t = there in rw p (text_as _ (text_contents (length s) n at l t (omega arith)))

  pub cut_padding : n ≤ 268435456 → n ≤ length s - (at + 8) → length s - (at + 8) - n < pad_of n → Ok (Half (at + 8) n) ≡ text_found (text_of (length s) (number_at s at) at)
  cut_padding l h g = let t = there in text_as _ (text_cut (length s) n at l (omega arith) (omega arith))

  pub whole_string : (pad : ℕ) → pad ≡ pad_of n → n ≤ 268435456 → n ≤ length s - (at + 8) → pad ≤ length s - (at + 8) - n
      → Ok (Whole (at + 8) n (at + 8 + n + pad)) ≡ text_found (text_of (length s) (number_at s at) at)
  whole_string pad p l h g = let t = there in rw p (text_as _ (text_whole (length s) n at l (omega arith)))

  chunk_as : (m : Chunk) → chunk_of (length s) n at ≡ m → chunk_found m ≡ chunk_found (chunk_of (length s) (number_at s at) at)
  chunk_as m p = ap chunk_found (sym p ∙ ap (λ (x : ℕ). chunk_of (length s) x at) known.1)

  pub last_chunk : n ≡ 0 → Ok (Last (at + 8)) ≡ chunk_found (chunk_of (length s) (number_at s at) at)
  last_chunk z = chunk_as _ (chunk_last (length s) n at there z)

  pub long_chunk : (x : Refusal) → x ≡ plain 2 at → 268435456 < n → Err x ≡ chunk_found (chunk_of (length s) (number_at s at) at)
  long_chunk x p l = rw p (chunk_as _ (chunk_long (length s) n at there l))

  pub cut_chunk : (x : Refusal) → x ≡ plain 1 (at + 8) → (n ≡ 0 → ⊥) → n ≤ 268435456 → length s - (at + 8) < n → Err x ≡ chunk_found (chunk_of (length s) (number_at s at) at)
  cut_chunk x p z l h = let t = there in rw p (chunk_as _ (chunk_cut (length s) n at l t (omega arith) (omega arith)))

  pub whole_chunk : (next : ℕ) → next ≡ at + 8 + n → (n ≡ 0 → ⊥) → n ≤ 268435456 → n ≤ length s - (at + 8) → Ok (Part (at + 8) n next) ≡ chunk_found (chunk_of (length s) (number_at s at) at)
  whole_chunk next p z l h = let t = there in rw p (chunk_as _ (chunk_part (length s) n at l (omega arith) (omega arith)))

module _ (s : List ℕ) (at : ℕ) (x : Refusal) (known : (length s < at + 8) × (x ≡ plain 1 at)) where
  pub no_string : Err x ≡ text_found (text_of (length s) (number_at s at) at)
  no_string = rw known.1 (ap text_found (sym (text_short (length s) (number_at s at) at known.0)))

  pub no_chunk : Err x ≡ chunk_found (chunk_of (length s) (number_at s at) at)
  no_chunk = rw known.1 (ap chunk_found (sym (chunk_short (length s) (number_at s at) at known.0)))
