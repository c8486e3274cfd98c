-- A call at the boundary: a block that is too short is refused, else what was put is the call's answer and its lent room holds.
use Prim.Native.Nat.{ℕ, ◌≤◌, ◌<◌}
use mathlib.Core.Path.{◌≡◌, sym, ◌∙◌, ap}
use mathlib.Core.List.{List}
use mathlib.Core.Bool.{Bool}
use lib.ListN.{length}
use borrow.Author.Tests.{le-leb, lt-leb}
use Rattle.layouts.specs.Primitive.{pick, output_full, Result, refused}
use Rattle.layouts.specs.Judge.{lent_after}
use Rattle.layouts.specs.Calls as L
use Rattle.walk_judge.specs.declared.Answer.{Answer}
use Rattle.walk_judge.specs.Judged.{answer_as}
use Rattle.writers_output.specs.Answer.{meaning}
use Rattle.lintelow_answers.specs.Answers.{written}
use Rattle.lintelow_answers.specs.Block.{guarded, numbers_of, number_of, block_after}
use Rattle.lintelow_answers.proofs.Laws.{put_short}
use Rattle.std.specs.Prelude as Std
use Rattle.layouts.specs.declared.Refusal.{Refusal}

module _ (block : List ℕ) (b : Answer) where
  pub short_number : length block < 200 → 10 ≡ number_of block b
  short_number h = (put_short block (numbers_of b) h).0

  pub short_block : length block < 200 → block ≡ block_after block b
  short_block h = (put_short block (numbers_of b) h).1

  pub told_number : (a : Answer) (r : ℕ) → a ≡ b → r ≡ number_of block a → r ≡ number_of block b
  told_number a r e q = q ∙ ap (number_of block) e

  pub told_block : (a : Answer) (out : List ℕ) → a ≡ b → out ≡ block_after block a → out ≡ block_after block b
  told_block a out e q = q ∙ ap (block_after block) e

module _ {A : Type 0} (block : List ℕ) (o : Result A) (new lent : List ℕ) where
  pub short_lent : length block < 200 → lent ≡ lent_after (guarded block o) new lent
  unfolding guarded
  short_lent h = ap (λ (b : Bool). lent_after (pick b o (refused output_full 0 0)) new lent) (sym (lt-leb 200 (length block) h))

  pub long_lent : 200 ≤ length block → (out : List ℕ) → out ≡ lent_after o new lent → out ≡ lent_after (guarded block o) new lent
  unfolding guarded
  long_lent h out q = q ∙ ap (λ (b : Bool). lent_after (pick b o (refused output_full 0 0)) new lent) (sym (le-leb 200 (length block) h))

-- ---- a call that lends one room: number, block and room, all at once
module _ {A : Type 0} (told : Result A → Answer) (block : List ℕ) (o : Result A) (new lent : List ℕ) where
  abbrev Called : (number : ℕ) → (after out : List ℕ) → Type 0
  Called r after out = (r ≡ number_of block (told o)) × ((after ≡ block_after block (told o)) × (out ≡ lent_after (guarded block o) new lent))

  pub called_short : length block < 200 → Called 10 block lent
  called_short h = (short_number block (told o) h, (short_block block (told o) h, short_lent block o new lent h))

  pub called_long : 200 ≤ length block → (a : Answer) → a ≡ told o → (r : ℕ) (after : List ℕ) → (r ≡ number_of block a) × (after ≡ block_after block a)
      → (out : List ℕ) → out ≡ lent_after o new lent → Called r after out
  called_long h a e r after p out q = (told_number block (told o) a r e p.0, (told_block block (told o) a after e p.1, long_lent block o new lent h out q))

-- the same of a writer, by what it answers
module _ (block : List ℕ) (o : Result ℕ) (new lent : List ℕ) where
  pub write_short : length block < 200 → Called (λ x. answer_as (written x)) block o new lent 10 block lent
  write_short = called_short (λ x. answer_as (written x)) block o new lent

  pub write_long : 200 ≤ length block → (w : Std.Result ℕ Refusal) (out : List ℕ) → (meaning w ≡ o) × (out ≡ lent_after o new lent) → (a : Answer) → a ≡ answer_as (written (meaning w))
      → (r : ℕ) (after : List ℕ) → (r ≡ number_of block a) × (after ≡ block_after block a) → Called (λ x. answer_as (written x)) block o new lent r after out
  write_long h w out f a e r after p = called_long (λ x. answer_as (written x)) block o new lent h a (e ∙ ap (λ (x : Result ℕ). answer_as (written x)) f.0) r after p out f.1

-- a call that lends two rooms: number, block, entries and payload
module _ (block : List ℕ) (o : Result L.Answer) (es ps entries payload : List ℕ) where
  abbrev ReadCalled : (number : ℕ) → (after entries' payload' : List ℕ) → Type 0
  ReadCalled r after entries' payload' =
      (r ≡ number_of block (answer_as o)) × ((after ≡ block_after block (answer_as o)) ×
      ((entries' ≡ lent_after (guarded block o) es entries) × (payload' ≡ lent_after (guarded block o) ps payload)))

  pub read_short : length block < 200 → ReadCalled 10 block entries payload
  read_short h =
      (short_number block (answer_as o) h, (short_block block (answer_as o) h, (short_lent block o es entries h, short_lent block o ps payload h)))

  pub read_long : 200 ≤ length block → (a : Answer) (entries' payload' : List ℕ)
      → (a ≡ answer_as o) × ((entries' ≡ lent_after o es entries) × (payload' ≡ lent_after o ps payload))
      → (r : ℕ) (after : List ℕ) → (r ≡ number_of block a) × (after ≡ block_after block a) → ReadCalled r after entries' payload'
  read_long h a entries' payload' e r after p = (
    told_number block (answer_as o) a r e.0 p.0,
    (
      told_block block (answer_as o) a after e.0 p.1,
      (long_lent block o es entries h entries' e.1.0, long_lent block o ps payload h payload' e.1.1),
    ),
  )
