-- 1 is returned, and the block tells that this stream is cut short.
use Rattle.std.specs.Prelude.{ℕ, ◌≡◌, List}
use Rattle.layouts.specs.Primitive.{cut_short, refused}
use Rattle.walk_judge.specs.Judged.{answer_as}
use Rattle.lintelow_answers.specs.Block.{block_after}

abbrev pub TellsCut : (stream : ℕ) → (block : List ℕ) → (number : ℕ) → (after : List ℕ) → Type 0
TellsCut stream block number after = (number ≡ cut_short) × ((place : ℕ) × (after ≡ block_after block (answer_as (refused cut_short place stream))))
