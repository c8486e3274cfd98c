-- What the theorems about the demands speak of, beside the calls.
use Rattle.std.specs.Prelude.{ℕ, ◌*◌, ◌<◌, ◌≡◌, List, length}
use Rattle.layouts.specs.Primitive.{number_at}
use Rattle.walk_judge.specs.declared.Answer.{Answer}
use Rattle.lintelow_answers.specs.Block.{number_of, block_after}

-- what a block reports: number i of its 25
abbrev pub in_block : (i : ℕ) → (block : List ℕ) → ℕ
in_block i block = number_at block (8 * i)

-- the end, and of a writer the length of its output; the end on the daemon's stream of a handshake; how many entries; how many bytes of payload
abbrev pub end_told : (block : List ℕ) → ℕ
end_told block = in_block 4 block

abbrev pub end2_told : (block : List ℕ) → ℕ
end2_told block = in_block 5 block

abbrev pub entries_told : (block : List ℕ) → ℕ
entries_told block = in_block 6 block

abbrev pub payload_told : (block : List ℕ) → ℕ
payload_told block = in_block 7 block

-- start and length of one string, numbers 1 and 2 of the record; how many strings a set has, count 0
abbrev pub start_told : (block : List ℕ) → ℕ
start_told block = in_block 9 block

abbrev pub length_told : (block : List ℕ) → ℕ
length_told block = in_block 10 block

abbrev pub count_told : (block : List ℕ) → ℕ
count_told block = in_block 20 block

-- lent memory has less than 2^64 bytes
abbrev pub Lendable : List ℕ → Type 0
Lendable l = length l < 18446744073709551616

-- the number that is returned and the block afterwards tell this answer
abbrev pub Tells : Answer → (block : List ℕ) → (number : ℕ) → (after : List ℕ) → Type 0
Tells a block number after = (number ≡ number_of block a) × (after ≡ block_after block a)
