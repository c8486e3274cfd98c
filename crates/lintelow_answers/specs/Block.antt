-- The answer of a call as a block of 25 numbers, for the C boundary.
use Rattle.std.specs.Prelude.{ℕ, List, [], ◌∷◌, ◌++◌, length, get_or, drop, leb}
use Rattle.layouts.specs.Primitive.{pick, output_full, Result, refused}
use Rattle.walk_judge.specs.declared.Answer.{Answer}
use Rattle.writers_output.specs.Numbers.{bytes_of}
use Rattle.walk_judge.specs.declared.Said.{Said}
use Rattle.std.specs.Prelude as Std
use Rattle.layouts.specs.declared.Refusal.{Refusal}
use Rattle.std.specs.Prelude.{Ok, Err}

abbrev pub refusal_of : Std.Result (Unit {0}) Refusal → List ℕ
refusal_of (Ok tt) = 0 ∷ 0 ∷ 0 ∷ []
refusal_of (Err r) = r.which ∷ r.place ∷ r.stream ∷ []

-- number, place, stream; kind, end, end2, entries, payload; twelve numbers; three counts; two that are kept for later
abbrev pub numbers_of : Answer → List ℕ
numbers_of a =
    refusal_of a.outcome ++
    (a.kind ∷ a.ends ∷ a.ends2 ∷ a.found.entries ∷ a.found.payload ∷ (a.found.numbers ++ (a.found.counts ++ (0 ∷ 0 ∷ []))))

-- the first eight of them, of what is said
abbrev pub head_of : Std.Result Said Refusal → List ℕ
head_of (Ok k) = 0 ∷ 0 ∷ 0 ∷ k.kind ∷ k.ends ∷ k.ends2 ∷ k.entries ∷ k.payload ∷ []
head_of (Err r) = r.which ∷ r.place ∷ r.stream ∷ 0 ∷ 0 ∷ 0 ∷ 0 ∷ 0 ∷ []

-- and the others behind them
abbrev pub block_of : (head numbers counts : List ℕ) → List ℕ
block_of head ns cs = head ++ (ns ++ (cs ++ (0 ∷ 0 ∷ [])))

-- ---- what a call at the boundary does, by what it has to say
-- a block that is too short is refused before all else
unfoldable pub guarded : {A : Type 0} → (block : List ℕ) → Result A → Result A
guarded block o = pick (leb 200 (length block)) o (refused output_full 0 0)

-- the number that is returned: the block's first
unfoldable pub number_put : (block ns : List ℕ) → ℕ
number_put block ns = pick (leb 200 (length block)) (get_or ns 0 0) output_full

abbrev pub number_of : (block : List ℕ) → Answer → ℕ
number_of block a = number_put block (numbers_of a)

-- a longer block keeps its other bytes
unfoldable pub block_put : (block ns : List ℕ) → List ℕ
block_put block ns = pick (leb 200 (length block)) (bytes_of ns ++ drop 200 block) block

abbrev pub block_after : (block : List ℕ) → Answer → List ℕ
block_after block a = block_put block (numbers_of a)
