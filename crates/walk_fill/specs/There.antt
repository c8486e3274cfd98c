-- The pieces that are there: those of a layout that a stream has whole, up to the first that it has not. Only the stream's end is asked for: no limit on
-- lengths, no text. Of a layout that was judged fine these are all its pieces.
use Rattle.std.specs.Prelude.{ℕ, zero, suc, ◌+◌, List, length, leb, eqb}
use Rattle.layouts.specs.Primitive.{pick, number_at, pad_of}
use Rattle.layouts.specs.Shape.{Tree, ask, say, frames, fail, stop}
use Rattle.layouts.specs.Pieces.{Pieces, number, text, chunk, end, fault}
use Rattle.walk_items.specs.Items.{layout_tree}

abbrev pub nothing : Pieces
nothing = fault 0 0

-- p, if the stream has its first piece, which ends at a place
abbrev pub if_there : List ℕ → (place : ℕ) → Pieces → Pieces
if_there s place p = pick (leb place (length s)) p nothing

-- chunks up to an empty one; the first argument bounds how many there can be
unfoldable pub chunks_there : ℕ → List ℕ → (at : ℕ) → (ℕ → Pieces) → Pieces
chunks_there zero s at k = nothing
chunks_there (suc f) s at k =
    if_there s (at + 8 + number_at s at) (pick (eqb (number_at s at) 0) (k (at + 8)) (chunk (at + 8) (number_at s at) (chunks_there f s (at + 8 + number_at s at) k)))

unfoldable pub run_there : Tree → List ℕ → (at : ℕ) → Pieces
unfolding chunks_there
run_there (ask i k) s at = if_there s (at + 8) (number i at (number_at s at) (run_there (k (number_at s at)) s (at + 8)))
run_there (say r k) s at = if_there s (at + 8 + number_at s at + pad_of (number_at s at)) (text r (at + 8) (number_at s at) (run_there (k tt) s (at + 8 + number_at s at + pad_of (number_at s at))))
run_there (frames k) s at = chunks_there (suc (length s)) s at (λ at'. run_there (k tt) s at')
run_there (fail which back) s at = nothing
run_there stop s at = end at

abbrev pub pieces_there : (layout : ℕ) → List ℕ → (at : ℕ) → Pieces
pieces_there l s at = run_there (layout_tree l) s at
