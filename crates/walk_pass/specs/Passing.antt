-- Passing over an item: what follows it, and how far it took.
use Rattle.std.specs.Prelude.{ℕ, ◌+◌, ◌≤◌, ◌<◌, List, length}
use Rattle.layouts.specs.Primitive.{Version, Result}
use Rattle.layouts.specs.Refusal.{refused_by}
use Rattle.layouts.specs.Pieces.{run, skip_of}
use Rattle.walk_items.specs.declared.Item.{Item}
use Rattle.walk_items.specs.Items.{onto, fuel_of, Falls}
use Rattle.walk_pass.specs.declared.Moved.{Moved}
use Rattle.std.specs.Prelude as Std
use Rattle.layouts.specs.declared.Refusal.{Refusal}
use Rattle.std.specs.Prelude.{Ok, Err}

-- at least a number was there, and is passed
abbrev pub Took : List ℕ → (at : ℕ) → Std.Result ℕ Refusal → Type 0
Took s at (Ok a) = (at + 8 ≤ a) × (at + 8 ≤ length s)
Took s at (Err r) = Unit {0}

abbrev pub moved_to : List ℕ → Version → Item → Std.Result Moved Refusal → Result ℕ
moved_to s v f (Ok k) = skip_of (run (onto v f k.reps tt) s k.at)
moved_to s v f (Err r) = refused_by r

-- the measure of a fold falls with the item, whatever the state was before it; n is a u64
abbrev pub MovedOn : List ℕ → (at : ℕ) → Item → Std.Result Moved Refusal → Type 0
MovedOn s at f (Ok k) = (pc reps i : ℕ) → Falls pc reps i f → k.reps < 18446744073709551616 → fuel_of s k.at f.pc k.reps f.group < fuel_of s at pc reps i
MovedOn s at f (Err r) = Unit {0}
