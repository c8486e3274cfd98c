-- What is still to be written of the pieces that are to come.
use Rattle.std.specs.Prelude.{ℕ, ◌≡◌, List}
use Rattle.layouts.specs.Shape.{Tree, frames, field}
use Rattle.layouts.specs.Pieces.{Pieces}
use Rattle.layouts.specs.Judge.{entries_of, payload_of}
use Rattle.table.specs.Table.{role_of, target_of, what_of}
use Rattle.walk_rooms.specs.Rooms.{Filling}
use Rattle.walk_fill.specs.declared.Listed.{Listed}
use Rattle.walk_fill.specs.declared.Copied.{Copied}
use Rattle.walk_fill.specs.declared.Filled.{Filled}
use Rattle.walk_fill.specs.There.{run_there}

-- both rooms, and the place in each; entries stand there in a form
pub record Rooms (A : Type 0) : Type 0 where
  pub entries : List A
  pub place : ℕ
  pub payload : List ℕ
  pub filled : ℕ

-- p is to come where they stand now, on the way from where they stood with p₀ to come
pub record Fills {A : Type 0} (form : List ℕ → List A) (s : List ℕ) (x₀ : Rooms A) (p₀ : Pieces) (x : Rooms A) (p : Pieces) : Type 0 where
  pub entries : Filling x₀.entries x₀.place (form (entries_of p₀)) x.entries x.place (form (entries_of p))
  pub payload : Filling x₀.payload x₀.filled (payload_of s p₀) x.payload x.filled (payload_of s p)

abbrev pub rooms : {A : Type 0} → (entries : List A) → ℕ → (payload : List ℕ) → ℕ → Rooms A
rooms es e ps p = record { entries = es; place = e; payload = ps; filled = p }

-- the same is reported
abbrev pub Alike : List ℕ → (p q : Pieces) → Type 0
Alike s p q = (entries_of p ≡ entries_of q) × (payload_of s p ≡ payload_of s q)

-- t puts strings, or none, before a rest: whatever the rest is, and the payload's room, the rest is to come from the place that is answered. The room es for
-- entries is lent with the place e, and es' is it afterwards
abbrev pub Lists : {A : Type 0} → (form : List ℕ → List A) → List ℕ → (at : ℕ) → ((Unit {0} → Tree) → Tree) → (es : List A) → ℕ → (es' : List A) → Listed → Type 0
Lists form s at t es e es' r =
    (ps : List ℕ) (p : ℕ) (k : Unit {0} → Tree) → Fills form s (rooms es e ps p) (run_there (t k) s at) (rooms es' r.place ps p) (run_there (k tt) s r.at)

-- framed data has no entries, and its payload is put
abbrev pub Copies : List ℕ → (at : ℕ) → (payload : List ℕ) → ℕ → (payload' : List ℕ) → Copied → Type 0
Copies s at ps p ps' r =
    (k : Unit {0} → Tree) → (entries_of (run_there (frames k) s at) ≡ entries_of (run_there (k tt) s r.at))
    × Filling ps p (payload_of s (run_there (frames k) s at)) ps' r.place (payload_of s (run_there (k tt) s r.at))

-- the same of any field
abbrev pub FillsField : {A : Type 0} → (form : List ℕ → List A) → List ℕ → (at kind role : ℕ) → Rooms A → (entries' : List A) → (payload' : List ℕ) → Filled → Type 0
FillsField form s at kind role x es' ps' r =
    (i : ℕ) (k : Unit {0} → Tree)
    → Fills form s x (run_there (field (what_of kind (role_of role) (target_of i)) k) s at) (rooms es' r.place ps' r.payload) (run_there (k tt) s r.at)
