-- What it is to write into lent room.
use Rattle.std.specs.Prelude.{ℕ, ◌+◌, ◌-◌, min, ◌≡◌, List, ◌++◌, length}
use Rattle.std.proofs.lemmas.List.Edits.{sets}
use Rattle.layouts.specs.Primitive.{Result, ok, refused}
use Rattle.layouts.specs.Judge.{lent_after}

-- the place after vs, as far as the room goes
abbrev pub place_after : {A : Type 0} → (lent : List A) → (at : ℕ) → (vs : List A) → ℕ
place_after lent at vs = at + min (length vs) (length lent - at)

-- vs stand in the room from a place on, and what is to follow them goes where they end; past the end of the room, nowhere
pub record Put {A : Type 0} (lent : List A) (at : ℕ) (vs out : List A) (next : ℕ) : Type 0 where
  pub size : length out ≡ length lent
  pub then : (ws : List A) → sets out next ws ≡ sets lent at (vs ++ ws)
  pub place : next ≡ place_after lent at vs

-- es are to come from place n of the room on, on the way from the lent one with es₀ to come
pub record Filling {A : Type 0} (lent : List A) (from : ℕ) (es₀ out : List A) (n : ℕ) (es : List A) : Type 0 where
  pub size : length out ≡ length lent
  pub same : (ws : List A) → sets out n (es ++ ws) ≡ sets lent from (es₀ ++ ws)
  pub place : place_after out n es ≡ place_after lent from es₀

-- lent memory afterwards: what is reported stands at its front, as far as it fits; a refusal changes nothing
abbrev pub filled_after : {A E : Type 0} → Result A → (reported lent : List E) → List E
filled_after (ok a) new lent = sets lent 0 new
filled_after (refused which place stream) new lent = lent

-- ---- a call as a whole: what it answers, and what it was lent afterwards. It is judged as o, and f makes the answer of that
-- entries stand in a room in its form
pub record RoomFilled (A E : Type 0) : Type 0 where
  pub answer : A
  pub entries : List E
  pub payload : List ℕ

abbrev pub room_filled : {A B E : Type 0} → (Result A → B) → Result A → (entries : List E) → (payload : List ℕ) → (lent : List E) → (room : List ℕ) → RoomFilled B E
room_filled f o es ps lent room = record { answer = f o; entries = filled_after o es lent; payload = filled_after o ps room }

-- a user lends one room for entries
pub record LentRead (A : Type 0) : Type 0 where
  pub answer : A
  pub entries : List ℕ
  pub payload : List ℕ

abbrev pub lent_read : {A B : Type 0} → (Result A → B) → Result A → (entries payload : List ℕ) → (lent room : List ℕ) → LentRead B
lent_read f o es ps lent room = record { answer = f o; entries = lent_after o es lent; payload = lent_after o ps room }
