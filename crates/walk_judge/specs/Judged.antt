-- What `layouts` says, as the code answers it.
use Rattle.std.specs.Prelude.{ℕ, ◌+◌, ◌≤◌, ◌≡◌, length, replicate, List, Bool, false}
use Rattle.layouts.specs.declared.Record.{Record}
use Rattle.layouts.specs.Primitive.{Version, Result, ok, refused, onward}
use Rattle.layouts.specs.Refusal.{refusal, refused_by}
use Rattle.layouts.specs.Record.{blank, with_entries, with_payload, noted}
use Rattle.layouts.specs.Judge.{Ended, judge_of}
use Rattle.layouts.specs.Pieces.{run}
use Rattle.layouts.specs.Calls as L
use Rattle.table.specs.Table.{target_of}
use Rattle.walk_items.specs.declared.Item.{Item}
use Rattle.walk_items.specs.Items.{onto, item_tree, pieces_of}
use Rattle.walk_take.specs.Taking.{in_window, ahead}
use Rattle.walk_judge.specs.declared.Answer.{Answer}
use Rattle.walk_judge.specs.declared.Said.{Said}
use Rattle.walk_judge.specs.declared.Fed.{Fed}
use Rattle.std.specs.Prelude as Std
use Rattle.layouts.specs.declared.Refusal.{Refusal}
use Rattle.std.specs.Prelude.{Ok, Err}

-- ---- an answer: what is said, and beside it the numbers and the counts
abbrev pub gathered : (numbers counts : List ℕ) → (present : Bool) → (entries payload : ℕ) → Record
gathered ns cs b n p = record { numbers = ns; counts = cs; present = b; entries = n; payload = p }

abbrev pub answer_of : Std.Result Said Refusal → (numbers counts : List ℕ) → Answer
answer_of (Ok k) ns cs = record { outcome = (Ok tt); kind = k.kind; ends = k.ends; ends2 = k.ends2; found = gathered ns cs k.present k.entries k.payload }
answer_of (Err r) ns cs = record { outcome = Err r; kind = 0; ends = 0; ends2 = 0; found = gathered ns cs false 0 0 }

-- a refusal says only number, place and stream
abbrev pub answer_as : Result L.Answer → Answer
answer_as (ok x) = record { outcome = (Ok tt); kind = x.kind; ends = x.ends; ends2 = x.ends2; found = x.found }
answer_as (refused which place stream) = record { outcome = Err (refusal which place stream); kind = 0; ends = 0; ends2 = 0; found = blank }

abbrev pub ended_as : Result Ended → Result L.Answer
ended_as o = onward o (λ e. ok (record { kind = 0; ends = e.ends; ends2 = 0; found = e.found }))

-- the layout that begins at a place, with the record so far
abbrev pub judged_as : (layout : ℕ) → List ℕ → (from slots room : ℕ) → Record → Answer
judged_as l s from slots room x = answer_as (ended_as (judge_of s slots room x (pieces_of l s from)))

-- ---- the window of the first entries; on a refusal it is empty
abbrev pub window_after : Std.Result Said Refusal → (window : List ℕ) → (n : ℕ) → (entries : List ℕ) → List ℕ
window_after (Ok k) w n es = in_window w n es
window_after (Err r) w n es = replicate 16 0

-- ---- an item: what follows it is judged with the entries and the payload then, and with a number in its target
abbrev pub fed_to : List ℕ → (slots room : ℕ) → Version → Record → Item → Std.Result Fed Refusal → Result Ended
fed_to s slots room ver x f (Ok k) = judge_of s slots room (noted (with_payload (with_entries x k.entries) k.payload) (target_of k.target) k.value) (run (onto ver f k.reps tt) s k.at)
fed_to s slots room ver x f (Err r) = refused_by r

abbrev pub fed_in : List ℕ → (window : List ℕ) → (whole : List ℕ) → Version → Item → Std.Result Fed Refusal → Type 0
fed_in s w es ver f (Ok k) = es ≡ ahead w k.entries (run (onto ver f k.reps tt) s k.at)
fed_in s w es ver f (Err r) = Unit {0}

pub record Feeds (s : List ℕ) (slots room at n p : ℕ) (f : Item) (w w' : List ℕ) (r : Std.Result Fed Refusal) : Type 0 where
  pub judges : (ver : Version) (x : Record) → x.entries ≡ n → x.payload ≡ p → judge_of s slots room x (run (item_tree ver f) s at) ≡ fed_to s slots room ver x f r
  pub keeps : (ver : Version) → fed_in s w' (ahead w n (run (item_tree ver f) s at)) ver f r

abbrev pub FedTook : List ℕ → (at : ℕ) → Std.Result Fed Refusal → Type 0
FedTook s at (Ok k) = (at + 8 ≤ k.at) × (at + 8 ≤ length s)
FedTook s at (Err r) = Unit {0}
