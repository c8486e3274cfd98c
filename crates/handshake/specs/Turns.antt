-- What a turn of the code makes of the record so far; and a talk that is still to come.
use Rattle.std.specs.Prelude.{ℕ, ◌-◌, ◌≡◌, List, [], ◌∷◌, false, set, eqb}
use Rattle.layouts.specs.declared.Record.{Record}
use Rattle.layouts.specs.Primitive.{pick, Version, not_last, Result, ok, refused, onward}
use Rattle.layouts.specs.Refusal.{refused_by}
use Rattle.layouts.specs.Shape.{Tree}
use Rattle.layouts.specs.Pieces.{run}
use Rattle.layouts.specs.Record.{blank, with_number, with_count, with_entries}
use Rattle.layouts.specs.Judge.{Ended, judge_of}
use Rattle.layouts.specs.Calls as L
use Rattle.layouts.specs.Stderr.{Last}
use Rattle.layouts.specs.Handshake.{Talk, Heard, hear, Both, judge_heard, heard_entries, number_in, fields_at, feature_fields, info_fields, versions, handshake_answer}
use Rattle.table.specs.Table.{version_in}
use Rattle.walk_take.specs.Taking.{in_window, ahead}
use Rattle.walk_judge.specs.Judged.{gathered, answer_of, answer_as}
use Rattle.walk_judge.specs.declared.Said.{Said}
use Rattle.handshake.specs.declared.Hello.{Hello}
use Rattle.handshake.specs.declared.Features.{Features}
use Rattle.handshake.specs.declared.Trust.{Trust}
use Rattle.handshake.specs.declared.Info.{Info}
use Rattle.std.specs.Prelude as Std
use Rattle.layouts.specs.declared.Refusal.{Refusal}
use Rattle.std.specs.Prelude.{Ok, Err}

-- ---- one turn, with the record x so far
abbrev pub hello_to : Record → (i j : ℕ) → Std.Result Hello Refusal → Result Ended
hello_to x i j (Ok k) = ok (record { found = with_number (with_number x i k.magic) j k.wire; ends = 16 })
hello_to x i j (Err r) = refused_by r

abbrev pub features_to : Record → (i : ℕ) → Std.Result Features Refusal → Result Ended
features_to x i (Ok k) = ok (record { found = with_entries (with_count x i k.count) k.entries; ends = k.at })
features_to x i (Err r) = refused_by r

abbrev pub info_to : Record → Std.Result Info Refusal → Result Ended
info_to x (Ok k) = ok (record { found = with_number (with_number (with_entries x k.entries) 4 k.trust) 5 k.last; ends = k.at })
info_to x (Err r) = refused_by r

-- the window afterwards, unless it was refused
abbrev pub features_in : (window wanted : List ℕ) → Std.Result Features Refusal → Type 0
features_in w es (Ok k) = w ≡ es
features_in w es (Err r) = Unit {0}

abbrev pub info_in : (window wanted : List ℕ) → Std.Result Info Refusal → Type 0
info_in w es (Ok k) = w ≡ es
info_in w es (Err r) = Unit {0}

-- features, and the daemon's last turn, with n entries before: a count and trust that are not there stay 0
abbrev pub JudgesFeatures : List ℕ → (slots at v n : ℕ) → (w w' : List ℕ) → Std.Result Features Refusal → Type 0
JudgesFeatures s slots at v n w w' r =
    ((i : ℕ) (x : Record) → x.entries ≡ n → set x.counts i 0 ≡ x.counts → judge_of s slots 0 x (run (fields_at (version_in v) (feature_fields i)) s at) ≡ features_to x i r)
    × ((i : ℕ) → features_in w' (ahead w n (run (fields_at (version_in v) (feature_fields i)) s at)) r)

abbrev pub JudgesInfo : List ℕ → (slots at v n : ℕ) → (w w' : List ℕ) → Std.Result Info Refusal → Type 0
JudgesInfo s slots at v n w w' r =
    ((x : Record) → x.entries ≡ n → set x.numbers 4 0 ≡ x.numbers → judge_of s slots 0 x (run (fields_at (version_in v) info_fields) s at) ≡ info_to x r)
    × info_in w' (ahead w n (run (fields_at (version_in v) info_fields) s at)) r

-- ---- a part of a turn: what follows it is judged from there
abbrev pub place_to : List ℕ → (slots : ℕ) → Record → (Unit {0} → Tree) → Std.Result ℕ Refusal → Result Ended
place_to s slots x k (Ok at) = judge_of s slots 0 x (run (k tt) s at)
place_to s slots x k (Err r) = refused_by r

abbrev pub Passed : List ℕ → (at : ℕ) → ((Unit {0} → Tree) → Tree) → Std.Result ℕ Refusal → Type 0
Passed s at t r = (slots : ℕ) (k : Unit {0} → Tree) (x : Record) → judge_of s slots 0 x (run (t k) s at) ≡ place_to s slots x k r

abbrev pub trust_to : List ℕ → (slots : ℕ) → Record → (Unit {0} → Tree) → Std.Result Trust Refusal → Result Ended
trust_to s slots x k (Ok y) = judge_of s slots 0 (with_number x 4 y.trust) (run (k tt) s y.at)
trust_to s slots x k (Err r) = refused_by r

-- what is answered after the daemon's last turn, where a and b features were there and the client's stream ends at a place
abbrev pub told_fine : (c d : Version) → (a b ends at n trust : ℕ) → L.Answer
told_fine c d a b ends at n trust = record { kind = 0; ends = ends; ends2 = at; found = gathered (versions c d trust) (a ∷ b ∷ 0 ∷ []) false n 0 }

abbrev pub told_of : (c d : Version) → (a b ends : ℕ) → Std.Result Info Refusal → Result L.Answer
told_of c d a b ends (Ok k) = pick (eqb k.last Last) (ok (told_fine c d a b ends k.at k.entries k.trust)) (refused not_last (k.at - 8) 1)
told_of c d a b ends (Err r) = refused r.which r.place 1

-- ---- what both streams have said so far
abbrev pub start : Both
start = record { found = blank; client_ends = 0; daemon_ends = 0 }

-- after both hellos: their numbers, how many features each side has, the entries, the place on each stream
abbrev pub met_at : (m1 w1 m2 w2 a b n at at2 : ℕ) → Both
met_at m1 w1 m2 w2 a b n at at2 =
    record { found = gathered (m1 ∷ w1 ∷ m2 ∷ w2 ∷ 0 ∷ 0 ∷ 0 ∷ 0 ∷ 0 ∷ 0 ∷ 0 ∷ 0 ∷ []) (a ∷ b ∷ 0 ∷ []) false n 0; client_ends = at; daemon_ends = at2 }

-- ---- a talk that is still to come on the streams s and u
module _ (s u : List ℕ) (slots : ℕ) where
  abbrev pub heard_from : Talk → Both → Heard
  heard_from t x = hear t s u x.client_ends x.daemon_ends x.found

  unfoldable pub judge_talk : Talk → Both → Result Both
  judge_talk t x = judge_heard s u slots x.found (heard_from t x)

  -- the client's version is told by its number on the wire, or given
  unfoldable pub answer_talk : (ℕ → Version) → Talk → Both → Result L.Answer
  answer_talk given t x = onward (judge_talk t x) (λ y. handshake_answer (given (number_in y.found 1)) y)

  unfoldable pub entries_talk : Talk → Both → List ℕ
  entries_talk t x = heard_entries (heard_from t x)

abbrev pub reported : {A : Type 0} → Result A → List ℕ → List ℕ
reported (ok a) es = es
reported (refused which place stream) es = []

-- all of a talk was judged so: the answer; and where all is fine, the entries that are to be filled in, and the window
pub record Greets (s u : List ℕ) (slots : ℕ) (given : ℕ → Version) (t : Talk) (x : Both) (w : List ℕ) (said : Std.Result Said Refusal) (ns cs kept w' : List ℕ) : Type 0 where
  pub answer : answer_of said ns cs ≡ answer_as (answer_talk s u slots given t x)
  pub keeps : reported (answer_talk s u slots given t x) kept ≡ reported (answer_talk s u slots given t x) (entries_talk s u slots t x)
  pub window : reported (answer_talk s u slots given t x) w' ≡ reported (answer_talk s u slots given t x) (in_window w x.found.entries (entries_talk s u slots t x))
