-- A talk that is judged turn by turn, with the entries that each turn keeps: what is left of it, judged so, makes the whole.
use Prim.Native.Nat.{ℕ, ◌+◌, ◌-◌, ◌*◌, ◌≤◌}
use mathlib.Core.Path.{◌≡◌, refl, sym, ◌∙◌, ap}
use mathlib.Core.List.{List, [], ◌∷◌, ◌++◌, append-nil}
use mathlib.Core.Bool.{Bool, true, false}
use native.Mathlib.Omega.{arith}
use native.Mathlib.Decide.{dec_le}
use lib.Dec.{eqb}
use lib.ListN.{length, set, take}
use lib.Seq.{sets, take_all, take-append-le, take-append-add}
use Rattle.layouts.specs.declared.Record.{Record}
use Rattle.layouts.specs.declared.Refusal.{Refusal}
use Rattle.layouts.specs.Primitive.{pick, Version, from_wire, Result, ok, refused, onward}
use Rattle.layouts.specs.Refusal.{refused_by}
use Rattle.layouts.specs.Shape.{Tree}
use Rattle.layouts.specs.Pieces.{Pieces, run, skip_of}
use Rattle.layouts.specs.Record.{record_of, with_number, with_count, with_entries}
use Rattle.layouts.specs.Judge.{Ended, judge_of, entries_of}
use Rattle.layouts.specs.Stderr.{Last}
use Rattle.layouts.specs.Handshake.{stream_of, Talk, turn, lost, over, Heard, heard, if_ends, hear, Both}
use Rattle.layouts.specs.Handshake.{on_stream, judge_heard, heard_entries, number_in, fields_at, hello, feature_fields, info_fields, lastly, daemon_info, handshake_answer}
use Rattle.layouts.specs.Demands.{Read}
use Rattle.layouts.proofs.Judge.{judge_read, record_room, entries_length}
use Rattle.table.specs.Table.{version_in}
use Rattle.walk_items.specs.Items.{layout_tree}
use Rattle.walk_take.specs.Taking.{in_window, ahead}
use Rattle.walk_take.proofs.Pieces.{nothing_in}
use Rattle.walk_judge.specs.declared.Answer.{Answer}
use Rattle.walk_judge.specs.Judged.{gathered, answer_of, answer_as}
use Rattle.walk_judge.proofs.Answers.{answer_refused}
use Rattle.walk_rooms.proofs.Laws.{sets_join}
use Rattle.walk_fill.specs.There.{run_there, pieces_there}
use Rattle.walk_fill.proofs.There.{all_there}
use Rattle.handshake.specs.Turns.{hello_to, features_to, JudgesFeatures, info_to, info_in, told_of, met_at, heard_from, judge_talk, answer_talk, entries_talk, reported, Greets}
use Rattle.handshake.proofs.Quiet.{Quiet, hello_quiet}
use Rattle.walk_judge.specs.declared.Said.{Said}
use Rattle.handshake.specs.declared.Hello.{Hello}
use Rattle.handshake.specs.declared.Features.{Features}
use Rattle.handshake.specs.declared.Info.{Info}
use Rattle.std.specs.Prelude as Std
use Rattle.std.specs.Prelude.{Ok, Err}

-- ---- the window: some entries, then others
window_join : (w : List ℕ) (n : ℕ) (es : List ℕ) (m : ℕ) (fs : List ℕ) → 2 * n + length es ≡ 2 * m → in_window (in_window w n es) m fs ≡ in_window w n (es ++ fs)
window_join w n es m fs e = by (dec_le (length es) (16 - 2 * n))
  where
    by : Dec (length es ≤ 16 - 2 * n) → in_window (in_window w n es) m fs ≡ in_window w n (es ++ fs)
    by (yes h) =
        let a : take (16 - 2 * n) es ≡ es = take_all (16 - 2 * n) es h in
        let b : 16 - 2 * n ≡ length es + (16 - 2 * m) = omega arith in
        ap (λ (x : List ℕ). sets (sets w (2 * n) x) (2 * m) (take (16 - 2 * m) fs)) a
        ∙ ap (λ (i : ℕ). sets (sets w (2 * n) es) i (take (16 - 2 * m) fs)) (sym e)
        ∙ sym (ap (λ (i : ℕ). sets w (2 * n) (take i (es ++ fs))) b ∙ ap (sets w (2 * n)) (take-append-add es fs (16 - 2 * m)) ∙ sets_join w (2 * n) es (take (16 - 2 * m) fs))
    by (no h) =
        let a : 16 - 2 * m ≡ 0 = omega arith in
        ap (λ (i : ℕ). sets (in_window w n es) (2 * m) (take i fs)) a ∙ ap (sets w (2 * n)) (sym (take-append-le (16 - 2 * n) es fs (omega arith)))

-- ---- one turn
abbrev place_on : Bool → Both → ℕ
place_on d x = pick d x.daemon_ends x.client_ends

abbrev moved_on : Bool → Both → Ended → Both
moved_on d x e = record { found = e.found; client_ends = pick d x.client_ends e.ends; daemon_ends = pick d e.ends x.daemon_ends }

module _ (s u : List ℕ) (slots : ℕ) (d : Bool) (t : Tree) (k : Record → ℕ → Talk) (x : Both) where
  -- the stream of the turn
  abbrev on : List ℕ
  on = pick d u s

  abbrev these : Pieces
  these = run t on (place_on d x)

  abbrev judged : Result Ended
  judged = judge_of on slots 0 x.found these

  abbrev next : Record → ℕ → Heard
  next r e = heard_from s u slots (k r e) (moved_on d x (record { found = r; ends = e }))

  abbrev rest : Heard
  rest = if_ends d (skip_of these) (next (record_of x.found these))

  heard_turn : heard_from s u slots (turn d t k) x ≡ heard d these rest
  unfolding hear
  heard_turn = by d
    where
      by : (d : Bool) → heard_from s u slots (turn d t k) x
          ≡ heard d (run t (pick d u s) (place_on d x))
          (if_ends d (skip_of (run t (pick d u s) (place_on d x)))
          (λ e. heard_from s u slots (k (record_of x.found (run t (pick d u s) (place_on d x))) e)
          (moved_on d x (record { found = record_of x.found (run t (pick d u s) (place_on d x)); ends = e }))))
      by false = refl
      by true = refl

  talk_by : (o : Result Ended) → judged ≡ o → judge_talk s u slots (turn d t k) x ≡ onward (on_stream d o) (λ e. judge_heard s u slots e.found rest)
  unfolding judge_talk judge_heard
  talk_by o j = ap (judge_heard s u slots x.found) heard_turn ∙ ap (λ (o : Result Ended). onward (on_stream d o) (λ e. judge_heard s u slots e.found rest)) j

  talk_refused : (r : Refusal) → judged ≡ refused_by r → judge_talk s u slots (turn d t k) x ≡ refused r.which r.place (stream_of d)
  talk_refused r j = talk_by (refused_by r) j

  module _ (e : Ended) (j : judged ≡ ok e) where
    read : Read slots 0 x.found these e
    read = judge_read on slots 0 x.found these e j

    abbrev then : Talk
    then = k e.found e.ends

    abbrev now# : Both
    now# = moved_on d x e

    next_heard : rest ≡ heard_from s u slots then now#
    next_heard = ap (λ (o : Result ℕ). if_ends d o (next (record_of x.found these))) read.skips ∙ ap (λ (r : Record). next r e.ends) (sym read.holds)

    talk_on : judge_talk s u slots (turn d t k) x ≡ judge_talk s u slots then now#
    unfolding judge_talk
    talk_on = talk_by (ok e) j ∙ ap (judge_heard s u slots e.found) next_heard

    entries_on : entries_talk s u slots (turn d t k) x ≡ entries_of these ++ entries_talk s u slots then now#
    unfolding entries_talk heard_entries
    entries_on = ap heard_entries heard_turn ∙ ap (λ (h : Heard). entries_of these ++ heard_entries h) next_heard

    counted_on : 2 * x.found.entries + length (entries_of these) ≡ 2 * e.found.entries
    counted_on =
        let n = entries_length these in
        let m = ap (λ (r : Record). r.entries) read.holds ∙ (record_room x.found these).0 in
        omega arith

    -- by the layout that the filler goes through
    there_on : (l : ℕ) → t ≡ layout_tree l → entries_of (pieces_there l on (place_on d x)) ≡ entries_of these
    there_on l q = ap (λ (z : Tree). entries_of (run_there z on (place_on d x))) (sym q) ∙ ap entries_of (all_there on t (place_on d x) e.ends read.skips)

-- ---- what is reported of an answer
report : {A : Type 0} (o : Result A) (f : List ℕ → List ℕ) (a b : List ℕ) → reported o a ≡ reported o b → reported o (f a) ≡ reported o (f b)
report (ok x) f a b e = ap f e
report (refused which place stream) f a b e = refl

nothing_reported : {A : Type 0} (o : Result A) (which place stream : ℕ) → o ≡ refused which place stream → (a b : List ℕ) → reported o a ≡ reported o b
nothing_reported o which place stream e a b = ap (λ (p : Result _). reported p a) e ∙ sym (ap (λ (p : Result _). reported p b) e)

module _ (s u : List ℕ) (slots : ℕ) (given : ℕ → Version) where
  abbrev Left : Talk → Both → (w : List ℕ) → Std.Result Said Refusal → (ns cs kept w' : List ℕ) → Type 0
  Left = Greets s u slots given

  pub greets_as : (t t' : Talk) (x : Both) (w : List ℕ) (said : Std.Result Said Refusal) (ns cs kept w' : List ℕ) → t ≡ t' → Left t x w said ns cs kept w' → Left t' x w said ns cs kept w'
  greets_as t t' x w said ns cs kept w' e g = rw (← e) g

  answer_by : (t : Talk) (x : Both) (o : Result Both) → judge_talk s u slots t x ≡ o
      → answer_talk s u slots given t x ≡ onward o (λ y. handshake_answer (given (number_in y.found 1)) y)
  unfolding answer_talk
  answer_by t x o e = ap (λ (p : Result Both). onward p (λ y. handshake_answer (given (number_in y.found 1)) y)) e

  module _ (w : List ℕ) (said : Std.Result Said Refusal) (ns cs kept w' : List ℕ) where
    -- a refusal
    module _ (x : Both) (which place stream : ℕ) (h : answer_of said ns cs ≡ answer_as (refused which place stream)) where
      greets_refused : (t : Talk) → judge_talk s u slots t x ≡ refused which place stream → Left t x w said ns cs kept w'
      greets_refused t e =
          let same = answer_by t x (refused which place stream) e in
          record {
            answer = h ∙ ap answer_as (sym same);
            keeps = nothing_reported _ which place stream same kept _;
            window = nothing_reported _ which place stream same w' _;
          }

      pub greets_lost : Left (lost which place stream) x w said ns cs kept w'
      unfolding judge_talk judge_heard hear
      greets_lost = greets_refused (lost which place stream) refl

    -- a turn
    module _ (d : Bool) (t : Tree) (k : Record → ℕ → Talk) (x : Both) where
      abbrev of : Result Ended
      of = judge_of (pick d u s) slots 0 x.found (run t (pick d u s) (place_on d x))

      greets_stop : (r : Refusal) → of ≡ refused_by r → answer_of said ns cs ≡ answer_as (refused r.which r.place (stream_of d)) → Left (turn d t k) x w said ns cs kept w'
      greets_stop r j h = greets_refused x r.which r.place (stream_of d) h (turn d t k) (talk_refused s u slots d t k x r j)

      module _ (e : Ended) (j : of ≡ ok e) (es w1 : List ℕ) (p : es ≡ entries_of (run t (pick d u s) (place_on d x))) (q : w1 ≡ in_window w x.found.entries es)
          (g : Left (k e.found e.ends) (moved_on d x e) w1 said ns cs kept w') where
        greets_turn : Left (turn d t k) x w said ns cs (es ++ kept) w'
        greets_turn =
            let talk = turn d t k in
            let left = entries_talk s u slots (k e.found e.ends) (moved_on d x e) in
            let o = answer_talk s u slots given talk x in
            let same : answer_talk s u slots given (k e.found e.ends) (moved_on d x e) ≡ o =
            answer_by (k e.found e.ends) (moved_on d x e) _ (sym (talk_on s u slots d t k x e j)) ∙ sym (answer_by talk x _ refl) in
            let all : es ++ left ≡ entries_talk s u slots talk x = ap (λ (z : List ℕ). z ++ left) p ∙ sym (entries_on s u slots d t k x e j) in
            let size : 2 * x.found.entries + length es ≡ 2 * e.found.entries = ap (λ (z : List ℕ). 2 * x.found.entries + length z) p ∙ counted_on s u slots d t k x e j in
            record {
              answer = g.answer ∙ ap answer_as same;
              keeps = report o (λ z. es ++ z) kept left (rw same at g.keeps) ∙ ap (reported o) all;
              window =
                  rw same at g.window ∙ ap (λ (z : List ℕ). reported o (in_window z e.found.entries left)) q
                  ∙ ap (reported o) (window_join w x.found.entries es e.found.entries left size ∙ ap (in_window w x.found.entries) all);
            }

    -- one that keeps nothing
    greets_quiet : (d : Bool) (t : Tree) → Quiet t → (k : Record → ℕ → Talk) (x : Both) (e : Ended) → judge_of (pick d u s) slots 0 x.found (run t (pick d u s) (place_on d x)) ≡ ok e
        → Left (k e.found e.ends) (moved_on d x e) w said ns cs kept w' → Left (turn d t k) x w said ns cs kept w'
    greets_quiet d t f k x e j g = greets_turn d t k x e j [] w (sym (f (pick d u s) (place_on d x))) (sym (nothing_in w x.found.entries)) g

    -- ---- a hello
    module _ (d : Bool) (i j : ℕ) (k : Record → ℕ → Talk) (x : Both) (start : place_on d x ≡ 0) where
      abbrev Hears : Std.Result Hello Refusal → Type 0
      Hears r = (slots : ℕ) (x : Record) (i j : ℕ) → judge_of (pick d u s) slots 0 x (run (hello i j) (pick d u s) 0) ≡ hello_to x i j r

      heard_hello : (r : Std.Result Hello Refusal) → Hears r → judge_of (pick d u s) slots 0 x.found (run (hello i j) (pick d u s) (place_on d x)) ≡ hello_to x.found i j r
      heard_hello r law = ap (λ (n : ℕ). judge_of (pick d u s) slots 0 x.found (run (hello i j) (pick d u s) n)) start ∙ law slots x.found i j

      pub hello_stops : (y : Refusal) → Hears (Err y) → answer_of said ns cs ≡ answer_as (refused y.which y.place (stream_of d)) → Left (turn d (hello i j) k) x w said ns cs kept w'
      hello_stops y law h = greets_stop d (hello i j) k x y (heard_hello (Err y) law) h

      module _ (h : Hello) (law : Hears (Ok h)) where
        abbrev known : Record
        known = with_number (with_number x.found i h.magic) j h.wire

        pub hello_goes : Left (k known 16) (moved_on d x (record { found = known; ends = 16 })) w said ns cs kept w' → Left (turn d (hello i j) k) x w said ns cs kept w'
        hello_goes g = greets_quiet d (hello i j) (hello_quiet i j) k x (record { found = known; ends = 16 }) (heard_hello (Ok h) law) g

    -- ---- features
    module _ (d : Bool) (i v : ℕ) (k : Talk) (x : Both) (w1 : List ℕ) (unset : set x.found.counts i 0 ≡ x.found.counts) where
      abbrev features# : Tree
      features# = fields_at (version_in v) (feature_fields i)

      abbrev Judges : Std.Result Features Refusal → Type 0
      Judges r = JudgesFeatures (pick d u s) slots (place_on d x) v x.found.entries w w1 r

      judged_features : (r : Std.Result Features Refusal) → Judges r → judge_of (pick d u s) slots 0 x.found (run features# (pick d u s) (place_on d x)) ≡ features_to x.found i r
      judged_features r law = law.0 i x.found refl unset

      pub features_stop : (y : Refusal) → Judges (Err y) → answer_of said ns cs ≡ answer_as (refused y.which y.place (stream_of d)) → Left (turn d features# (λ r e. k)) x w said ns cs kept w'
      features_stop y law h = greets_stop d features# (λ r e. k) x y (judged_features (Err y) law) h

      module _ (f : Features) (law : Judges (Ok f)) where
        abbrev counted : Ended
        counted = record { found = with_entries (with_count x.found i f.count) f.entries; ends = f.at }

        features_on : (es : List ℕ) → es ≡ entries_of (run features# (pick d u s) (place_on d x)) → Left k (moved_on d x counted) w1 said ns cs kept w'
            → Left (turn d features# (λ r e. k)) x w said ns cs (es ++ kept) w'
        features_on es there g = greets_turn d features# (λ r e. k) x counted (judged_features (Ok f) law) es w1 there (law.1 i ∙ ap (in_window w x.found.entries) (sym there)) g

        pub features_go : (l : ℕ) → features# ≡ layout_tree l → Left k (moved_on d x counted) w1 said ns cs kept w'
            → Left (turn d features# (λ r e. k)) x w said ns cs (entries_of (pieces_there l (pick d u s) (place_on d x)) ++ kept) w'
        features_go l tree g = features_on _ (there_on s u slots d features# (λ r e. k) x counted (judged_features (Ok f) law) l tree) g

        -- where it is refused later
        pub features_past : (y : Refusal) → answer_of said ns cs ≡ answer_as (refused_by y) → Left k (moved_on d x counted) w1 said ns cs kept w'
            → Left (turn d features# (λ r e. k)) x w said ns cs kept w'
        features_past y h g =
            let all = features_on (entries_of (run features# (pick d u s) (place_on d x))) refl g in
            let o = answer_refused (answer_of said ns cs) (answer_talk s u slots given (turn d features# (λ r e. k)) x) y all.answer (ap (λ (a : Answer). a.outcome) h) in
            record {
              answer = all.answer;
              keeps = nothing_reported _ y.which y.place y.stream o kept _;
              window = nothing_reported _ y.which y.place y.stream o w' _;
            }

    -- ---- obsolete numbers
    module _ (d : Bool) (t : Tree) (quiet : Quiet t) (k : Talk) (x : Both) where
      pub passed_stop : (y : Refusal) → judge_of (pick d u s) slots 0 x.found (run t (pick d u s) (place_on d x)) ≡ refused_by y
          → answer_of said ns cs ≡ answer_as (refused y.which y.place (stream_of d)) → Left (turn d t (λ r e. k)) x w said ns cs kept w'
      passed_stop y law h = greets_stop d t (λ r e. k) x y law h

      pub passed_go : (at : ℕ) → judge_of (pick d u s) slots 0 x.found (run t (pick d u s) (place_on d x)) ≡ ok (record { found = x.found; ends = at })
          → Left k (moved_on d x (record { found = x.found; ends = at })) w said ns cs kept w' → Left (turn d t (λ r e. k)) x w said ns cs kept w'
      passed_go at law g = greets_quiet d t quiet (λ r e. k) x (record { found = x.found; ends = at }) law g

-- ---- the daemon's last turn: what is told of it
module _ (s u : List ℕ) (slots : ℕ) (given : ℕ → Version) (m1 w1 m2 w2 a b ends : ℕ) where
  abbrev ended : (n at trust last : ℕ) → Both
  ended n at trust last =
      record {
        found = gathered (m1 ∷ w1 ∷ m2 ∷ w2 ∷ trust ∷ last ∷ 0 ∷ 0 ∷ 0 ∷ 0 ∷ 0 ∷ 0 ∷ []) (a ∷ b ∷ 0 ∷ []) false n 0;
        client_ends = ends;
        daemon_ends = at;
      }

  module _ (n at trust last : ℕ) where
    abbrev last_of : Bool → Talk
    last_of t = pick t over (lost 8 (at - 8) 1)

    last_told : answer_talk s u slots given (lastly (ended n at trust last).found at) (ended n at trust last) ≡ told_of (given w1) (from_wire w2) a b ends (Ok (record { at = at; entries = n; trust = trust; last = last }))
    unfolding answer_talk judge_talk judge_heard hear
    last_told = by (eqb last Last)
      where
        by : (t : Bool) → answer_talk s u slots given (last_of t) (ended n at trust last) ≡ pick t (told_of (given w1) (from_wire w2) a b ends (Ok (record { at = at; entries = n; trust = trust; last = Last }))) (refused 8 (at - 8) 1)
        by true = refl
        by false = refl

    last_quiet : entries_talk s u slots (lastly (ended n at trust last).found at) (ended n at trust last) ≡ []
    unfolding entries_talk heard_entries hear
    last_quiet = by (eqb last Last)
      where
        by : (t : Bool) → entries_talk s u slots (last_of t) (ended n at trust last) ≡ []
        by true = refl
        by false = refl

  module _ (c d v n at : ℕ) (w : List ℕ) (said : Std.Result Said Refusal) (ns cs w' : List ℕ) (l : ℕ) (tree : fields_at (version_in v) info_fields ≡ layout_tree l)
      (fc : version_in c ≡ given w1) (fd : version_in d ≡ from_wire w2) where
    abbrev met : Both
    met = met_at m1 w1 m2 w2 a b n ends at

    abbrev info# : Tree
    info# = fields_at (version_in v) info_fields

    abbrev Told : Talk → List ℕ → Type 0
    Told t kept = Greets s u slots given t met w said ns cs kept w'

    informed : (i : Std.Result Info Refusal) → judge_of u slots 0 met.found (run info# u at) ≡ info_to met.found i → info_in w' (ahead w n (run info# u at)) i
        → answer_of said ns cs ≡ answer_as (told_of (given w1) (from_wire w2) a b ends i) → Told (turn true info# (λ r e. lastly r e)) (entries_of (pieces_there l u at))
    informed (Err r) law keep h = greets_stop s u slots given w said ns cs _ w' true info# (λ r e. lastly r e) met r law h
    informed (Ok k) law keep h =
        let y = ended k.entries k.at k.trust k.last in
        let there = there_on s u slots true info# (λ r e. lastly r e) met (record { found = y.found; ends = k.at }) law l tree in
        let es = entries_of (pieces_there l u at) in
        let o = answer_talk s u slots given (lastly y.found k.at) y in
        let q = last_quiet k.entries k.at k.trust k.last in
        let g : Greets s u slots given (lastly y.found k.at) y w' said ns cs [] w' =
        record {
          answer = h ∙ ap answer_as (sym (last_told k.entries k.at k.trust k.last));
          keeps = ap (reported o) (sym q);
          window = ap (reported o) (sym (ap (in_window w' k.entries) q ∙ nothing_in w' k.entries));
        } in
        rw (append-nil es) at
        (greets_turn s u slots given w said ns cs [] w' true info# (λ r e. lastly r e) met (record { found = y.found; ends = k.at }) law es w' there (keep ∙ ap (in_window w n) (sym there)) g)

    pub greets_told : (i : Std.Result Info Refusal) → ((x : Record) → x.entries ≡ n → set x.numbers 4 0 ≡ x.numbers → judge_of u slots 0 x (run info# u at) ≡ info_to x i)
        → info_in w' (ahead w n (run info# u at)) i → answer_of said ns cs ≡ answer_as (told_of (version_in c) (version_in d) a b ends i) → Told (daemon_info (version_in v)) (entries_of (pieces_there l u at))
    unfolding daemon_info
    greets_told i law keep h =
        informed i (law met.found refl refl) keep
        (h ∙ ap (λ (y : Version). answer_as (told_of y (version_in d) a b ends i)) fc ∙ ap (λ (y : Version). answer_as (told_of (given w1) y a b ends i)) fd)
