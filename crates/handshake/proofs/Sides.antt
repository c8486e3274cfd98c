-- Both handshakes, from their last turn to their first.
use Prim.Native.Nat.{ℕ, ◌%◌}
use mathlib.Core.Path.{◌≡◌, refl, sym, ◌∙◌, ap}
use mathlib.Core.List.{List, [], ◌++◌}
use mathlib.Core.Bool.{Bool, true, false}
use lib.Dec.{eqb, leb}
use borrow.Author.Tests.{eq-eqb, ne_eqb}
use Rattle.layouts.specs.declared.Record.{Record}
use Rattle.layouts.specs.declared.Refusal.{Refusal}
use Rattle.layouts.specs.Primitive.{pick, Version, from_wire, smaller, Result, ok, refused}
use Rattle.layouts.specs.Refusal.{plain}
use Rattle.layouts.specs.Shape.{num, dropped, maybe, Tree, stop, gated, layout, groups}
use Rattle.layouts.specs.Pieces.{run}
use Rattle.layouts.specs.Judge.{Ended, judge_of, entries_of}
use Rattle.layouts.specs.Handshake.{Talk, turn, lost, Both, fields_at, hello, feature_fields, obsolete_fields}
use Rattle.layouts.specs.Handshake.{info_fields, client_magic, daemon_magic, daemon_info, greeting, handshake, daemon_greeting, daemon_handshake}
use Rattle.table.specs.Packed.{features_client, features_daemon, info, nothing}
use Rattle.table.specs.Table.{groups_at, version_in}
use Rattle.table.specs.Claims.{others}
use Rattle.walk_items.specs.Items.{version_of, first_of, layout_tree}
use Rattle.walk_items.proofs.Trees as Trees
use Rattle.walk_fill.specs.There.{run_there, pieces_there}
use Rattle.walk_judge.specs.Judged.{answer_of, answer_as}
use Rattle.handshake.specs.Turns.{hello_to, JudgesFeatures, place_to, Passed, JudgesInfo, told_of, start, met_at, Greets}
use Rattle.handshake.proofs.Order.{smaller_in, wire_in}
use Rattle.handshake.proofs.Quiet.{Quiet, stop_quiet, num_quiet, maybe_quiet}
use Rattle.handshake.proofs.Turns.{obsolete_tree}
use Rattle.handshake.proofs.Talk.{greets_as, greets_lost, hello_stops, hello_goes, features_stop, features_go, features_past, passed_stop, passed_go, greets_told}
use Rattle.walk_judge.specs.declared.Said.{Said}
use Rattle.handshake.specs.declared.Hello.{Hello}
use Rattle.handshake.specs.declared.Features.{Features}
use Rattle.handshake.specs.declared.Info.{Info}
use Rattle.std.specs.Prelude as Std
use Rattle.std.specs.Prelude.{Ok, Err}

-- ---- the layouts that the filler goes through
abbrev Of : (layout : ℕ) → Version → (first : ℕ) → Type 0
Of l v i = (version_of l ≡ v) × (first_of l ≡ i)

tree_of : (l : ℕ) (v : Version) (i : ℕ) → Of l v i → layout v (groups_at i) ≡ layout_tree l
tree_of l v i e = sym (Trees.tree_of l v i e)

offers_tree : (l : ℕ) (v : Version) → Of l v features_client → fields_at v (feature_fields 0) ≡ layout_tree l
offers_tree l v e = ap (layout v) others.client_features ∙ tree_of l v features_client e

features_tree : (l : ℕ) (v : Version) → Of l v features_daemon → fields_at v (feature_fields 1) ≡ layout_tree l
features_tree l v e = ap (layout v) others.daemon_features ∙ tree_of l v features_daemon e

info_tree : (l : ℕ) (v : Version) → Of l v info → fields_at v info_fields ≡ layout_tree l
info_tree l v e = ap (layout v) others.infos ∙ tree_of l v info e

nothing_there : (l : ℕ) (v : Version) → Of l v nothing → (s : List ℕ) (at : ℕ) → entries_of (pieces_there l s at) ≡ []
unfolding layout groups run_there entries_of
nothing_there l v e s at = ap (λ (t : Tree). entries_of (run_there t s at)) (sym (ap (layout v) others.none ∙ tree_of l v nothing e))

-- ---- obsolete numbers
obsolete_quiet : (v : ℕ) → Quiet (fields_at (version_in v) obsolete_fields)
obsolete_quiet v s at =
    ap (λ (t : Tree). entries_of (run t s at)) (obsolete_tree v)
    ∙ maybe_quiet (leb 270 v) (λ u. gated (leb 267 v) (num dropped) (λ u. stop)) (num_quiet (leb 267 v) dropped (λ u. stop) stop_quiet) s at

abbrev Obsolete : List ℕ → (at v : ℕ) → Std.Result ℕ Refusal → Type 0
Obsolete s at v r = Passed s at (λ k. gated (leb 270 v) maybe (λ u. gated (leb 267 v) (num dropped) k)) r

module _ (s : List ℕ) (at v slots : ℕ) (x : Record) where
  abbrev passed : Result Ended
  passed = judge_of s slots 0 x (run (fields_at (version_in v) obsolete_fields) s at)

  obsolete_law : (r : Std.Result ℕ Refusal) → Obsolete s at v r → passed ≡ place_to s slots x (λ u. stop) r
  obsolete_law r p = ap (λ (t : Tree). judge_of s slots 0 x (run t s at)) (obsolete_tree v) ∙ p slots (λ u. stop) x

  obsolete_past : (ends : ℕ) → Obsolete s at v (Ok ends) → passed ≡ ok (record { found = x; ends = ends })
  unfolding run judge_of
  obsolete_past ends p = obsolete_law (Ok ends) p

-- ---- what is told
abbrev Tells : (c d a b ends : ℕ) → Std.Result Info Refusal → Std.Result Said Refusal → (ns cs : List ℕ) → Type 0
Tells c d a b ends i said ns cs = answer_of said ns cs ≡ answer_as (told_of (version_in c) (version_in d) a b ends i)

abbrev Stops : Refusal → (stream : ℕ) → Std.Result Said Refusal → (ns cs : List ℕ) → Type 0
Stops r stream said ns cs = answer_of said ns cs ≡ answer_as (refused r.which r.place stream)

-- ---- both sides, after the magics
module _ (s u : List ℕ) (slots c d v : ℕ) (e : v ≡ pick (leb d c) d c) (w wf : List ℕ) (said : Std.Result Said Refusal) (ns cs : List ℕ) where
  abbrev Greeting : (kept w' : List ℕ) → Type 0
  Greeting kept w' = (m1 w1 m2 w2 : ℕ) → version_in c ≡ from_wire w1 → version_in d ≡ from_wire w2
      → Greets s u slots from_wire (greeting (smaller (from_wire w1) (from_wire w2))) (met_at m1 w1 m2 w2 0 0 0 16 16) w said ns cs kept w'

  abbrev then_info : Talk
  then_info = turn false (fields_at (version_in v) obsolete_fields) (λ r e. daemon_info (version_in v))

  abbrev then_features : Talk
  then_features = turn true (fields_at (version_in v) (feature_fields 1)) (λ r e. then_info)

  begun : (kept w' : List ℕ) → ((m1 w1 m2 w2 : ℕ) → version_in c ≡ from_wire w1 → version_in d ≡ from_wire w2
      → Greets s u slots from_wire (turn false (fields_at (version_in v) (feature_fields 0)) (λ r e. then_features)) (met_at m1 w1 m2 w2 0 0 0 16 16) w said ns cs kept w') → Greeting kept w'
  unfolding greeting
  begun kept w' g m1 w1 m2 w2 fc fd =
      greets_as s u slots from_wire (greeting (version_in v)) (greeting (smaller (from_wire w1) (from_wire w2))) _ w said ns cs kept w'
      (ap greeting (smaller_in c d v e ∙ ap (λ (x : Version). smaller x (version_in d)) fc ∙ ap (smaller (from_wire w1)) fd)) (g m1 w1 m2 w2 fc fd)

  pub offers_refused : (y : Refusal) → JudgesFeatures s slots 16 v 0 w wf (Err y) → Stops y 0 said ns cs → (kept : List ℕ) → Greeting kept wf
  offers_refused y l h kept =
      begun kept wf (λ m1 w1 m2 w2 fc fd. features_stop s u slots from_wire w said ns cs kept wf false 0 v then_features (met_at m1 w1 m2 w2 0 0 0 16 16) wf refl y l h)

  module _ (f : Features) (lf : JudgesFeatures s slots 16 v 0 w wf (Ok f)) (wg : List ℕ) where
    pub features_refused : (y : Refusal) → JudgesFeatures u slots 16 v f.entries wf wg (Err y) → Stops y 1 said ns cs → (kept : List ℕ) → Greeting kept wg
    features_refused y l h kept =
        begun kept wg (λ m1 w1 m2 w2 fc fd.
        features_past s u slots from_wire w said ns cs kept wg false 0 v then_features (met_at m1 w1 m2 w2 0 0 0 16 16) wf refl f lf (record { which = y.which; place = y.place; stream = 1 }) h
        (features_stop s u slots from_wire wf said ns cs kept wg true 1 v then_info (met_at m1 w1 m2 w2 f.count 0 f.entries f.at 16) wg refl y l h))

    module _ (g : Features) (lg : JudgesFeatures u slots 16 v f.entries wf wg (Ok g)) where
      pub obsolete_refused : (y : Refusal) → Obsolete s f.at v (Err y) → Stops y 0 said ns cs → (kept : List ℕ) → Greeting kept wg
      obsolete_refused y l h kept =
          begun kept wg (λ m1 w1 m2 w2 fc fd.
          let r : Refusal = record { which = y.which; place = y.place; stream = 0 } in
          let x = met_at m1 w1 m2 w2 f.count g.count g.entries f.at g.at in
          features_past s u slots from_wire w said ns cs kept wg false 0 v then_features (met_at m1 w1 m2 w2 0 0 0 16 16) wf refl f lf r h
          (features_past s u slots from_wire wf said ns cs kept wg true 1 v then_info (met_at m1 w1 m2 w2 f.count 0 f.entries f.at 16) wg refl g lg r h
          (passed_stop s u slots from_wire wg said ns cs kept wg false _ (obsolete_quiet v) (daemon_info (version_in v)) x y (obsolete_law s f.at v slots x.found (Err y) l) h)))

      pub both_told : (ends : ℕ) → Obsolete s f.at v (Ok ends) → (wi : List ℕ) (i : Std.Result Info Refusal) → JudgesInfo u slots g.at v g.entries wg wi i
          → Tells c d f.count g.count ends i said ns cs
          → (offers features infos : ℕ) → Of offers (version_in v) features_client → Of features (version_in v) features_daemon → Of infos (version_in v) info
          → Greeting (entries_of (pieces_there offers s 16) ++ (entries_of (pieces_there features u 16) ++ entries_of (pieces_there infos u g.at))) wi
      both_told ends l wi i li h offers features infos d1 d2 d3 =
          begun _ wi (λ m1 w1 m2 w2 fc fd.
          let x = met_at m1 w1 m2 w2 f.count g.count g.entries f.at g.at in
          features_go s u slots from_wire w said ns cs _ wi false 0 v then_features (met_at m1 w1 m2 w2 0 0 0 16 16) wf refl f lf offers (offers_tree offers (version_in v) d1)
          (features_go s u slots from_wire wf said ns cs _ wi true 1 v then_info (met_at m1 w1 m2 w2 f.count 0 f.entries f.at 16) wg refl g lg features (features_tree features (version_in v) d2)
          (passed_go s u slots from_wire wg said ns cs _ wi false _ (obsolete_quiet v) (daemon_info (version_in v)) x ends (obsolete_past s f.at v slots x.found ends l)
          (greets_told s u slots from_wire m1 w1 m2 w2 f.count g.count ends c d v g.entries g.at wg said ns cs wi infos (info_tree infos (version_in v) d3) fc fd i li.0 li.1 h))))

-- ---- both hellos, and the magics
abbrev Hears : List ℕ → Std.Result Hello Refusal → Type 0
Hears s r = (slots : ℕ) (x : Record) (i j : ℕ) → judge_of s slots 0 x (run (hello i j) s 0) ≡ hello_to x i j r

module _ (s u : List ℕ) (slots : ℕ) (w : List ℕ) (said : Std.Result Said Refusal) (ns cs kept w' : List ℕ) where
  abbrev Shaken : Type 0
  Shaken = Greets s u slots from_wire handshake start w said ns cs kept w'

  pub client_refused : (y : Refusal) → Hears s (Err y) → Stops y 0 said ns cs → Shaken
  unfolding handshake
  client_refused y l h = hello_stops s u slots from_wire w said ns cs kept w' false 0 1 _ start refl y l h

  module _ (a : Hello) (la : Hears s (Ok a)) where
    abbrev met1 : Both
    met1 = record { found = (met_at a.magic a.wire 0 0 0 0 0 0 0).found; client_ends = 16; daemon_ends = 0 }

    pub daemon_refused : (y : Refusal) → Hears u (Err y) → Stops y 1 said ns cs → Shaken
    unfolding handshake
    daemon_refused y l h =
        hello_goes s u slots from_wire w said ns cs kept w' false 0 1 _ start refl a la (hello_stops s u slots from_wire w said ns cs kept w' true 2 3 _ met1 refl y l h)

    module _ (b : Hello) (lb : Hears u (Ok b)) where
      abbrev magics_then : (x y : Bool) → Talk
      magics_then x y = pick x (pick y (greeting (smaller (from_wire a.wire) (from_wire b.wire))) (lost 7 0 1)) (lost 6 0 0)

      magics : Greets s u slots from_wire (magics_then (eqb a.magic client_magic) (eqb b.magic daemon_magic)) (met_at a.magic a.wire b.magic b.wire 0 0 0 16 16) w said ns cs kept w' → Shaken
      unfolding handshake
      magics g =
          hello_goes s u slots from_wire w said ns cs kept w' false 0 1 _ start refl a la (hello_goes s u slots from_wire w said ns cs kept w' true 2 3 _ met1 refl b lb g)

      module _ (x y : Bool) (ex : eqb a.magic client_magic ≡ x) (ey : eqb b.magic daemon_magic ≡ y) where
        tested : Greets s u slots from_wire (magics_then x y) (met_at a.magic a.wire b.magic b.wire 0 0 0 16 16) w said ns cs kept w' → Shaken
        tested g =
            magics (greets_as s u slots from_wire (magics_then x y) _ _ w said ns cs kept w' (sym (ap (λ (t : Bool). magics_then t (eqb b.magic daemon_magic)) ex ∙ ap (magics_then x) ey)) g)

      pub client_magic_lem : (a.magic ≡ 0x6e697863 → ⊥) → (r : Refusal) → r ≡ plain 6 0 → Stops r 0 said ns cs → Shaken
      client_magic_lem n r q h =
          tested false (eqb b.magic daemon_magic) (ne_eqb a.magic client_magic n) refl
          (greets_lost s u slots from_wire w said ns cs kept w' _ 6 0 0 (h ∙ ap (λ (y : Refusal). answer_as (refused y.which y.place 0)) q))

      pub daemon_magic_lem : a.magic ≡ 0x6e697863 → (b.magic ≡ 0x6478696f → ⊥) → (r : Refusal) → r ≡ plain 7 0 → Stops r 1 said ns cs → Shaken
      daemon_magic_lem e n r q h =
          tested true false (eq-eqb a.magic client_magic e) (ne_eqb b.magic daemon_magic n)
          (greets_lost s u slots from_wire w said ns cs kept w' _ 7 0 1 (h ∙ ap (λ (y : Refusal). answer_as (refused y.which y.place 1)) q))

      pub both_greeted : a.magic ≡ 0x6e697863 → b.magic ≡ 0x6478696f
          → ((m1' w1' m2' w2' : ℕ) → version_in (a.wire % 65536) ≡ from_wire w1' → version_in (b.wire % 65536) ≡ from_wire w2'
          → Greets s u slots from_wire (greeting (smaller (from_wire w1') (from_wire w2'))) (met_at m1' w1' m2' w2' 0 0 0 16 16) w said ns cs kept w') → Shaken
      both_greeted e n g =
          tested true true (eq-eqb a.magic client_magic e) (eq-eqb b.magic daemon_magic n) (g a.magic a.wire b.magic b.wire (wire_in a.wire (a.wire % 65536) refl) (wire_in b.wire (b.wire % 65536) refl))

-- ---- the daemon's side alone
module _ (u : List ℕ) (slots c d v : ℕ) (e : v ≡ pick (leb d c) d c) (w wg : List ℕ) (said : Std.Result Said Refusal) (ns cs : List ℕ) where
  abbrev GreetingAlone : (kept w' : List ℕ) → Type 0
  GreetingAlone kept w' = (m2 w2 : ℕ) → version_in d ≡ from_wire w2
      → Greets [] u slots (λ n. version_in c) (daemon_greeting (smaller (version_in c) (from_wire w2))) (met_at 0 0 m2 w2 0 0 0 0 16) w said ns cs kept w'

  begun_alone : (kept w' : List ℕ) → ((m2 w2 : ℕ) → version_in d ≡ from_wire w2
      → Greets [] u slots (λ n. version_in c) (turn true (fields_at (version_in v) (feature_fields 1)) (λ r e. daemon_info (version_in v))) (met_at 0 0 m2 w2 0 0 0 0 16) w said ns cs kept w')
      → GreetingAlone kept w'
  unfolding daemon_greeting
  begun_alone kept w' f m2 w2 fd =
      greets_as [] u slots (λ n. version_in c) (daemon_greeting (version_in v)) (daemon_greeting (smaller (version_in c) (from_wire w2))) _ w said ns cs kept w'
      (ap daemon_greeting (smaller_in c d v e ∙ ap (smaller (version_in c)) fd)) (f m2 w2 fd)

  pub alone_refused : (y : Refusal) → JudgesFeatures u slots 16 v 0 w wg (Err y) → Stops y 1 said ns cs → (kept : List ℕ) → GreetingAlone kept wg
  alone_refused y l h kept =
      begun_alone kept wg (λ m2 w2 fd.
      features_stop [] u slots (λ n. version_in c) w said ns cs kept wg true 1 v (daemon_info (version_in v)) (met_at 0 0 m2 w2 0 0 0 0 16) wg refl y l h)

  pub alone_told : (g : Features) → JudgesFeatures u slots 16 v 0 w wg (Ok g) → (wi : List ℕ) (i : Std.Result Info Refusal) → JudgesInfo u slots g.at v g.entries wg wi i → Tells c d 0 g.count 0 i said ns cs
      → (offers features infos : ℕ) → Of offers (version_in v) nothing → Of features (version_in v) features_daemon → Of infos (version_in v) info
      → (q : List ℕ) → GreetingAlone (entries_of (pieces_there offers q 16) ++ (entries_of (pieces_there features u 16) ++ entries_of (pieces_there infos u g.at))) wi
  alone_told g lg wi i li h offers features infos d1 d2 d3 q =
      rw (nothing_there offers (version_in v) d1 q 16)
      (begun_alone _ wi (λ m2 w2 fd.
      features_go [] u slots (λ n. version_in c) w said ns cs _ wi true 1 v (daemon_info (version_in v)) (met_at 0 0 m2 w2 0 0 0 0 16) wg refl g lg
      features (features_tree features (version_in v) d2)
      (greets_told [] u slots (λ n. version_in c) 0 0 m2 w2 0 g.count 0 c d v g.entries g.at wg said ns cs wi infos (info_tree infos (version_in v) d3) refl fd i li.0 li.1 h)))

module _ (u : List ℕ) (slots : ℕ) (c : Version) (w : List ℕ) (said : Std.Result Said Refusal) (ns cs kept w' : List ℕ) where
  abbrev ShakenAlone : Type 0
  ShakenAlone = Greets [] u slots (λ n. c) (daemon_handshake c) start w said ns cs kept w'

  pub hello_refused : (y : Refusal) → Hears u (Err y) → Stops y 1 said ns cs → ShakenAlone
  unfolding daemon_handshake
  hello_refused y l h = hello_stops [] u slots (λ n. c) w said ns cs kept w' true 2 3 _ start refl y l h

  module _ (b : Hello) (lb : Hears u (Ok b)) where
    abbrev magic_then : Bool → Talk
    magic_then y = pick y (daemon_greeting (smaller c (from_wire b.wire))) (lost 7 0 1)

    tested_alone : (y : Bool) → eqb b.magic daemon_magic ≡ y → Greets [] u slots (λ n. c) (magic_then y) (met_at 0 0 b.magic b.wire 0 0 0 0 16) w said ns cs kept w' → ShakenAlone
    unfolding daemon_handshake
    tested_alone y ey g =
        hello_goes [] u slots (λ n. c) w said ns cs kept w' true 2 3 _ start refl b lb (greets_as [] u slots (λ n. c) (magic_then y) _ _ w said ns cs kept w' (sym (ap magic_then ey)) g)

    pub magic_alone : (b.magic ≡ 0x6478696f → ⊥) → (r : Refusal) → r ≡ plain 7 0 → Stops r 1 said ns cs → ShakenAlone
    magic_alone n r q h =
        tested_alone false (ne_eqb b.magic daemon_magic n)
        (greets_lost [] u slots (λ n. c) w said ns cs kept w' _ 7 0 1 (h ∙ ap (λ (y : Refusal). answer_as (refused y.which y.place 1)) q))

    pub greeted_alone : b.magic ≡ 0x6478696f → (d : ℕ) → version_in d ≡ c
        → ((m2' w2' : ℕ) → version_in (b.wire % 65536) ≡ from_wire w2'
        → Greets [] u slots (λ n. version_in d) (daemon_greeting (smaller (version_in d) (from_wire w2'))) (met_at 0 0 m2' w2' 0 0 0 0 16) w said ns cs kept w') → ShakenAlone
    greeted_alone n d f g = tested_alone true (eq-eqb b.magic daemon_magic n) (rw f at (g b.magic b.wire (wire_in b.wire (b.wire % 65536) refl)))
