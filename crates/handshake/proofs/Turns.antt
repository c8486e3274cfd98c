-- Each way through a turn: what is judged then.
use Prim.Native.Nat.{ℕ, zero, suc, ◌+◌, ◌-◌, ◌<◌, ◌≤◌}
use mathlib.Core.Path.{◌≡◌, refl, sym, ◌∙◌, ap, subst}
use mathlib.Core.List.{List, [], ◌∷◌}
use mathlib.Core.Bool.{Bool, true, false}
use lib.ListN.{length, set}
use lib.Dec.{eqb, leb, ltb}
use borrow.Author.Tests.{eq-eqb, ne_eqb, le-leb, lt-leb}
use Rattle.layouts.specs.declared.Record.{Record}
use Rattle.layouts.specs.declared.Refusal.{Refusal}
use Rattle.layouts.specs.Primitive.{pick, version, at_least, not_last, ok, refused, number_at}
use Rattle.layouts.specs.Refusal.{plain, refused_by}
use Rattle.layouts.specs.Shape.{as_number, as_count, dropped, kept, What, num, str, maybe, Tree, ask, say, stop, if_true, units, field, gated, fields, group, groups, layout}
use Rattle.layouts.specs.Shape as Shape
use Rattle.layouts.specs.Pieces.{run}
use Rattle.layouts.specs.Record.{noted, with_number, with_count, with_entries}
use Rattle.layouts.specs.Judge.{judge_of}
use Rattle.layouts.specs.Stderr.{Last}
use Rattle.layouts.specs.Handshake.{fields_at, hello, feature_fields, obsolete_fields, info_fields, versions}
use Rattle.table.specs.Table.{role_of, version_in}
use Rattle.walk_strings.specs.Strings.{series}
use Rattle.walk_take.specs.Taking.{in_window, ahead, series_to, Takes}
use Rattle.walk_take.proofs.Pieces.{nothing_in}
use Rattle.walk_take.proofs.Numbers.{same_entries, cut_judges, ask_judges, ask_keeps}
use Rattle.walk_judge.specs.declared.Answer.{Answer}
use Rattle.walk_judge.specs.Judged.{answer_of, answer_as}
use Rattle.handshake.specs.Turns.{hello_to, features_to, info_to, place_to, Passed, trust_to, told_fine, told_of}
use Rattle.handshake.proofs.Order.{in_order}
use Rattle.handshake.proofs.Quiet.{stop_quiet, ask_quiet, num_quiet}
use Rattle.walk_take.specs.declared.Series.{Series}
use Rattle.handshake.specs.declared.Trust.{Trust}
use Rattle.handshake.specs.declared.Info.{Info}
use Rattle.std.specs.Prelude.{Ok, Err, Result}

-- ---- the trees of the turns, by the version as a number
pub features_tree : (v i : ℕ) → fields_at (version_in v) (feature_fields i) ≡ gated (leb 294 v) (Shape.set kept (as_count i)) (λ u. stop)
unfolding layout groups group fields
features_tree v i = ap (λ (b : Bool). gated b (Shape.set kept (as_count i)) (λ u. stop)) (sym (in_order v 294))

pub obsolete_tree : (v : ℕ) → fields_at (version_in v) obsolete_fields ≡ gated (leb 270 v) maybe (λ u. gated (leb 267 v) (num dropped) (λ u. stop))
unfolding layout groups group fields
obsolete_tree v =
    ap (λ (b : Bool). gated b maybe (λ u. gated (at_least (version_in v) (version 1 11)) (num dropped) (λ u. stop))) (sym (in_order v 270))
    ∙ ap (λ (b : Bool). gated (leb 270 v) maybe (λ u. gated b (num dropped) (λ u. stop))) (sym (in_order v 267))

abbrev last_number : Tree
last_number = ask (as_number 5) (λ n. stop)

abbrev trust_on : ℕ → Tree
trust_on v = gated (leb 291 v) (num (as_number 4)) (λ u. last_number)

pub info_tree : (v : ℕ) → fields_at (version_in v) info_fields ≡ gated (leb 289 v) (str kept) (λ u. trust_on v)
unfolding layout groups group fields gated field
info_tree v =
    ap (λ (b : Bool). gated b (str kept) (λ u. gated (at_least (version_in v) (version 1 35)) (num (as_number 4)) (λ u. last_number))) (sym (in_order v 289))
    ∙ ap (λ (b : Bool). gated (leb 289 v) (str kept) (λ u. gated b (num (as_number 4)) (λ u. last_number))) (sym (in_order v 291))

-- ---- a hello: two numbers
module _ (s : List ℕ) (slots : ℕ) (x : Record) (i j : ℕ) where
  pub hello_cut : (r : Refusal) → (length s < 0 + 8) × (r ≡ plain 1 0) → judge_of s slots 0 x (run (hello i j) s 0) ≡ refused_by r
  unfolding layout groups group fields gated field
  hello_cut r known = cut_judges s 0 r known slots 0 x (as_number i) _

  module _ (n : ℕ) (known : (0 + 8 ≤ length s) × (n ≡ number_at s 0)) where
    pub hello_half : (r : Refusal) → (length s < 8 + 8) × (r ≡ plain 1 8) → judge_of s slots 0 x (run (hello i j) s 0) ≡ refused_by r
    unfolding layout groups group fields gated field
    hello_half r cut = ask_judges s 0 n known slots 0 x (as_number i) _ ∙ cut_judges s 8 r cut slots 0 (noted x (as_number i) n) (as_number j) _

    pub hello_said : (wire : ℕ) → (8 + 8 ≤ length s) × (wire ≡ number_at s 8) → judge_of s slots 0 x (run (hello i j) s 0) ≡ hello_to x i j (Ok (record { magic = n; wire = wire }))
    unfolding layout groups group fields gated field run judge_of noted
    hello_said wire said =
        ask_judges s 0 n known slots 0 x (as_number i) (λ n. ask (as_number j) (λ w. stop)) ∙ ask_judges s 8 wire said slots 0 (noted x (as_number i) n) (as_number j) (λ w. stop)

-- ---- features
uncounted : (x : Record) (i n : ℕ) → x.entries ≡ n → set x.counts i 0 ≡ x.counts → x ≡ with_entries (with_count x i 0) n
uncounted x i n z u = same_entries x n z ∙ by (ltb i 3)
  where
    by : (b : Bool) → with_entries x n ≡ record { numbers = x.numbers; counts = pick b (set x.counts i 0) x.counts; present = x.present; entries = n; payload = x.payload }
    by true = ap (λ (cs : List ℕ). record { numbers = x.numbers; counts = cs; present = x.present; entries = n; payload = x.payload }) (sym u)
    by false = refl

module _ (s : List ℕ) (at v slots n : ℕ) (i : ℕ) where
  abbrev theirs : Tree
  theirs = fields_at (version_in v) (feature_fields i)

  module _ (h : v < 294) where
    none_there : theirs ≡ stop
    unfolding gated
    none_there = features_tree v i ∙ ap (λ (b : Bool). gated b (Shape.set kept (as_count i)) (λ u. stop)) (lt-leb 294 v h)

    pub features_none : (x : Record) → x.entries ≡ n → set x.counts i 0 ≡ x.counts → judge_of s slots 0 x (run theirs s at) ≡ features_to x i (Ok (record { at = at; entries = n; count = 0 }))
    unfolding run judge_of
    features_none x z u = ap (λ (t : Tree). judge_of s slots 0 x (run t s at)) none_there ∙ ap (λ (y : Record). ok (record { found = y; ends = at })) (uncounted x i n z u)

    pub features_idle : (w : List ℕ) → w ≡ ahead w n (run theirs s at)
    features_idle w = sym (ap (λ (t : Tree). ahead w n (run t s at)) none_there ∙ ap (in_window w n) (stop_quiet s at) ∙ nothing_in w n)

  module _ (h : 294 ≤ v) where
    all_there : theirs ≡ ask (as_count i) (λ c. units kept 0 c (λ u. stop))
    unfolding gated field
    all_there = features_tree v i ∙ ap (λ (b : Bool). gated b (Shape.set kept (as_count i)) (λ u. stop)) (le-leb 294 v h)

    pub features_cut : (r : Refusal) → (length s < at + 8) × (r ≡ plain 1 at) → (x : Record) → judge_of s slots 0 x (run theirs s at) ≡ refused_by r
    features_cut r known x = ap (λ (t : Tree). judge_of s slots 0 x (run t s at)) all_there ∙ cut_judges s at r known slots 0 x (as_count i) _

    module _ (count : ℕ) (known : (at + 8 ≤ length s) × (count ≡ number_at s at)) (w w' : List ℕ) where
      abbrev Listed : Result Series Refusal → Type 0
      Listed r = Takes s slots (at + 8) (series (role_of 2) 0 0 count) w n w' r

      counted : (r : Result Series Refusal) → Listed r → (x : Record) → x.entries ≡ n → judge_of s slots 0 x (run theirs s at) ≡ series_to s slots 0 (with_count x i count) (λ u. stop) r
      unfolding series Shape.strings role_of noted
      counted r t x z =
          ap (λ (t : Tree). judge_of s slots 0 x (run t s at)) all_there ∙ ask_judges s at count known slots 0 x (as_count i) _
          ∙ t.judges 0 (λ u. stop) (with_count x i count) z

      pub features_refused : (y : Refusal) → Listed (Err y) → (x : Record) → x.entries ≡ n → judge_of s slots 0 x (run theirs s at) ≡ refused_by y
      features_refused y t x z = counted (Err y) t x z

      module _ (k : Series) (t : Listed (Ok k)) where
        pub features_past : (x : Record) → x.entries ≡ n → judge_of s slots 0 x (run theirs s at) ≡ features_to x i (Ok (record { at = k.at; entries = k.entries; count = count }))
        unfolding run judge_of
        features_past x z = counted (Ok k) t x z

        pub features_keep : w' ≡ ahead w n (run theirs s at)
        unfolding series Shape.strings role_of
        features_keep =
            sym (ap (λ (t : Tree). ahead w n (run t s at)) all_there ∙ ask_keeps s at count known w n (as_count i) _
            ∙ t.keeps (λ u. stop) ∙ ap (in_window w' k.entries) (stop_quiet s k.at) ∙ nothing_in w' k.entries)

-- ---- obsolete numbers
abbrev on_number : (Unit {0} → Tree) → Tree
on_number k = ask dropped (λ v. k tt)

abbrev on_affinity : ℕ → (Unit {0} → Tree) → Tree
on_affinity v = gated (leb 270 v) maybe

abbrev on_obsolete : ℕ → (Unit {0} → Tree) → Tree
on_obsolete v k = on_affinity v (λ u. gated (leb 267 v) (num dropped) k)

module _ (s : List ℕ) (at : ℕ) where
  pub number_cut : (r : Refusal) → (length s < at + 8) × (r ≡ plain 1 at) → Passed s at on_number (Err r)
  number_cut r known slots k x = cut_judges s at r known slots 0 x dropped (λ v. k tt)

  pub number_passed : (n : ℕ) → (at + 8 ≤ length s) × (n ≡ number_at s at) → Passed s at on_number (Ok (at + 8))
  unfolding noted
  number_passed n known slots k x = ask_judges s at n known slots 0 x dropped (λ v. k tt)

module _ (s : List ℕ) (at v : ℕ) where
  module _ (slots : ℕ) (k : Unit {0} → Tree) (x : Record) where
    gate : (w : What) (n : ℕ) (b : Bool) → leb n v ≡ b → judge_of s slots 0 x (run (gated (leb n v) w k) s at) ≡ judge_of s slots 0 x (run (gated b w k) s at)
    gate w n b h = ap (λ (c : Bool). judge_of s slots 0 x (run (gated c w k) s at)) h

    pub affinity_none : v < 270 → judge_of s slots 0 x (run (on_affinity v k) s at) ≡ place_to s slots x k (Ok at)
    unfolding gated
    affinity_none h = gate maybe 270 false (lt-leb 270 v h)

    module _ (h : 270 ≤ v) where
      pub affinity_cut : (r : Refusal) → (length s < at + 8) × (r ≡ plain 1 at) → judge_of s slots 0 x (run (on_affinity v k) s at) ≡ place_to s slots x k (Err r)
      unfolding gated field
      affinity_cut r known = gate maybe 270 true (le-leb 270 v h) ∙ cut_judges s at r known slots 0 x dropped _

      module _ (n : ℕ) (known : (at + 8 ≤ length s) × (n ≡ number_at s at)) where
        asked : judge_of s slots 0 x (run (on_affinity v k) s at) ≡ judge_of s slots 0 x (run (if_true n k) s (at + 8))
        unfolding gated field noted
        asked = gate maybe 270 true (le-leb 270 v h) ∙ ask_judges s at n known slots 0 x dropped _

        pub affinity_unset : n ≡ 0 → judge_of s slots 0 x (run (on_affinity v k) s at) ≡ place_to s slots x k (Ok (at + 8))
        affinity_unset z = asked ∙ ap (λ (i : ℕ). judge_of s slots 0 x (run (if_true i k) s (at + 8))) z

        pub affinity_set : (n ≡ 0 → ⊥) → (r : Result ℕ Refusal) → Passed s (at + 8) on_number r → judge_of s slots 0 x (run (on_affinity v k) s at) ≡ place_to s slots x k r
        affinity_set z r p = asked ∙ ap (λ (t : Tree). judge_of s slots 0 x (run t s (at + 8))) (by n z) ∙ p slots k x
          where
            by : (n : ℕ) → (n ≡ 0 → ⊥) → if_true n k ≡ on_number k
            by zero z = absurd (z refl)
            by (suc n) z = refl

  module _ (slots : ℕ) (k : Unit {0} → Tree) (x : Record) where
    pub affinity_refused : (y : Refusal) → Passed s at (on_affinity v) (Err y) → judge_of s slots 0 x (run (on_obsolete v k) s at) ≡ place_to s slots x k (Err y)
    affinity_refused y p = p slots (λ u. gated (leb 267 v) (num dropped) k) x

    module _ (next : ℕ) (p : Passed s at (on_affinity v) (Ok next)) where
      then_space : (b : Bool) → leb 267 v ≡ b → judge_of s slots 0 x (run (on_obsolete v k) s at) ≡ judge_of s slots 0 x (run (gated b (num dropped) k) s next)
      then_space b h = p slots (λ u. gated (leb 267 v) (num dropped) k) x ∙ ap (λ (c : Bool). judge_of s slots 0 x (run (gated c (num dropped) k) s next)) h

      pub space_none : v < 267 → judge_of s slots 0 x (run (on_obsolete v k) s at) ≡ place_to s slots x k (Ok next)
      unfolding gated
      space_none h = then_space false (lt-leb 267 v h)

      pub space_passed : 267 ≤ v → (r : Result ℕ Refusal) → Passed s next on_number r → judge_of s slots 0 x (run (on_obsolete v k) s at) ≡ place_to s slots x k r
      unfolding gated field
      space_passed h r p' = then_space true (le-leb 267 v h) ∙ p' slots k x

-- ---- what the daemon says last
module _ (s : List ℕ) (at v slots n : ℕ) (w : List ℕ) where
  pub version_none : v < 289 → Takes s slots at (gated (leb 289 v) (str kept)) w n w (Ok (record { at = at; entries = n }))
  unfolding gated
  version_none h = subst (λ (b : Bool). Takes s slots at (gated b (str kept)) w n w (Ok (record { at = at; entries = n }))) (sym (lt-leb 289 v h))
      (record { judges = λ room k x z. ap (λ (y : Record). judge_of s slots room y (run (k tt) s at)) (same_entries x n z); keeps = λ k. refl; holds = λ k. refl })

  pub version_there : 289 ≤ v → (w' : List ℕ) (r : Result Series Refusal) → Takes s slots at (say (role_of 2)) w n w' r → Takes s slots at (gated (leb 289 v) (str kept)) w n w' r
  unfolding gated field role_of
  version_there h w' r t = subst (λ (b : Bool). Takes s slots at (gated b (str kept)) w n w' r) (sym (le-leb 289 v h)) (record { judges = t.judges; keeps = t.keeps; holds = t.holds })

abbrev Trusts : List ℕ → (at v : ℕ) → Result Trust Refusal → Type 0
Trusts s at v r = (slots : ℕ) (k : Unit {0} → Tree) (x : Record) → set x.numbers 4 0 ≡ x.numbers
    → judge_of s slots 0 x (run (gated (leb 291 v) (num (as_number 4)) k) s at) ≡ trust_to s slots x k r

module _ (s : List ℕ) (at v : ℕ) where
  gate_trust : (b : Bool) → leb 291 v ≡ b → (slots : ℕ) (k : Unit {0} → Tree) (x : Record)
      → judge_of s slots 0 x (run (gated (leb 291 v) (num (as_number 4)) k) s at) ≡ judge_of s slots 0 x (run (gated b (num (as_number 4)) k) s at)
  gate_trust b h slots k x = ap (λ (c : Bool). judge_of s slots 0 x (run (gated c (num (as_number 4)) k) s at)) h

  pub trust_none : v < 291 → Trusts s at v (Ok (record { at = at; trust = 0 }))
  unfolding gated
  trust_none h slots k x u =
      gate_trust false (lt-leb 291 v h) slots k x
      ∙ ap (λ (ns : List ℕ). judge_of s slots 0 (record { numbers = ns; counts = x.counts; present = x.present; entries = x.entries; payload = x.payload }) (run (k tt) s at)) (sym u)

  module _ (h : 291 ≤ v) where
    pub trust_cut : (r : Refusal) → (length s < at + 8) × (r ≡ plain 1 at) → Trusts s at v (Err r)
    unfolding gated field
    trust_cut r known slots k x u = gate_trust true (le-leb 291 v h) slots k x ∙ cut_judges s at r known slots 0 x (as_number 4) _

    pub trust_said : (n : ℕ) → (at + 8 ≤ length s) × (n ≡ number_at s at) → Trusts s at v (Ok (record { at = (at + 8); trust = n }))
    unfolding gated field noted
    trust_said n known slots k x u = gate_trust true (le-leb 291 v h) slots k x ∙ ask_judges s at n known slots 0 x (as_number 4) _

module _ (s : List ℕ) (at v slots n : ℕ) (w w' : List ℕ) where
  abbrev infos : Tree
  infos = fields_at (version_in v) info_fields

  abbrev Named : Result Series Refusal → Type 0
  Named r = Takes s slots at (gated (leb 289 v) (str kept)) w n w' r

  from_version : (r : Result Series Refusal) → Named r → (x : Record) → x.entries ≡ n → judge_of s slots 0 x (run infos s at) ≡ series_to s slots 0 x (λ u. trust_on v) r
  from_version r t x z = ap (λ (t : Tree). judge_of s slots 0 x (run t s at)) (info_tree v) ∙ t.judges 0 (λ u. trust_on v) x z

  pub info_refused : (y : Refusal) → Named (Err y) → (x : Record) → x.entries ≡ n → judge_of s slots 0 x (run infos s at) ≡ refused_by y
  info_refused y t x z = from_version (Err y) t x z

  module _ (k : Series) (t : Named (Ok k)) where
    pub info_keep : w' ≡ ahead w n (run infos s at)
    info_keep =
        sym (ap (λ (t : Tree). ahead w n (run t s at)) (info_tree v) ∙ t.keeps (λ u. trust_on v)
        ∙ ap (in_window w' k.entries) (num_quiet (leb 291 v) (as_number 4) (λ u. last_number) (ask_quiet (as_number 5) (λ n. stop) (λ n. stop_quiet)) s k.at) ∙ nothing_in w' k.entries)

    from_trust : (h : Result Trust Refusal) → Trusts s k.at v h → (x : Record) → x.entries ≡ n → set x.numbers 4 0 ≡ x.numbers
        → judge_of s slots 0 x (run infos s at) ≡ trust_to s slots (with_entries x k.entries) (λ u. last_number) h
    from_trust h g x z u = from_version (Ok k) t x z ∙ g slots (λ u. last_number) (with_entries x k.entries) u

    pub untold : (y : Refusal) → Trusts s k.at v (Err y) → (x : Record) → x.entries ≡ n → set x.numbers 4 0 ≡ x.numbers → judge_of s slots 0 x (run infos s at) ≡ refused_by y
    untold y g x z u = from_trust (Err y) g x z u

    module _ (h : Trust) (g : Trusts s k.at v (Ok h)) where
      pub last_cut : (y : Refusal) → (length s < h.at + 8) × (y ≡ plain 1 h.at) → (x : Record) → x.entries ≡ n → set x.numbers 4 0 ≡ x.numbers → judge_of s slots 0 x (run infos s at) ≡ refused_by y
      last_cut y known x z u = from_trust (Ok h) g x z u ∙ cut_judges s h.at y known slots 0 (with_number (with_entries x k.entries) 4 h.trust) (as_number 5) _

      pub info_past : (last : ℕ) → (h.at + 8 ≤ length s) × (last ≡ number_at s h.at) → (x : Record) → x.entries ≡ n → set x.numbers 4 0 ≡ x.numbers
          → judge_of s slots 0 x (run infos s at) ≡ info_to x (Ok (record { at = (h.at + 8); entries = k.entries; trust = h.trust; last = last }))
      unfolding run judge_of noted
      info_past last known x z u = from_trust (Ok h) g x z u ∙ ask_judges s h.at last known slots 0 (with_number (with_entries x k.entries) 4 h.trust) (as_number 5) (λ n. stop)

-- ---- the answer, to who has matched on the last turn
module _ (c d a b ends : ℕ) (i : Result Info Refusal) where
  abbrev told : Answer
  told = answer_as (told_of (version_in c) (version_in d) a b ends i)

  pub told_refused : (r : Refusal) → i ≡ Err r → (z : Answer) → z ≡ answer_as (refused r.which r.place 1) → z ≡ told
  told_refused r q z e = e ∙ ap (λ (j : Result Info Refusal). answer_as (told_of (version_in c) (version_in d) a b ends j)) (sym q)

  module _ (k : Info) (q : i ≡ Ok k) where
    by_last : (t : Bool) → eqb k.last Last ≡ t → answer_as (pick t (ok (told_fine (version_in c) (version_in d) a b ends k.at k.entries k.trust)) (refused not_last (k.at - 8) 1)) ≡ told
    by_last t h =
        ap (λ (t : Bool). answer_as (pick t (ok (told_fine (version_in c) (version_in d) a b ends k.at k.entries k.trust)) (refused not_last (k.at - 8) 1))) (sym h)
        ∙ ap (λ (j : Result Info Refusal). answer_as (told_of (version_in c) (version_in d) a b ends j)) (sym q)

    pub told_fine_lem : k.last ≡ 0x616c7473 → (ns : List ℕ) → ns ≡ versions (version_in c) (version_in d) k.trust → answer_of (Ok (record { kind = 0; ends = ends; ends2 = k.at; entries = k.entries; payload = 0; present = false })) ns (a ∷ b ∷ 0 ∷ []) ≡ told
    told_fine_lem h ns e = ap (λ (x : List ℕ). answer_of (Ok (record { kind = 0; ends = ends; ends2 = k.at; entries = k.entries; payload = 0; present = false })) x (a ∷ b ∷ 0 ∷ [])) e ∙ by_last true (eq-eqb k.last Last h)

    pub told_other : (k.last ≡ 0x616c7473 → ⊥) → (place : ℕ) → place ≡ k.at - 8 → (r : Refusal) → r ≡ plain 8 place → (z : Answer) → z ≡ answer_as (refused r.which r.place 1) → z ≡ told
    told_other h place p r o z e =
        e ∙ ap (λ (y : Refusal). answer_as (refused y.which y.place 1)) o ∙ ap (λ (i : ℕ). answer_as (refused not_last i 1)) p ∙ by_last false (ne_eqb k.last Last h)
