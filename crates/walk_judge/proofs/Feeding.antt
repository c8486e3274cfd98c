-- A string, framed data, a number and what follows it: as the items of a layout.
use Prim.Native.Nat.{ℕ, ◌+◌, ◌-◌, ◌≤◌, ◌<◌}
use mathlib.Core.Path.{◌≡◌, refl, sym, ◌∙◌, ap, subst}
use mathlib.Core.List.{List}
use lib.ListN.{length}
use native.Mathlib.Omega.{arith}
use native.Mathlib.Decide.{dec_lt}
use borrow.Author.Tests.{ne_eqb}
use Rattle.layouts.specs.declared.Record.{Record}
use Rattle.layouts.specs.declared.Refusal.{Refusal}
use Rattle.layouts.specs.Primitive.{Version, number_at}
use Rattle.layouts.specs.Refusal.{plain, refused_by}
use Rattle.layouts.specs.Shape.{Target, dropped, as_number, as_flag, as_count, as_presence, Tree, ask, say, frames, fail, strings}
use Rattle.layouts.specs.Pieces.{run}
use Rattle.layouts.specs.Record.{noted, with_entries, with_payload}
use Rattle.layouts.specs.Judge.{judge_of, entries_of}
use Rattle.walk_strings.specs.Strings.{series}
use Rattle.table.specs.Table.{role_of, target_of}
use Rattle.walk_items.specs.declared.Item.{Item}
use Rattle.walk_items.specs.Items.{times_of, onto, item_tree, target_for, after_number}
use Rattle.walk_items.proofs.Trees.{times_item, field_item_lem}
use Rattle.walk_items.proofs.Fields.{is_text_lem, is_framed, is_number, after_set, after_pairs, after_false, after_true, after_type_0, after_typed, after_zero, after_position, after_nothing}
use Rattle.walk_take.specs.Taking.{in_window, ahead, kept_of, held, series_to, series_in, Takes, SeriesFrom, SeriesTook, frames_to, frames_in, TakesFrames}
use Rattle.walk_take.proofs.Numbers.{same_entries, cut_judges, ask_judges, ask_keeps}
use Rattle.walk_take.proofs.Frames.{same_payload}
use Rattle.walk_take.proofs.Pieces.{nothing_in}
use Rattle.walk_judge.specs.Judged.{Feeds}
use Rattle.walk_take.specs.declared.Series.{Series}
use Rattle.std.specs.Prelude.{Ok, Err, Result}

-- ---- the record
noted_keeps : (x : Record) (i : Target) (v : ℕ) → (noted x i v).entries ≡ x.entries
unfolding noted
noted_keeps x dropped v = refl
noted_keeps x (as_number i) v = refl
noted_keeps x (as_flag i) v = refl
noted_keeps x (as_count i) v = refl
noted_keeps x as_presence v = refl

noted_entries : (x : Record) (i : Target) (v n : ℕ) → with_entries (noted x i v) n ≡ noted (with_entries x n) i v
unfolding noted
noted_entries x dropped v n = refl
noted_entries x (as_number i) v n = refl
noted_entries x (as_flag i) v n = refl
noted_entries x (as_count i) v n = refl
noted_entries x as_presence v n = refl

pub own_target : (kind target : ℕ) → (kind ≡ 6 → ⊥) → (kind ≡ 7 → ⊥) → (kind ≡ 8 → ⊥) → target ≡ target_for kind target
own_target kind target a b c = rw (ne_eqb kind 6 a, ne_eqb kind 7 b, ne_eqb kind 8 c)

-- ---- what follows the number of a field
pub took_from : (s : List ℕ) (at : ℕ) (r : Result Series Refusal) → SeriesTook s at r → SeriesFrom at r
took_from s at (Ok k) h = omega (arith, h)
took_from s at (Err r) h = tt

module _ (s : List ℕ) (slots at : ℕ) (w : List ℕ) (n : ℕ) (w' : List ℕ) where
  takes_as : (t u : (Unit {0} → Tree) → Tree) (r : Result Series Refusal) → ((k : Unit {0} → Tree) → t k ≡ u k) → Takes s slots at u w n w' r → Takes s slots at t w n w' r
  takes_as t u r e h =
      record {
        judges = λ room k x z. ap (λ (y : Tree). judge_of s slots room x (run y s at)) (e k) ∙ h.judges room k x z;
        keeps = λ k. subst (λ (y : Tree). series_in s w' (ahead w n (run y s at)) k r) (sym (e k)) (h.keeps k);
        holds = λ k. ap (λ (y : Tree). held s slots w n (run y s at)) (e k) ∙ h.holds k;
      }

  module _ (kind role v : ℕ) where
    abbrev After : Result Series Refusal → Type 0
    After r = Takes s slots at (after_number kind role v) w n w' r

    module _ (r : Result Series Refusal) where
      pub set_after : kind ≡ 3 → Takes s slots at (series (role_of role) 0 0 v) w n w' r → After r
      unfolding series strings
      set_after e h = takes_as _ _ r (λ k. after_set kind role v k e) h

      pub pairs_after : kind ≡ 4 → Takes s slots at (series (role_of role) 0 1 v) w n w' r → After r
      unfolding series strings
      pairs_after e h = takes_as _ _ r (λ k. after_pairs kind role v k e) h

      pub true_after : kind ≡ 6 → (v ≡ 0 → ⊥) → Takes s slots at (λ k. ask dropped (λ v. k tt)) w n w' r → After r
      true_after e f h = takes_as _ _ r (λ k. after_true kind role v k e f) h

      pub type_after : kind ≡ 7 → v ≡ 0 → Takes s slots at (λ k. ask dropped (λ v. k tt)) w n w' r → After r
      type_after e f h = takes_as _ _ r (λ k. after_type_0 kind role v k e f) h

      pub typed_after : kind ≡ 7 → (v ≡ 0 → ⊥) → Takes s slots at (say (role_of 0)) w n w' r → After r
      unfolding role_of
      typed_after e f h = takes_as _ _ r (λ k. after_typed kind role v k e f) h

module _ (s : List ℕ) (slots at : ℕ) (w : List ℕ) (n kind role v : ℕ) where
  stays : Takes s slots at (λ k. k tt) w n w (Ok (record { at = at; entries = n }))
  stays = record { judges = λ room k x z. ap (λ (y : Record). judge_of s slots room y (run (k tt) s at)) (same_entries x n z); keeps = λ k. refl; holds = λ k. refl }

  pub false_after : kind ≡ 6 → v ≡ 0 → After s slots at w n w kind role v (Ok (record { at = at; entries = n }))
  false_after e f = takes_as s slots at w n w _ _ (Ok (record { at = at; entries = n })) (λ k. after_false kind role v k e f) stays

  pub zero_after : kind ≡ 8 → v ≡ 0 → After s slots at w n w kind role v (Ok (record { at = at; entries = n }))
  zero_after e f = takes_as s slots at w n w _ _ (Ok (record { at = at; entries = n })) (λ k. after_zero kind role v k e f) stays

  fails : (x : Refusal) → x ≡ plain 15 (at - 8) → Takes s slots at (λ k. fail 15 8) w n w (Err x)
  unfolding run judge_of kept_of
  fails x p = record { judges = λ room k y z. rw p; keeps = λ k. tt; holds = λ k. nothing_in w n }

  pub position_after : kind ≡ 8 → (v ≡ 0 → ⊥) → (x : Refusal) → x ≡ plain 15 (at - 8) → After s slots at w n w kind role v (Err x)
  position_after e f x p = takes_as s slots at w n w _ _ (Err x) (λ k. after_position kind role v k e f) (fails x p)

  pub nothing_after : (kind ≡ 3 → ⊥) → (kind ≡ 4 → ⊥) → (kind ≡ 6 → ⊥) → (kind ≡ 7 → ⊥) → (kind ≡ 8 → ⊥) → After s slots at w n w kind role v (Ok (record { at = at; entries = n }))
  nothing_after a b c d e = takes_as s slots at w n w _ _ (Ok (record { at = at; entries = n })) (λ k. after_nothing kind role v k a b c d e) stays

-- ---- an item
module _ (s : List ℕ) (slots at n p : ℕ) (f : Item) (w : List ℕ) where
  module _ (a : f.kind ≡ 0 → ⊥) where
    -- a string
    module _ (t : f.kind ≡ 2) (w' : List ℕ) (r : Result Series Refusal) (h : Takes s slots at (say (role_of f.role)) w n w' r) where
      text_item : (ver : Version) → item_tree ver f ≡ say (role_of f.role) (onto ver f f.reps)
      text_item ver = field_item_lem ver f a (omega arith) ∙ is_text_lem f.kind f.role f.target (onto ver f f.reps) t

      fed_series : (room : ℕ) (y : Result Series Refusal) → r ≡ y → (ver : Version) (x : Record) → x.entries ≡ n → judge_of s slots room x (run (item_tree ver f) s at) ≡ series_to s slots room x (onto ver f f.reps) y
      fed_series room y q ver x z =
          ap (λ (u : Tree). judge_of s slots room x (run u s at)) (text_item ver)
          ∙ h.judges room (onto ver f f.reps) x z ∙ ap (series_to s slots room x (onto ver f f.reps)) q

      pub fed_refused : (room : ℕ) (x : Refusal) → r ≡ Err x → Feeds s slots room at n p f w w' (Err x)
      fed_refused room x q = record { judges = λ ver y z _. fed_series room (Err x) q ver y z; keeps = λ ver. tt }

      pub fed_text : (room at' n' : ℕ) → r ≡ Ok (record { at = at'; entries = n' }) → Feeds s slots room at n p f w w' (Ok (record { at = at'; entries = n'; payload = p; reps = f.reps; target = 0; value = 0 }))
      unfolding noted target_of
      fed_text room at' n' q =
          record {
            judges = λ ver x z y.
                fed_series room (Ok (record { at = at'; entries = n' })) q ver x z
                ∙ ap (λ (u : Record). judge_of s slots room u (run (onto ver f f.reps tt) s at')) (same_payload (with_entries x n') p y);
            keeps = λ ver.
                ap (λ (u : Tree). ahead w n (run u s at)) (text_item ver)
                ∙ subst (series_in s w' (ahead w n (run (say (role_of f.role) (onto ver f f.reps)) s at)) (onto ver f f.reps)) q (h.keeps (onto ver f f.reps));
          }

    -- framed data
    module _ (room : ℕ) (t : f.kind ≡ 5) (r : Result Series Refusal) (h : TakesFrames s room at p r) where
      frames_item : (ver : Version) → item_tree ver f ≡ frames (onto ver f f.reps)
      frames_item ver = field_item_lem ver f a (omega arith) ∙ is_framed f.kind f.role f.target (onto ver f f.reps) t

      fed_frames : (y : Result Series Refusal) → r ≡ y → (ver : Version) (x : Record) → x.payload ≡ p → judge_of s slots room x (run (item_tree ver f) s at) ≡ frames_to s slots room x (onto ver f f.reps) y
      fed_frames y q ver x z =
          ap (λ (u : Tree). judge_of s slots room x (run u s at)) (frames_item ver)
          ∙ h.judges slots (onto ver f f.reps) x z ∙ ap (frames_to s slots room x (onto ver f f.reps)) q

      pub frames_refused : (x : Refusal) → r ≡ Err x → Feeds s slots room at n p f w w (Err x)
      frames_refused x q = record { judges = λ ver y _ z. fed_frames (Err x) q ver y z; keeps = λ ver. tt }

      pub frames_fed : (at' p' : ℕ) → r ≡ Ok (record { at = at'; entries = p' }) → Feeds s slots room at n p f w w (Ok (record { at = at'; entries = n; payload = p'; reps = f.reps; target = 0; value = 0 }))
      unfolding noted target_of
      frames_fed at' p' q =
          record {
            judges = λ ver x z y.
                fed_frames (Ok (record { at = at'; entries = p' })) q ver x y
                ∙ ap (λ (u : ℕ). judge_of s slots room (with_payload (with_entries x u) p') (run (onto ver f f.reps tt) s at')) z;
            keeps = λ ver.
                ap (λ (u : Tree). ahead w n (run u s at)) (frames_item ver)
                ∙ ap (in_window w n) (subst (frames_in s (entries_of (run (frames (onto ver f f.reps)) s at)) (onto ver f f.reps)) q (h.keeps (onto ver f f.reps)));
          }

    -- a number
    module _ (b : f.kind ≡ 16 → ⊥) (c : f.kind ≡ 2 → ⊥) (d : f.kind ≡ 5 → ⊥) where
      field_asks : f.kind < 16 → (ver : Version) (i : ℕ) → i ≡ target_for f.kind f.target → item_tree ver f ≡ ask (target_of i) (λ v. after_number f.kind f.role v (onto ver f f.reps))
      field_asks l ver i g =
          field_item_lem ver f a l ∙ is_number f.kind f.role f.target (onto ver f f.reps) c d
          ∙ ap (λ (j : ℕ). ask (target_of j) (λ v. after_number f.kind f.role v (onto ver f f.reps))) (sym g)

      module _ (r : Refusal) (cut : (length s < at + 8) × (r ≡ plain 1 at)) where
        cut_by : (room : ℕ) → Dec (f.kind < 16) → (ver : Version) (x : Record) → judge_of s slots room x (run (item_tree ver f) s at) ≡ refused_by r
        cut_by room (yes l) ver x =
            ap (λ (u : Tree). judge_of s slots room x (run u s at)) (field_asks l ver _ refl) ∙ cut_judges s at r cut slots room x _ _
        cut_by room (no l) ver x =
            ap (λ (u : Tree). judge_of s slots room x (run u s at)) (times_item ver f (omega arith) b) ∙ cut_judges s at r cut slots room x _ _

        pub number_cuts : (room : ℕ) → Feeds s slots room at n p f w w (Err r)
        number_cuts room = record { judges = λ ver x z y. cut_by room (dec_lt f.kind 16) ver x; keeps = λ ver. tt }

      module _ (v : ℕ) (known : (at + 8 ≤ length s) × (v ≡ number_at s at)) where
        pub fed_times : 16 < f.kind → (t : ℕ) → t ≡ times_of f.kind v → (room : ℕ) → Feeds s slots room at n p f w w (Ok (record { at = (at + 8); entries = n; payload = p; reps = t; target = f.target; value = v }))
        fed_times l t g room =
            record {
              judges = λ ver x z y.
                  ap (λ (u : Tree). judge_of s slots room x (run u s at)) (times_item ver f (omega arith) b)
                  ∙ ask_judges s at v known slots room x (target_of f.target) (λ n. onto ver f (times_of f.kind n) tt)
                  ∙ ap (λ (u : Record). judge_of s slots room (noted u (target_of f.target) v) (run (onto ver f (times_of f.kind v) tt) s (at + 8))) (same_entries x n z ∙ same_payload (with_entries x n) p y)
                  ∙ ap (λ (u : ℕ). judge_of s slots room (noted (with_payload (with_entries x n) p) (target_of f.target) v) (run (onto ver f u tt) s (at + 8))) (sym g);
              keeps = λ ver.
                  ap (λ (u : Tree). ahead w n (run u s at)) (times_item ver f (omega arith) b)
                  ∙ ask_keeps s at v known w n (target_of f.target) (λ n. onto ver f (times_of f.kind n) tt)
                  ∙ ap (λ (u : ℕ). ahead w n (run (onto ver f u tt) s (at + 8))) (sym g);
            }

        module _ (l : f.kind < 16) (i : ℕ) (g : i ≡ target_for f.kind f.target) (w' : List ℕ) (r : Result Series Refusal) (h : Takes s slots (at + 8) (after_number f.kind f.role v) w n w' r) where
          fed_after : (room : ℕ) (y : Result Series Refusal) → r ≡ y → (ver : Version) (x : Record) → x.entries ≡ n
              → judge_of s slots room x (run (item_tree ver f) s at) ≡ series_to s slots room (noted x (target_of i) v) (onto ver f f.reps) y
          fed_after room y o ver x z =
              ap (λ (u : Tree). judge_of s slots room x (run u s at)) (field_asks l ver i g)
              ∙ ask_judges s at v known slots room x (target_of i) (λ n. after_number f.kind f.role n (onto ver f f.reps))
              ∙ h.judges room (onto ver f f.reps) (noted x (target_of i) v) (noted_keeps x (target_of i) v ∙ z)
              ∙ ap (series_to s slots room (noted x (target_of i) v) (onto ver f f.reps)) o

          pub after_refused : (room : ℕ) (x : Refusal) → r ≡ Err x → Feeds s slots room at n p f w w' (Err x)
          after_refused room x o = record { judges = λ ver y z _. fed_after room (Err x) o ver y z; keeps = λ ver. tt }

          pub after_fed : (room at' n' : ℕ) → r ≡ Ok (record { at = at'; entries = n' }) → Feeds s slots room at n p f w w' (Ok (record { at = at'; entries = n'; payload = p; reps = f.reps; target = i; value = v }))
          after_fed room at' n' o =
              record {
                judges = λ ver x z y.
                    fed_after room (Ok (record { at = at'; entries = n' })) o ver x z
                    ∙ ap (λ (u : Record). judge_of s slots room u (run (onto ver f f.reps tt) s at'))
                    (noted_entries x (target_of i) v n' ∙ ap (λ (u : Record). noted u (target_of i) v) (same_payload (with_entries x n') p y));
                keeps = λ ver.
                    ap (λ (u : Tree). ahead w n (run u s at)) (field_asks l ver i g)
                    ∙ ask_keeps s at v known w n (target_of i) (λ n. after_number f.kind f.role n (onto ver f f.reps))
                    ∙ subst (series_in s w' (ahead w n (run (after_number f.kind f.role v (onto ver f f.reps)) s (at + 8))) (onto ver f f.reps)) o (h.keeps (onto ver f f.reps));
              }
