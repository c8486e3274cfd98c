-- Item by item: what remains is judged as the whole.
use Prim.Native.Nat.{ℕ, ◌-◌, ◌≤◌, ◌<◌}
use mathlib.Core.Path.{◌≡◌, refl, sym, ◌∙◌, ap, subst}
use mathlib.Core.List.{List}
use mathlib.Core.Bool.{Bool, not}
use lib.ListN.{set}
use lib.Dec.{eqb}
use native.Mathlib.Omega.{arith}
use borrow.Author.Tests.{lt-ltb}
use Rattle.layouts.specs.declared.Record.{Record}
use Rattle.layouts.specs.Primitive.{pick, Version, Result, ok}
use Rattle.layouts.specs.declared.Refusal.{Refusal}
use Rattle.layouts.specs.Refusal.{refused_by}
use Rattle.layouts.specs.Shape.{Tree, truth}
use Rattle.layouts.specs.Pieces.{Pieces, run}
use Rattle.layouts.specs.Record.{noted, with_entries, with_payload, with_number}
use Rattle.layouts.specs.Judge.{Ended, judge_of, entries_of}
use Rattle.table.specs.Table.{target_of}
use Rattle.walk_items.specs.declared.Item.{Item}
use Rattle.walk_items.specs.Items.{version_of, layout_tree, pieces_of, rest_tree, item_tree, fuel_of}
use Rattle.walk_items.proofs.Trees.{end_item, quiet_item}
use Rattle.walk_items.proofs.Measure.{read_less}
use Rattle.walk_take.specs.Taking.{ahead}
use Rattle.walk_take.proofs.Pieces.{nothing_in}
use Rattle.walk_judge.specs.declared.Answer.{Answer}
use Rattle.walk_judge.specs.Judged.{gathered, answer_as, ended_as, fed_to, fed_in, Feeds, FedTook}
use Rattle.walk_judge.proofs.Notes.{noted_none, noted_number, noted_flag, noted_count, noted_presence, is_true_lem}
use Rattle.walk_judge.specs.declared.Fed.{Fed}
use Rattle.std.specs.Prelude as Std
use Rattle.std.specs.Prelude.{Ok, Err}

abbrev pub to_come : List ℕ → Version → (at pc reps body i : ℕ) → Pieces
to_come s ver at pc reps body i = run (rest_tree ver pc reps body i tt) s at

-- with the record got, and the window w, what is to come is judged as the whole was, which is to end in o and v
pub record Going (s : List ℕ) (slots room : ℕ) (o : Result Ended) (v : List ℕ) (got : Record) (w : List ℕ) (p : Pieces) : Type 0 where
  pub judges : judge_of s slots room got p ≡ o
  pub keeps : ahead w got.entries p ≡ v

module _ (s : List ℕ) (slots room : ℕ) (got : Record) (w : List ℕ) (l at : ℕ) (f : Item) (e : rest_tree (version_of l) f.pc f.reps f.body f.group tt ≡ layout_tree l) where
  pub going_start : Going s slots room (judge_of s slots room got (pieces_of l s at)) (ahead w got.entries (pieces_of l s at)) got w (to_come s (version_of l) at f.pc f.reps f.body f.group)
  going_start = record { judges = ap (λ (t : Tree). judge_of s slots room got (run t s at)) e; keeps = ap (λ (t : Tree). ahead w got.entries (run t s at)) e }

module _ (s : List ℕ) (slots room : ℕ) (ver : Version) (at pc reps body x : ℕ) (f : Item) (law : rest_tree ver pc reps body x tt ≡ item_tree ver f)
    (o : Result Ended) (v : List ℕ) (got : Record) (w : List ℕ) (g : Going s slots room o v got w (to_come s ver at pc reps body x)) where
  by_item : (t : Tree) → item_tree ver f ≡ t → Going s slots room o v got w (run t s at)
  by_item t e = subst (λ (y : Tree). Going s slots room o v got w (run y s at)) (law ∙ e) g

  pub going_end : f.kind ≡ 0 → (answer_as (ended_as (ok (record { found = got; ends = at }))) ≡ answer_as (ended_as o)) × (w ≡ v)
  unfolding run judge_of entries_of
  going_end k =
      let h = by_item _ (end_item ver f k) in
      (ap (λ (y : Result Ended). answer_as (ended_as y)) h.judges, sym (nothing_in w got.entries) ∙ h.keeps)

  pub going_quiet : f.kind ≡ 16 → Going s slots room o v got w (to_come s ver at f.pc f.reps f.body f.group)
  going_quiet k = by_item _ (quiet_item ver f k)

  module _ (w' : List ℕ) (k : Std.Result Fed Refusal) (h : Feeds s slots room at got.entries got.payload f w w' k) where
    pub going_refused : (r : Refusal) (a : Answer) → k ≡ Err r → a ≡ answer_as (refused_by r) → a ≡ answer_as (ended_as o)
    going_refused r a q e =
        e ∙ ap (λ (y : Result Ended). answer_as (ended_as y)) (ap (fed_to s slots room ver got f) (sym q) ∙ sym (h.judges ver got refl refl) ∙ (by_item _ refl).judges)

    pub going_on : (a n p r target x : ℕ) → k ≡ Ok (record { at = a; entries = n; payload = p; reps = r; target = target; value = x }) → (y : Record) → y ≡ noted (with_payload (with_entries got n) p) (target_of target) x → y.entries ≡ n
        → Going s slots room o v y w' (to_come s ver a f.pc r f.body f.group)
    going_on a n p r target x q y e z =
        let b : judge_of s slots room y (to_come s ver a f.pc r f.body f.group) ≡ judge_of s slots room got (run (item_tree ver f) s at) =
        ap (λ (u : Record). judge_of s slots room u (to_come s ver a f.pc r f.body f.group)) e ∙ ap (fed_to s slots room ver got f) (sym q) ∙ sym (h.judges ver got refl refl) in
        let c = subst (fed_in s w' (ahead w got.entries (run (item_tree ver f) s at)) ver f) q (h.keeps ver) in
        record {
          judges = b ∙ (by_item _ refl).judges;
          keeps = ap (λ (i : ℕ). ahead w' i (to_come s ver a f.pc r f.body f.group)) z ∙ sym c ∙ (by_item _ refl).keeps;
        }

-- ---- a number in its target, written in place
module _ (ns cs : List ℕ) (b : Bool) (target v : ℕ) where
  abbrev Noted : (ns cs : List ℕ) → Bool → Type 0
  Noted ns' cs' b' = (n p : ℕ) → gathered ns' cs' b' n p ≡ noted (gathered ns cs b n p) (target_of target) v

  pub in_none : target ≡ 0 → Noted ns cs b
  in_none z n p = noted_none (gathered ns cs b n p) target v z

  module _ (z : target ≡ 0 → ⊥) where
    pub in_number : target < 13 → Noted (set ns (target - 1) v) cs b
    in_number h n p =
        let g : target - 1 < 12 = omega arith in
        ap (λ (u : Bool). gathered (pick u (set ns (target - 1) v) ns) cs b n p) (sym (lt-ltb (target - 1) 12 g)) ∙ noted_number (gathered ns cs b n p) target v z h

    pub in_flag : (y : ℕ) → y ≡ truth v → 13 ≤ target → target < 25 → Noted (set ns (target - 13) y) cs b
    in_flag y e l h n p =
        let g : target - 13 < 12 = omega arith in
        ap (λ (u : Bool). gathered (pick u (set ns (target - 13) y) ns) cs b n p) (sym (lt-ltb (target - 13) 12 g))
        ∙ ap (λ (x : ℕ). with_number (gathered ns cs b n p) (target - 13) x) e ∙ noted_flag (gathered ns cs b n p) target v z l h

    pub in_count : 25 ≤ target → target < 28 → Noted ns (set cs (target - 25) v) b
    in_count l h n p =
        let g : target - 25 < 3 = omega arith in
        ap (λ (u : Bool). gathered ns (pick u (set cs (target - 25) v) cs) b n p) (sym (lt-ltb (target - 25) 3 g)) ∙ noted_count (gathered ns cs b n p) target v z l h

    pub in_presence : 28 ≤ target → Noted ns cs (not (eqb v 0))
    in_presence l n p = noted_presence (gathered ns cs b n p) target v (not (eqb v 0)) z l (is_true_lem v)

-- ---- the measure
pub fed_less : (s : List ℕ) (at pc reps i : ℕ) (k : Std.Result Fed Refusal) (a n p r target v pc' i' : ℕ) → FedTook s at k → k ≡ Ok (record { at = a; entries = n; payload = p; reps = r; target = target; value = v }) → r < 18446744073709551616 → fuel_of s a pc' r i' < fuel_of s at pc reps i
fed_less s at pc reps i k a n p r target v pc' i' h q b = read_less s at pc reps i a r pc' i' (subst (FedTook s at) q h) b
