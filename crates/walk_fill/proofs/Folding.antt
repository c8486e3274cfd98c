-- A field, an item, and the fold: item by item, what is written and what is to come is what the layout reports.
use Prim.Native.Nat.{ℕ, ◌+◌, ◌≤◌, ◌<◌}
use mathlib.Core.Path.{◌≡◌, refl, sym, ◌∙◌, ap, subst}
use mathlib.Core.List.{List, [], ◌∷◌, append-nil}
use lib.ListN.{length}
use lib.Seq.{sets}
use native.Mathlib.Omega.{arith}
use native.Mathlib.Decide.{dec_lt}
use borrow.Author.Tests.{ne_eqb}
use Rattle.layouts.specs.Primitive.{number_at, Version}
use Rattle.layouts.specs.Shape.{Target, dropped, Tree, ask, say, fail, strings, units, field}
use Rattle.layouts.specs.Pieces.{Pieces}
use Rattle.layouts.specs.Record.{is_kept}
use Rattle.layouts.specs.Judge.{entry, entries_of, payload_of}
use Rattle.layouts.specs.Calls.{peek_number}
use Rattle.pieces.specs.Pieces.{num_read}
use Rattle.pieces.proofs.Numbers.{number_known, number_short}
use Rattle.table.specs.Table.{role_of, target_of, what_of}
use Rattle.walk_items.specs.declared.Item.{Item}
use Rattle.walk_items.specs.Items.{rest_tree, times_of, onto, item_tree, target_for, after_number}
use Rattle.walk_items.proofs.Trees.{end_item, quiet_item, times_item, field_item_lem}
use Rattle.walk_items.proofs.Fields.{is_text_lem, is_framed, is_number, after_set, after_pairs, after_false, after_true, after_type_0, after_typed, after_zero, after_position, after_nothing}
use Rattle.walk_rooms.specs.Rooms.{Put}
use Rattle.walk_rooms.proofs.Laws.{filling_start, filling_end}
use Rattle.walk_fill.specs.declared.Listed.{Listed}
use Rattle.walk_fill.specs.declared.Copied.{Copied}
use Rattle.walk_fill.specs.declared.Filled.{Filled}
use Rattle.walk_fill.specs.There.{nothing, run_there}
use Rattle.walk_fill.specs.Fill.{Rooms, Fills, rooms, Alike, Lists, Copies, FillsField}
use Rattle.walk_fill.proofs.There.{ask_there, past_none}
use Rattle.walk_fill.proofs.Pieces.{fills_start, fills_on, fills_as, fills_same, fills_front}
use Rattle.std.specs.Prelude.{Option, Some, None}

-- ---- an entry, by the role of its string
module _ {A : Type 0} (form : List ℕ → List A) (role start len : ℕ) (es : List A) (i : ℕ) where
  put_nothing : (vs : List A) → vs ≡ [] → Put es i vs es i
  put_nothing vs e = rw e record { size = refl; then = λ ws. refl; place = omega arith }

  pub not_kept : form [] ≡ [] → role < 2 → Put es i (form (entry (is_kept (role_of role)) start len [])) es i
  unfolding role_of
  not_kept nothing h = by (dec_lt role 1)
    where
      by : Dec (role < 1) → Put es i (form (entry (is_kept (role_of role)) start len [])) es i
      by (yes l) = let e : role ≡ 0 = omega arith in rw e (put_nothing (form []) nothing)
      by (no l) = let e : role ≡ 1 = omega arith in rw e (put_nothing (form []) nothing)

  pub is_kept_lem : 2 ≤ role → (es' : List A) (i' : ℕ) → Put es i (form (start ∷ len ∷ [])) es' i' → Put es i (form (entry (is_kept (role_of role)) start len [])) es' i'
  unfolding role_of
  is_kept_lem h es' i' p = rw (ne_eqb role 0 (λ e. omega arith), ne_eqb role 1 (λ e. omega arith)) p

-- ---- the place after a number
module _ (s : List ℕ) (at : ℕ) (m : Option ℕ) (e : num_read m ≡ peek_number s at) where
  pub number_past : m ≡ None → (i : Target) (k : Unit {0} → Tree) → Alike s (run_there (ask i (λ v. k tt)) s at) (run_there (k tt) s (length s))
  number_past q i k =
      let y = past_none s at (number_short s at m e q) (ask i (λ v. k tt)) in
      let z = past_none s (length s) (omega arith) (k tt) in
      (sym y.0 ∙ z.0, sym y.1 ∙ z.1)

  pub number_on : (n : ℕ) → m ≡ Some n → (i : Target) (k : Unit {0} → Tree) → Alike s (run_there (ask i (λ v. k tt)) s at) (run_there (k tt) s (at + 8))
  unfolding entries_of payload_of
  number_on n q i k =
      let z = number_known s at m e n q in
      let y = ask_there s at n z.1 z.0 i (λ v. k tt) in
      (ap entries_of y, ap (payload_of s) y)

-- ---- what follows the number of a field
module _ {A : Type 0} (form : List ℕ → List A) (s : List ℕ) (at : ℕ) (es : List A) (e : ℕ) where
  lists_as : (es' : List A) (r : Listed) (t u : (Unit {0} → Tree) → Tree) → ((k : Unit {0} → Tree) → t k ≡ u k) → Lists form s at u es e es' r → Lists form s at t es e es' r
  lists_as es' r t u q h ps p k =
      subst (λ (y : Tree). Fills form s (rooms es e ps p) (run_there y s at) (rooms es' r.place ps p) (run_there (k tt) s r.at)) (sym (q k)) (h ps p k)

  -- nothing is kept
  lists_none : (a : ℕ) (t : (Unit {0} → Tree) → Tree) → ((k : Unit {0} → Tree) → Alike s (run_there (t k) s at) (run_there (k tt) s a)) → Lists form s at t es e es (record { at = a; place = e })
  lists_none a t q ps p k = fills_as form s _ _ _ _ (fills_start form s _ _ _ refl) (run_there (k tt) s a) (q k).0 (q k).1

  module _ (kind role v : ℕ) where
    abbrev After : (es' : List A) → Listed → Type 0
    After es' r = Lists form s at (after_number kind role v) es e es' r

    module _ (es' : List A) (r : Listed) where
      pub set_after : kind ≡ 3 → Lists form s at (units (role_of role) 0 v) es e es' r → After es' r
      set_after q h = lists_as es' r _ _ (λ k. after_set kind role v k q) h

      pub pairs_after : kind ≡ 4 → Lists form s at (units (role_of role) 1 v) es e es' r → After es' r
      pairs_after q h = lists_as es' r _ _ (λ k. after_pairs kind role v k q) h

      pub typed_after : kind ≡ 7 → (v ≡ 0 → ⊥) → Lists form s at (units (role_of 0) 0 1) es e es' r → After es' r
      unfolding role_of units strings
      typed_after q f h = lists_as es' r _ _ (λ k. after_typed kind role v k q f) h

    module _ (a : ℕ) (h : (i : Target) (k : Unit {0} → Tree) → Alike s (run_there (ask i (λ v. k tt)) s at) (run_there (k tt) s a)) where
      number_after : ((k : Unit {0} → Tree) → after_number kind role v k ≡ ask dropped (λ v. k tt)) → After es (record { at = a; place = e })
      number_after q = lists_as es _ _ _ q (lists_none a _ (λ k. h dropped k))

      pub type_after : kind ≡ 7 → v ≡ 0 → After es (record { at = a; place = e })
      type_after q f = number_after (λ k. after_type_0 kind role v k q f)

      pub true_after : kind ≡ 6 → (v ≡ 0 → ⊥) → After es (record { at = a; place = e })
      true_after q f = number_after (λ k. after_true kind role v k q f)

    stays : ((k : Unit {0} → Tree) → after_number kind role v k ≡ k tt) → After es (record { at = at; place = e })
    stays q = lists_as es _ _ (λ k. k tt) q (lists_none at _ (λ k. (refl, refl)))

    pub false_after : kind ≡ 6 → v ≡ 0 → After es (record { at = at; place = e })
    false_after q f = stays (λ k. after_false kind role v k q f)

    pub zero_after : kind ≡ 8 → v ≡ 0 → After es (record { at = at; place = e })
    zero_after q f = stays (λ k. after_zero kind role v k q f)

    pub position_after : kind ≡ 8 → (v ≡ 0 → ⊥) → After es (record { at = length s; place = e })
    unfolding run_there
    position_after q f = lists_as es _ _ (λ k. fail 15 8) (λ k. after_position kind role v k q f) (lists_none (length s) (λ k. fail 15 8) (λ k. past_none s (length s) (omega arith) (k tt)))

    pub nothing_after : (kind ≡ 3 → ⊥) → (kind ≡ 4 → ⊥) → (kind ≡ 6 → ⊥) → (kind ≡ 7 → ⊥) → (kind ≡ 8 → ⊥) → After es (record { at = at; place = e })
    nothing_after a b c d f = stays (λ k. after_nothing kind role v k a b c d f)

-- ---- a field
module _ {A : Type 0} (form : List ℕ → List A) (s : List ℕ) (at kind role : ℕ) (es : List A) (e : ℕ) (ps : List ℕ) (p : ℕ) where
  abbrev Field : (es : List A) → (ps : List ℕ) → Filled → Type 0
  Field es' ps' r = FillsField form s at kind role (rooms es e ps p) es' ps' r

  field_as : (x : Rooms A) (q : Pieces) (i : ℕ) (k : Unit {0} → Tree) (t : Tree) → field (what_of kind (role_of role) (target_of i)) k ≡ t → Fills form s (rooms es e ps p) (run_there t s at) x q
      → Fills form s (rooms es e ps p) (run_there (field (what_of kind (role_of role) (target_of i)) k) s at) x q
  field_as x q i k t y h = subst (λ (y : Tree). Fills form s (rooms es e ps p) (run_there y s at) x q) (sym y) h

  pub frames_field : kind ≡ 5 → (ps' : List ℕ) (c : Copied) → Copies s at ps p ps' c → Field es ps' (record { at = c.at; place = e; payload = c.place })
  frames_field y ps' c h i k = field_as _ _ i k _ (is_framed kind role i k y) record { entries = filling_start _ _ _ _ (ap form (sym (h k).0)); payload = (h k).1 }

  module _ (es' : List A) (r : Listed) where
    pub text_field : kind ≡ 2 → Lists form s at (say (role_of role)) es e es' r → Field es' ps (record { at = r.at; place = r.place; payload = p })
    text_field y h i k = field_as _ _ i k _ (is_text_lem kind role i k y) (h ps p k)

    pub number_field : (kind ≡ 2 → ⊥) → (kind ≡ 5 → ⊥) → (n : ℕ) → n ≡ number_at s at → at + 8 ≤ length s → Lists form s (at + 8) (after_number kind role n) es e es' r
        → Field es' ps (record { at = r.at; place = r.place; payload = p })
    unfolding entries_of payload_of
    number_field a c n q l h i k =
        let y = ask_there s at n q l (target_of (target_for kind i)) (λ v. after_number kind role v k) in
        field_as _ _ i k _ (is_number kind role i k a c) (fills_front form s _ _ (run_there (after_number kind role n k) s (at + 8)) _ _ (ap entries_of y) (ap (payload_of s) y) (h ps p k))

-- ---- the fold
abbrev pub to_come : List ℕ → Version → (at pc reps body i : ℕ) → Pieces
to_come s v at pc reps body i = run_there (rest_tree v pc reps body i tt) s at

module _ {A : Type 0} (form : List ℕ → List A) (s : List ℕ) (x₀ : Rooms A) (p₀ : Pieces) (x : Rooms A) (v : Version) (at pc reps body i : ℕ)
    (inv : Fills form s x₀ p₀ x (to_come s v at pc reps body i)) (f : Item) (law : rest_tree v pc reps body i tt ≡ item_tree v f) where
  by_item : Fills form s x₀ p₀ x (run_there (item_tree v f) s at)
  by_item = fills_same form s x₀ p₀ x _ inv _ (ap (λ (t : Tree). run_there t s at) law)

  module _ (none : form [] ≡ []) where
    abbrev Full : Type 0
    Full = Put x₀.entries x₀.place (form (entries_of p₀)) x.entries x.place × (x.payload ≡ sets x₀.payload x₀.filled (payload_of s p₀))

    full : Alike s nothing (run_there (item_tree v f) s at) → Full
    unfolding entries_of payload_of
    full z =
        let g = by_item in (
          filling_end _ _ _ _ _ _ g.entries (ap form (sym z.0) ∙ none),
          (filling_end _ _ _ _ _ _ g.payload (sym z.1)).then [] ∙ ap (sets x₀.payload x₀.filled) (append-nil (payload_of s p₀)),
        )

    pub fold_end : f.kind ≡ 0 → Full
    unfolding run_there entries_of payload_of
    fold_end k = full (rw (end_item v f k) (refl, refl))

    pub fold_cut : (m : Option ℕ) → num_read m ≡ peek_number s at → m ≡ None → Full
    fold_cut m e q = full (past_none s at (number_short s at m e q) (item_tree v f))

  pub fold_quiet : f.kind ≡ 16 → Fills form s x₀ p₀ x (to_come s v at f.pc f.reps f.body f.group)
  fold_quiet k = fills_same form s x₀ p₀ x _ by_item _ (ap (λ (t : Tree). run_there t s at) (quiet_item v f k))

  pub fold_times : 16 < f.kind → (n t : ℕ) → n ≡ number_at s at → at + 8 ≤ length s → t ≡ times_of f.kind n → Fills form s x₀ p₀ x (to_come s v (at + 8) f.pc t f.body f.group)
  unfolding entries_of payload_of
  fold_times l n t e h g =
      let y = ap (λ (u : Tree). run_there u s at) (times_item v f (omega arith) (λ z. omega arith)) ∙ ask_there s at n e h (target_of f.target) (λ m. onto v f (times_of f.kind m) tt) in
      let z = ap (λ (u : ℕ). run_there (onto v f u tt) s (at + 8)) (sym g) in
      fills_as form s x₀ p₀ x _ by_item _ (ap entries_of y ∙ ap entries_of z) (ap (payload_of s) y ∙ ap (payload_of s) z)

  pub fold_filled : (f.kind ≡ 0 → ⊥) → (f.kind ≡ 16 → ⊥) → f.kind ≤ 16 → (es : List A) (ps : List ℕ) (r : Filled) → FillsField form s at f.kind f.role x es ps r
      → Fills form s x₀ p₀ (rooms es r.place ps r.payload) (to_come s v r.at f.pc f.reps f.body f.group)
  fold_filled a b l es ps r h =
      fills_on form s x₀ p₀ x _ (fills_same form s x₀ p₀ x _ by_item _ (ap (λ (t : Tree). run_there t s at) (field_item_lem v f a (omega arith)))) _ _ (h f.target (onto v f f.reps))
