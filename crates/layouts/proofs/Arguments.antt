-- Reading agrees with skipping for arguments: what `skip_op_args` judges is a lowered form of what `read_op_args` reads, by induction over shapes and by
-- computation over the table; but for AddToStore below 1.25.
use Prim.Native.Nat.{ℕ, zero, suc, ◌≤◌}
use mathlib.Core.Path.{◌≡◌, refl, ◌∙◌, ap, subst}
use mathlib.Core.List.{List, [], ◌∷◌, ◌++◌, map}
use mathlib.Core.Bool.{Bool, true, false, ◌||◌}
use lib.Dec.{eqb}
use borrow.Author.Tests.{eqb-true, eqb-false}
use native.Mathlib.Omega.{arith}
use Rattle.layouts.specs.declared.Mode.{Mode}
use Rattle.layouts.specs.declared.Mode.TheVariants.{Ported, Published}
use Rattle.layouts.specs.Primitive.{pick, Version, version, at_least, ok, refused}
use Rattle.layouts.specs.Shape.{dropped, Role, passed, kept, What, num, str, set, pairs, framed, maybe, typed, position, Gated, always, from, below, between, once, Tree, stop, strings, units, if_true, by_type, field, there, what, gated, fields, group, groups, layout}
use Rattle.layouts.specs.Pieces.{run}
use Rattle.layouts.specs.Record.{blank}
use Rattle.layouts.specs.Judge.{Ended, judge_of}
use Rattle.layouts.specs.Soft.{kept_of}
use Rattle.layouts.specs.Operations.{Skip, nothing, empty, first, paths, overrides, lowered, lowered_all, skipped, until, Operation, Row, row, unknown, row_if, find_in, operations, published, rows_in, find}
use Rattle.layouts.specs.Calls.{Context, chosen, arguments_tree, skipped_tree, by_row, arguments_kinds, skipped_kinds, Answer, answered, read_op_args, skip_op_args, skip_framed}
use Rattle.layouts.specs.Demands.{RefusedBy, framed_arguments, Alike}
use Rattle.layouts.proofs.Calls.{answer_of_lem, refused_of, refused_onward}
use Rattle.layouts.proofs.Lowers.{not_both, Lowers, asks, tests, passes, keeps, leaves, stops, Ends, Agree, both_refused, both, no_later, lowers_agree, lowers_kept}

-- ---- shapes
module _ {b : Bool} {j : ℕ} where
  strings_lower : (m : Role) (n : ℕ) (k k' : Unit {0} → Tree) → Lowers b j (k tt) (k' tt) → Lowers b j (strings m n k) (strings passed n k')
  unfolding strings
  strings_lower m zero k k' h = h
  strings_lower m (suc n) k k' h = passes (strings_lower m n k k' h)

  units_lower : (m : Role) (e n : ℕ) (k k' : Unit {0} → Tree) → Lowers b j (k tt) (k' tt) → Lowers b j (units m e n k) (units passed e n k')
  unfolding units
  units_lower m e zero k k' h = h
  units_lower m e (suc n) k k' h = strings_lower m (suc e) (λ u. units m e n k) (λ u. units passed e n k') (units_lower m e n k k' h)

  maybe_lower : (n : ℕ) (k k' : Unit {0} → Tree) → Lowers b j (k tt) (k' tt) → Lowers b j (if_true n k) (if_true n k')
  maybe_lower zero k k' h = h
  maybe_lower (suc n) k k' h = asks (λ x. h)

  typed_lower : (n : ℕ) (k k' : Unit {0} → Tree) → Lowers b j (k tt) (k' tt) → Lowers b j (by_type n k) (by_type n k')
  typed_lower zero k k' h = asks (λ x. h)
  typed_lower (suc n) k k' h = passes h

  gate_lower : (c : Bool) (w w' : What) (k k' : Unit {0} → Tree) → Lowers b j (field w k) (field w' k') → Lowers b j (k tt) (k' tt)
      → Lowers b j (gated c w k) (gated c w' k')
  unfolding gated
  gate_lower true w w' k k' f h = f
  gate_lower false w w' k k' f h = h

abbrev is_f : What → Bool
is_f (num i) = false
is_f (str r) = false
is_f (set r i) = false
is_f (pairs r i) = false
is_f framed = true
is_f maybe = false
is_f typed = false
is_f position = false

abbrev none : List Gated → Bool
none [] = true
none (x ∷ is) = false

-- nothing follows F
abbrev last_f : List Gated → Bool
last_f [] = true
last_f (x ∷ is) = pick (is_f (what x)) (none is) (last_f is)

-- F is there
abbrev has_f : Version → List Gated → Bool
has_f v [] = false
has_f v (x ∷ is) = pick (is_f (what x)) (there v x) (has_f v is)

-- the field whose string is answered; S where none is
abbrev answered_field : Skip → List Gated → What
answered_field nothing is = str kept
answered_field empty is = str kept
answered_field first [] = str kept
answered_field first (x ∷ is) = what x
answered_field paths is = str kept
answered_field overrides is = str kept

module _ (v : Version) where
  abbrev rest : List Gated → Unit {0} → Tree
  rest is u = fields v is (λ u. stop)

  module _ (q : Skip) (j : ℕ) where
    frames_lower : (c : Bool) (is : List Gated) → none is ≡ true → Lowers c j (gated c framed (rest is)) (rest (lowered_all q is) tt)
    unfolding gated field fields
    frames_lower true [] f = leaves
    frames_lower false [] f = stops
    frames_lower c (x ∷ is) f = absurd (not_both f refl)

    -- behind its gate the lowered field stands for the field
    module _ (c : Bool) (is : List Gated) (put : What → Gated) (e : (w : What) → rest (put w ∷ lowered_all q is) tt ≡ gated c w (rest (lowered_all q is))) where
      put_lower : {b : Bool} (w w' : What) → Lowers b j (field w (rest is)) (field w' (rest (lowered_all q is))) → Lowers b j (rest is tt) (rest (lowered_all q is) tt)
          → Lowers b j (gated c w (rest is)) (rest (put w' ∷ lowered_all q is) tt)
      put_lower w w' f h = rw (e w') (gate_lower c w w' (rest is) (rest (lowered_all q is)) f h)

      field_lower : (w : What) → pick (is_f w) (none is) (last_f is) ≡ true → (last_f is ≡ true → Lowers (has_f v is) j (rest is tt) (rest (lowered_all q is) tt))
          → Lowers (pick (is_f w) c (has_f v is)) j (gated c w (rest is)) (rest (map put (lowered q w) ++ lowered_all q is) tt)
      unfolding field
      field_lower (num i) f h = put_lower _ _ (asks (λ n. h f)) (h f)
      field_lower (str m) f h = put_lower _ _ (passes (h f)) (h f)
      field_lower (set m i) f h = put_lower _ _ (asks (λ n. units_lower m 0 n (rest is) (rest (lowered_all q is)) (h f))) (h f)
      field_lower (pairs m i) f h = put_lower _ _ (asks (λ n. units_lower m 1 n (rest is) (rest (lowered_all q is)) (h f))) (h f)
      field_lower framed f h = frames_lower c is f
      field_lower maybe f h = put_lower _ _ (asks (λ n. maybe_lower n (rest is) (rest (lowered_all q is)) (h f))) (h f)
      field_lower typed f h = put_lower _ _ (asks (λ n. typed_lower n (rest is) (rest (lowered_all q is)) (h f))) (h f)
      field_lower position f h = put_lower _ _ (tests (h f)) (h f)

    fields_lower : (is : List Gated) → last_f is ≡ true → Lowers (has_f v is) j (rest is tt) (rest (lowered_all q is) tt)
    unfolding fields
    fields_lower [] f = stops
    fields_lower (always w ∷ is) f = field_lower true is always (λ w'. refl) w f (fields_lower is)
    fields_lower (from x w ∷ is) f = field_lower (there v (from x w)) is (from x) (λ w'. refl) w f (fields_lower is)
    fields_lower (below x w ∷ is) f = field_lower (there v (below x w)) is (below x) (λ w'. refl) w f (fields_lower is)
    fields_lower (between x y w ∷ is) f = field_lower (there v (between x y w)) is (between x y) (λ w'. refl) w f (fields_lower is)

  kept_lower : (c : Bool) (w : What) (is : List Gated) → w ≡ str kept → pick (is_f w) (none is) (last_f is) ≡ true
      → Lowers (pick (is_f w) c (has_f v is)) 1 (gated c w (rest is)) (gated c w (rest (lowered_all first is)))
  unfolding field
  kept_lower c w is e f =
      let g : last_f is ≡ true = rw e at f in
      rw e (gate_lower c (str kept) (str kept) (rest is) (rest (lowered_all first is)) (keeps (fields_lower first 0 is g)) (fields_lower first 1 is g))

  skipped_lower : (q : Skip) (is : List Gated) → answered_field q is ≡ str kept → last_f is ≡ true → Lowers (has_f v is) 1 (rest is tt) (rest (skipped q is) tt)
  unfolding fields
  skipped_lower nothing is e f = fields_lower nothing 1 is f
  skipped_lower empty is e f = fields_lower empty 1 is f
  skipped_lower first [] e f = stops
  skipped_lower first (x ∷ is) e f = kept_lower (there v x) (what x) is e f
  skipped_lower paths is e f = fields_lower paths 1 is f
  skipped_lower overrides is e f = fields_lower overrides 1 is f

-- ---- the table
-- what holds of every row holds of the one that is found
pub found : {A : Type 0} (f g : Operation → A) (os : List Operation) (c : ℕ) (o : Operation) → map f os ≡ map g os → find_in os c ≡ row o → (f o ≡ g o) × (o.code ≡ c)
unfolding find_in
found f g [] c o m e = let z : ◌≡◌ {A = ℕ} 0 1 = cc in absurd (omega arith)
found f g (x ∷ os) c o m e = by (eqb x.code c) refl e (found f g os c o (cc))
  where
    by : (b : Bool) → eqb x.code c ≡ b → row_if b x (find_in os c) ≡ row o → (find_in os c ≡ row o → (f o ≡ g o) × (o.code ≡ c)) → (f o ≡ g o) × (o.code ≡ c)
    by true t q h =
        let y : x ≡ o = cc in
        let z : f x ≡ g x = cc in
        rw (← y) (z, eqb-true x.code c t)
    by false t q h = h q

-- computed of all operations in both modes: F is last, and the answered field is S
last_F : (m : Mode) → map (λ (o : Operation). last_f o.arguments) (rows_in m) ≡ map (λ (o : Operation). true) (rows_in m)
unfolding operations published
last_F Ported = refl
last_F Published = refl

answered_S : (m : Mode) → map (λ (o : Operation). answered_field o.skip o.arguments) (rows_in m) ≡ map (λ (o : Operation). str kept) (rows_in m)
unfolding operations published
answered_S Ported = refl
answered_S Published = refl

-- skipping has S N N s of AddToStore alone
abbrev older : ℕ → List Gated
older op = pick (eqb op 7) (until 25 (str kept ∷ num dropped ∷ num dropped ∷ str passed ∷ [])) []

older_skips : (m : Mode)
    → map (λ (o : Operation). o.skips) (rows_in m) ≡ map (λ (o : Operation). older o.code ++ skipped o.skip o.arguments) (rows_in m)
unfolding operations published
older_skips Ported = refl
older_skips Published = refl

framed_arguments_lem : (m : Mode) (v : Version)
    → map (λ (o : Operation). has_f v o.arguments) (rows_in m)
    ≡ map (λ (o : Operation). pick (eqb o.code 7) (at_least v (version 1 25)) (framed_arguments o.code)) (rows_in m)
unfolding operations published
framed_arguments_lem Ported v = refl
framed_arguments_lem Published v = refl

module _ (c : Context) (a : Alike c) where
  abbrev op : ℕ
  op = c.op

  abbrev v : Version
  v = c.spoken

  -- S N N s stands below 1.25 only
  older_none : (is : List Gated) → rest v (older op ++ is) tt ≡ rest v is tt
  unfolding fields gated
  older_none is = by (eqb op 7) refl
    where
      by : (d : Bool) → eqb op 7 ≡ d → rest v (pick d (until 25 (str kept ∷ num dropped ∷ num dropped ∷ str passed ∷ [])) [] ++ is) tt ≡ rest v is tt
      by true e = rw (a (eqb-true op 7 e))
      by false e = refl

  framed_alike : pick (eqb op 7) (at_least v (version 1 25)) (framed_arguments op) ≡ framed_arguments op
  framed_alike = by (eqb op 7) refl
    where
      by : (d : Bool) → eqb op 7 ≡ d → pick d (at_least v (version 1 25)) (d || eqb op 44 || eqb op 45) ≡ d || eqb op 44 || eqb op 45
      by true e = a (eqb-true op 7 e)
      by false e = refl

  row_lowers : (o : Operation) → chosen c ≡ row o → Lowers (framed_arguments op) 1 (layout v (once o.arguments ∷ [])) (layout v (once o.skips ∷ []))
  unfolding find layout groups group
  row_lowers o e =
      let m = c.mode in
      let l = found _ _ (rows_in m) op o (last_F m) e in
      let s = found _ _ (rows_in m) op o (answered_S m) e in
      let h = found _ _ (rows_in m) op o (framed_arguments_lem m v) e in
      let k = found _ _ (rows_in m) op o (older_skips m) e in
      let g : has_f v o.arguments ≡ framed_arguments op = h.0 ∙ ap (λ c. pick (eqb c 7) (at_least v (version 1 25)) (framed_arguments c)) h.1 ∙ framed_alike in
      rw (k.0, k.1, older_none (skipped o.skip o.arguments), ← g) (skipped_lower v o.skip o.arguments s.0 l.0)

-- below 1.25 the kept string of S N N s is the only one
old_lowers : (m : Mode) (v : Version) → at_least v (version 1 25) ≡ false → let c : Context = record { mode = m; op = 7; spoken = v } in Lowers false 1 (skipped_tree c) (skipped_tree c)
unfolding skipped_tree find operations published layout groups group fields gated field
old_lowers Ported v e = rw e (keeps (asks (λ n. asks (λ m. passes stops))))
old_lowers Published v e = rw e (keeps (asks (λ n. asks (λ m. passes stops))))

-- ---- the calls
-- skipped arguments keep at most one string: the one slot of `skip_op_args` is room enough
pub skipped_keeps : (c : Context) (s : List ℕ) → kept_of (run (skipped_tree c) s 0) ≤ 1
unfolding skipped_tree run kept_of
skipped_keeps c s = by (eqb c.op 7) (at_least c.spoken (version 1 25)) refl refl
  where
    alike : Alike c → (f : Row) → chosen c ≡ f → kept_of (run (by_row f (λ o. layout c.spoken (once o.skips ∷ []))) s 0) ≤ 1
    alike a (row o) e = lowers_kept (row_lowers c a o e) s 0
    alike a unknown e = omega arith

    by : (b d : Bool) → eqb c.op 7 ≡ b → at_least c.spoken (version 1 25) ≡ d → kept_of (run (skipped_tree c) s 0) ≤ 1
    by false d e f = alike (λ q. absurd (eqb-false c.op 7 e q)) (chosen c) refl
    by true true e f = alike (λ q. f) (chosen c) refl
    by true false e f = rw (eqb-true c.op 7 e) (lowers_kept (old_lowers c.mode c.spoken f) s 0)

module _ (c : Context) (s : List ℕ) (slots room : ℕ) where
  arguments_agree : Alike c
      → Agree (framed_arguments c.op) s 0 (judge_of s slots room blank (run (arguments_tree c) s 0)) (judge_of s 1 0 blank (run (skipped_tree c) s 0))
  unfolding arguments_tree skipped_tree run judge_of
  arguments_agree a = by (chosen c) refl
    where
      by : (f : Row) → chosen c ≡ f
          → Agree (framed_arguments c.op) s 0 (judge_of s slots room blank (run (by_row f (λ o. layout c.spoken (once o.arguments ∷ []))) s 0))
          (judge_of s 1 0 blank (run (by_row f (λ o. layout c.spoken (once o.skips ∷ []))) s 0))
      by (row o) e = lowers_agree s slots room (row_lowers c a o e) 0 (omega arith) blank blank (omega arith)
      by unknown e = both_refused 0 0 (omega arith) (omega arith)

  read_ends : (b : Bool) → framed_arguments c.op ≡ b → Alike c → (x : Answer) → read_op_args c s slots room ≡ ok x
      → (y : Answer) × (skip_op_args c s ≡ ok y) × Ends b s y.ends x.ends
  unfolding read_op_args skip_op_args
  read_ends b f a x e =
      let y = answer_of_lem c.spoken (arguments_kinds c) (judge_of s slots room blank (run (arguments_tree c) s 0)) x e in
      let z = both y.0 (arguments_agree a) y.1 in
      let w : y.0.ends ≡ x.ends = cc in
      let g = subst (λ n. Ends (framed_arguments c.op) s z.0.ends n) w z.2 in
      (_, ap (answered c.spoken (skipped_kinds c)) z.1, subst (λ d. Ends d s z.0.ends x.ends) f g)

  -- where reading succeeds and the arguments have no F, skipping ends at the same byte
  pub read_skips_arguments : framed_arguments c.op ≡ false → (x : Answer) → read_op_args c s slots room ≡ ok x
      → (y : Answer) × (skip_op_args c s ≡ ok y) × (y.ends ≡ x.ends)
  read_skips_arguments f x e = read_ends false f (λ q. let z : framed_arguments 7 ≡ false = rw q at f in absurd (not_both refl z)) x e

  -- where it succeeds and they have one, skipping ends before F, and skipping F from there on ends where reading does
  pub read_skips_framed : framed_arguments c.op ≡ true → Alike c → (x : Answer) → read_op_args c s slots room ≡ ok x
      → (y : Answer) × (skip_op_args c s ≡ ok y) × (y.ends ≤ x.ends) × (z : Ended) × (skip_framed s y.ends ≡ ok z) × (z.ends ≡ x.ends)
  read_skips_framed f a x e = let y = read_ends true f a x e in (y.0, y.1, y.2.0, y.2.1, y.2.2, y.2.3)

  -- where skipping refuses, reading refuses too, at that place or an earlier one
  pub skip_refuses_arguments : Alike c → (which place stream : ℕ) → skip_op_args c s ≡ refused which place stream → RefusedBy place (read_op_args c s slots room)
  unfolding read_op_args skip_op_args
  skip_refuses_arguments a which place stream q =
      refused_onward place (judge_of s slots room blank (run (arguments_tree c) s 0)) _
      (no_later (arguments_agree a) (refused_of c.spoken (skipped_kinds c) (judge_of s 1 0 blank (run (skipped_tree c) s 0)) which place stream q))
