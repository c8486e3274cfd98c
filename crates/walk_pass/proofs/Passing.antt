-- A number, a string, framed data, what follows a number and a whole field, passed.
use Prim.Native.Nat.{ℕ, ◌+◌, ◌-◌, ◌≤◌, ◌<◌}
use mathlib.Core.Path.{◌≡◌, refl, ◌∙◌, ap}
use mathlib.Core.List.{List}
use lib.ListN.{length}
use native.Mathlib.Omega.{arith}
use Rattle.layouts.specs.Primitive.{number_at}
use Rattle.layouts.specs.declared.Refusal.{Refusal}
use Rattle.layouts.specs.Refusal.{plain}
use Rattle.layouts.specs.Shape.{Target, dropped, Role, passed, Tree, ask, say, frames, fail, strings, field}
use Rattle.layouts.specs.Pieces.{text_of, chunk_of, run, skip_of}
use Rattle.layouts.proofs.Steps.{ask_short, ask_value}
use Rattle.pieces.specs.Pieces.{text_found, chunk_found}
use Rattle.pieces.proofs.Found.{chunk_read, wrong_plain}
use Rattle.pieces.proofs.Nodes.{whole_found, frames_by, frames_as, last_found, part_found}
use Rattle.table.specs.Table.{role_of, target_of, what_of}
use Rattle.walk_strings.specs.Strings.{series, Passes, PastFrom}
use Rattle.walk_items.specs.Items.{target_for, after_number}
use Rattle.walk_items.proofs.Fields.{is_text_lem, is_framed, is_number, after_set, after_pairs, after_false, after_true, after_type_0, after_typed, after_zero, after_position, after_nothing}
use Rattle.walk_pass.specs.Passing.{Took}
use Rattle.pieces.specs.declared.Text as T
use Rattle.pieces.specs.declared.Chunk as C
use Rattle.pieces.specs.declared.Chunk.TheVariants.{Last}
use Rattle.pieces.specs.declared.Chunk.TheVariants.{Part}
use Rattle.pieces.specs.declared.Text.TheVariants.{Whole}
use Rattle.std.specs.Prelude.{Ok, Err, Result}

module _ (s : List ℕ) (at : ℕ) where
  pub took_past : (r : Result ℕ Refusal) → Took s at r → PastFrom at r
  took_past (Ok a) h = omega (arith, h)
  took_past (Err x) h = tt

  -- the same tree
  passes_as : (t u : (Unit {0} → Tree) → Tree) (r : Result ℕ Refusal) → ((k : Unit {0} → Tree) → t k ≡ u k) → Passes s at u r → Passes s at t r
  passes_as t u r e h k = ap (λ (x : Tree). skip_of (run x s at)) (e k) ∙ h k

  -- ---- a number
  pub cut_passes : (x : Refusal) → (length s < at + 8) × (x ≡ plain 1 at) → (i : Target) (j : (Unit {0} → Tree) → ℕ → Tree) → Passes s at (λ k. ask i (j k)) (Err x)
  unfolding skip_of
  cut_passes x known i j k = rw known.1 (ap skip_of (ask_short s at _ refl i (j k) known.0))

  module _ (n : ℕ) (known : (at + 8 ≤ length s) × (n ≡ number_at s at)) where
    pub value_passes : (i : Target) (j : (Unit {0} → Tree) → ℕ → Tree) (r : Result ℕ Refusal) → Passes s (at + 8) (λ k. j k n) r → Passes s at (λ k. ask i (j k)) r
    unfolding skip_of
    value_passes i j r h k = ap skip_of (ask_value s at n known.1 i (j k) known.0) ∙ h k

    pub value_took : (r : Result ℕ Refusal) → PastFrom (at + 8) r → Took s at r
    value_took (Ok a) h = (h, known.0)
    value_took (Err x) h = tt

  -- ---- a string
  pub whole_took : (m : Result T.Text Refusal) → m ≡ text_found (text_of (length s) (number_at s at) at) → (start len next : ℕ) → m ≡ Ok (Whole start len next) → Took s at (Ok next)
  whole_took m e start len next q = let h = whole_found s at m e start len next q in (h.0, omega (arith, h))

-- ---- framed data
pub record Framing (s : List ℕ) (from at : ℕ) : Type 0 where
  pub on : from ≤ at
  pub same : (k : Unit {0} → Tree) → skip_of (run (frames k) s from) ≡ skip_of (run (frames k) s at)

pub framing_start : (s : List ℕ) (from : ℕ) → Framing s from from
framing_start s from = record { on = omega arith; same = λ k. refl }

module _ (s : List ℕ) (from at : ℕ) (g : Framing s from at) (m : Result C.Chunk Refusal) (e : m ≡ chunk_found (chunk_of (length s) (number_at s at) at)) where
  framed : (y : Result C.Chunk Refusal) → m ≡ y → (k : Unit {0} → Tree) → skip_of (run (frames k) s from) ≡ skip_of (frames_by s at k (chunk_read y))
  framed y q k = g.same k ∙ ap skip_of (frames_as s at m e y q k)

  pub framing_wrong : (x : Refusal) → m ≡ Err x → Passes s from frames (Err x) × Took s from (Err x)
  unfolding skip_of
  framing_wrong x q = (λ k. rw (wrong_plain s at m e x q) (framed (Err x) q k), tt)

  pub framing_last : (next : ℕ) → m ≡ Ok (Last next) → Passes s from frames (Ok next) × Took s from (Ok next)
  framing_last next q =
      let h = last_found s at m e next q in
      let o = g.on in
      (framed (Ok (Last next)) q, (omega (arith, h), omega (arith, h)))

  pub framing_on : (start len next : ℕ) → m ≡ Ok (Part start len next) → Framing s from next
  unfolding skip_of
  framing_on start len next q =
      let h = part_found s at m e start len next q in
      let o = g.on in
      record { on = omega (arith, h); same = framed (Ok (Part start len next)) q }

-- ---- what follows a number
module _ (s : List ℕ) (at kind n : ℕ) (r : Result ℕ Refusal) where
  abbrev After : Type 0
  After = (role : ℕ) → Passes s at (after_number kind role n) r

  pub set_after : kind ≡ 3 → ((m : Role) → Passes s at (series m 0 0 n) r) → After
  unfolding series strings
  set_after e h role = passes_as s at _ _ r (λ k. after_set kind role n k e) (h (role_of role))

  pub pairs_after : kind ≡ 4 → ((m : Role) → Passes s at (series m 0 1 n) r) → After
  unfolding series strings
  pairs_after e h role = passes_as s at _ _ r (λ k. after_pairs kind role n k e) (h (role_of role))

  pub true_after : kind ≡ 6 → (n ≡ 0 → ⊥) → ((i : Target) → Passes s at (λ k. ask i (λ v. k tt)) r) → After
  true_after e z h role = passes_as s at _ _ r (λ k. after_true kind role n k e z) (h dropped)

  pub type_after : kind ≡ 7 → n ≡ 0 → ((i : Target) → Passes s at (λ k. ask i (λ v. k tt)) r) → After
  type_after e z h role = passes_as s at _ _ r (λ k. after_type_0 kind role n k e z) (h dropped)

  pub typed_after : kind ≡ 7 → (n ≡ 0 → ⊥) → ((m : Role) → Passes s at (say m) r) → After
  typed_after e z h role = passes_as s at _ _ r (λ k. after_typed kind role n k e z) (h passed)

module _ (s : List ℕ) (at kind n : ℕ) where
  pub false_after : kind ≡ 6 → n ≡ 0 → After s at kind n (Ok at)
  false_after e z role = passes_as s at _ (λ k. k tt) (Ok at) (λ k. after_false kind role n k e z) (λ k. refl)

  pub zero_after : kind ≡ 8 → n ≡ 0 → After s at kind n (Ok at)
  zero_after e z role = passes_as s at _ (λ k. k tt) (Ok at) (λ k. after_zero kind role n k e z) (λ k. refl)

  pub position_after : kind ≡ 8 → (n ≡ 0 → ⊥) → (x : Refusal) → x ≡ plain 15 (at - 8) → After s at kind n (Err x)
  unfolding run skip_of
  position_after e z x p role = passes_as s at _ (λ k. fail 15 8) (Err x) (λ k. after_position kind role n k e z) (λ k. rw p)

  pub nothing_after : (kind ≡ 3 → ⊥) → (kind ≡ 4 → ⊥) → (kind ≡ 6 → ⊥) → (kind ≡ 7 → ⊥) → (kind ≡ 8 → ⊥) → After s at kind n (Ok at)
  nothing_after x y z w v role = passes_as s at _ (λ k. k tt) (Ok at) (λ k. after_nothing kind role n k x y z w v) (λ k. refl)

-- ---- a field by its kind
module _ (s : List ℕ) (at kind : ℕ) (r : Result ℕ Refusal) where
  abbrev FieldPasses : Type 0
  FieldPasses = (role i : ℕ) → Passes s at (field (what_of kind (role_of role) (target_of i))) r

  pub text_field : kind ≡ 2 → ((m : Role) → Passes s at (say m) r) → FieldPasses
  text_field e h role i = passes_as s at _ _ r (λ k. is_text_lem kind role i k e) (h (role_of role))

  pub frames_field : kind ≡ 5 → Passes s at frames r → FieldPasses
  frames_field e h role i = passes_as s at _ _ r (λ k. is_framed kind role i k e) h

module _ (s : List ℕ) (at kind : ℕ) (x : kind ≡ 2 → ⊥) (y : kind ≡ 5 → ⊥) where
  pub cut_field : (z : Refusal) → (length s < at + 8) × (z ≡ plain 1 at) → FieldPasses s at kind (Err z)
  cut_field z known role i = passes_as s at _ _ (Err z) (λ k. is_number kind role i k x y) (cut_passes s at z known (target_of (target_for kind i)) (λ k n. after_number kind role n k))

  pub number_field : (n : ℕ) → (at + 8 ≤ length s) × (n ≡ number_at s at) → (r : Result ℕ Refusal) → After s (at + 8) kind n r → FieldPasses s at kind r
  number_field n known r h role i =
      passes_as s at _ _ r (λ k. is_number kind role i k x y) (value_passes s at n known (target_of (target_for kind i)) (λ k n. after_number kind role n k) r (h role))
