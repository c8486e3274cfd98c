-- A field by its kind: a string, framed data, or a number and what follows it.
use Prim.Native.Nat.{ℕ, zero, suc}
use mathlib.Core.Path.{◌≡◌, refl, ◌∙◌, ap}
use mathlib.Core.Bool.{Bool, true, false}
use lib.Dec.{eqb}
use borrow.Author.Tests.{eq-eqb, ne_eqb, eqb-true}
use Rattle.layouts.specs.Primitive.{pick, nonzero_position}
use Rattle.layouts.specs.Shape.{Target, dropped, passed, num, set, pairs, maybe, typed, position, Tree, ask, say, frames, fail, units, if_true, by_type, if_zero, field}
use Rattle.table.specs.Table.{role_of, target_of, what_of}
use Rattle.walk_items.specs.Items.{target_for, after_number}

number_by : (role target : ℕ) (k : Unit {0} → Tree) (a b c d e : Bool)
    → field (pick a (set (role_of role) (target_of target)) (pick b (pairs (role_of role) (target_of target)) (pick c maybe (pick d typed (pick e position (num (target_of target))))))) k
    ≡ ask (pick a (target_of target) (pick b (target_of target) (pick c dropped (pick d dropped (pick e dropped (target_of target))))))
    (λ n. pick a (units (role_of role) 0 n k) (pick b (units (role_of role) 1 n k) (pick c (if_true n k) (pick d (by_type n k) (pick e (if_zero n k) (k tt))))))
unfolding field
number_by role target k true b c d e = refl
number_by role target k false true c d e = refl
number_by role target k false false true d e = refl
number_by role target k false false false true e = refl
number_by role target k false false false false true = refl
number_by role target k false false false false false = refl

target_by_lem : (target : ℕ) (c d e : Bool) → pick c dropped (pick d dropped (pick e dropped (target_of target))) ≡ target_of (pick c 0 (pick d 0 (pick e 0 target)))
unfolding target_of
target_by_lem target true d e = refl
target_by_lem target false true e = refl
target_by_lem target false false true = refl
target_by_lem target false false false = refl

-- sets and pairs keep their target
kind_target : (kind : ℕ) (i : Target) (a b : Bool) → eqb kind 3 ≡ a → eqb kind 4 ≡ b
    → pick a i (pick b i (pick (eqb kind 6) dropped (pick (eqb kind 7) dropped (pick (eqb kind 8) dropped i))))
    ≡ pick (eqb kind 6) dropped (pick (eqb kind 7) dropped (pick (eqb kind 8) dropped i))
kind_target kind i true b p q = rw (eqb-true kind 3 p)
kind_target kind i false true p q = rw (eqb-true kind 4 q)
kind_target kind i false false p q = refl

module _ (kind role : ℕ) where
  module _ (target : ℕ) (k : Unit {0} → Tree) where
    pub is_text_lem : kind ≡ 2 → field (what_of kind (role_of role) (target_of target)) k ≡ say (role_of role) k
    unfolding field what_of
    is_text_lem e = rw (eq-eqb kind 2 e)

    pub is_framed : kind ≡ 5 → field (what_of kind (role_of role) (target_of target)) k ≡ frames k
    unfolding field what_of
    is_framed e = rw e

    pub is_number : (kind ≡ 2 → ⊥) → (kind ≡ 5 → ⊥) → field (what_of kind (role_of role) (target_of target)) k ≡ ask (target_of (target_for kind target)) (λ n. after_number kind role n k)
    unfolding what_of after_number
    is_number a b =
        rw (ne_eqb kind 2 a, ne_eqb kind 5 b)
        (number_by role target k (eqb kind 3) (eqb kind 4) (eqb kind 6) (eqb kind 7) (eqb kind 8)
        ∙ ap (λ (i : Target). ask i (λ n. after_number kind role n k))
        (kind_target kind (target_of target) (eqb kind 3) (eqb kind 4) refl refl ∙ target_by_lem target (eqb kind 6) (eqb kind 7) (eqb kind 8)))

  -- ---- what follows the number n
  module _ (n : ℕ) (k : Unit {0} → Tree) where
    pub after_set : kind ≡ 3 → after_number kind role n k ≡ units (role_of role) 0 n k
    unfolding after_number
    after_set e = rw e

    pub after_pairs : kind ≡ 4 → after_number kind role n k ≡ units (role_of role) 1 n k
    unfolding after_number
    after_pairs e = rw e

    pub after_false : kind ≡ 6 → n ≡ 0 → after_number kind role n k ≡ k tt
    unfolding after_number
    after_false e z = rw (e, z)

    pub after_type_0 : kind ≡ 7 → n ≡ 0 → after_number kind role n k ≡ ask dropped (λ v. k tt)
    unfolding after_number
    after_type_0 e z = rw (e, z)

    pub after_zero : kind ≡ 8 → n ≡ 0 → after_number kind role n k ≡ k tt
    unfolding after_number
    after_zero e z = rw (e, z)

    pub after_nothing : (kind ≡ 3 → ⊥) → (kind ≡ 4 → ⊥) → (kind ≡ 6 → ⊥) → (kind ≡ 7 → ⊥) → (kind ≡ 8 → ⊥) → after_number kind role n k ≡ k tt
    unfolding after_number
    after_nothing a b c d e = rw (ne_eqb kind 3 a, ne_eqb kind 4 b, ne_eqb kind 6 c, ne_eqb kind 7 d, ne_eqb kind 8 e)

  true_by : (n : ℕ) (k : Unit {0} → Tree) → (n ≡ 0 → ⊥) → if_true n k ≡ ask dropped (λ v. k tt)
  true_by zero k z = absurd (z refl)
  true_by (suc n) k z = refl

  type_by : (n : ℕ) (k : Unit {0} → Tree) → (n ≡ 0 → ⊥) → by_type n k ≡ say passed k
  type_by zero k z = absurd (z refl)
  type_by (suc n) k z = refl

  zero_by : (n : ℕ) (k : Unit {0} → Tree) → (n ≡ 0 → ⊥) → if_zero n k ≡ fail nonzero_position 8
  zero_by zero k z = absurd (z refl)
  zero_by (suc n) k z = refl

  pub after_true : (n : ℕ) (k : Unit {0} → Tree) → kind ≡ 6 → (n ≡ 0 → ⊥) → after_number kind role n k ≡ ask dropped (λ v. k tt)
  unfolding after_number
  after_true n k e z = rw e (true_by n k z)

  pub after_typed : (n : ℕ) (k : Unit {0} → Tree) → kind ≡ 7 → (n ≡ 0 → ⊥) → after_number kind role n k ≡ say passed k
  unfolding after_number
  after_typed n k e z = rw e (type_by n k z)

  pub after_position : (n : ℕ) (k : Unit {0} → Tree) → kind ≡ 8 → (n ≡ 0 → ⊥) → after_number kind role n k ≡ fail nonzero_position 8
  unfolding after_number
  after_position n k e z = rw e (zero_by n k z)
